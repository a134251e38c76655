-- `aut::read_lines` meets its contract. The loop's invariant: the lines that are left, with the value so far, give what is asked for.
use Rattle.std.proofs.Common.{◌≡◌, ◌+◌, ◌-◌, ◌≤◌}
use Rattle.behaviour.specs.Limits.{most_states}
use Rattle.aut.specs.Adding.{bare}
use Rattle.aut.specs.File.{lines}
use Rattle.aut.proofs.read_lines.Given as goal

abbrev pub invariant-loop-p : goal.invariant-loop-p
invariant-loop-p l = (lines l.count 2 (bare l.states) l.rest ≡ lines (l.count + 2 - l.p-counter) l.p-counter l.b l.left) × (l.b.states ≤ most_states) × (l.b.count + 2 ≤ l.p-counter)
