-- `Text::put_name` meets its contract. The loop's invariant: of the bytes before its place those that are not zero are put.
use Rattle.std.proofs.Common.{take}
use Rattle.text.specs.Putting.{Puts}
use Rattle.text.proofs.Names.{kept}
use Rattle.text.proofs.Text.put_name.Given as goal

abbrev pub invariant-loop-b : goal.invariant-loop-b
invariant-loop-b l = Puts l.initial.self (kept (take l.b-index l.b-items)) l.self
