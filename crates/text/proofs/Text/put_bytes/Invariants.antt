-- `Text::put_bytes` meets its contract. The loop's invariant: the bytes before its place are put.
use Rattle.std.proofs.Common.{take}
use Rattle.text.specs.Putting.{Puts}
use Rattle.text.proofs.Text.put_bytes.Given as goal

abbrev pub invariant-loop-b : goal.invariant-loop-b
invariant-loop-b l = Puts l.initial.self (take l.b-index l.w) l.self
