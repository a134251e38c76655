-- `aut::insert` meets its contract. The loop's invariant: what was passed, and the message in the hand put in among the rest, is what is asked for.
use Rattle.std.proofs.Common.{◌≡◌, take}
use Rattle.aut.specs.Adding.{insert}
use Rattle.aut.proofs.Inserting.{carried}
use Rattle.aut.proofs.insert.Given as goal

abbrev pub invariant-loop-place : goal.invariant-loop-place
invariant-loop-place l = insert l.fn.m (take l.n l.fn.a) ≡ carried l.held l.place-items l.place-index
