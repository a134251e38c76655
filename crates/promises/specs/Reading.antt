-- What reading a file gives: it is taken, or refused by a number of the table with a value of zero states.
use Rattle.std.specs.Prelude.{◌≡◌, Err}
use Rattle.behaviour.specs.declared.Behaviour.{Behaviour}
use Rattle.behaviour.specs.declared.Refusal.{Refusal}
use Rattle.aut.specs.Adding.{bare}
use Rattle.aut.specs.File.{Read, value_of, accept}
use Rattle.promises.specs.Table

-- taken, or refused by the table: "A refused read gives a behaviour of zero states"
pub data Reading (r : Read) : Type 0 where
  taken : (b : Behaviour) → r ≡ accept b → Reading r
  refused : (f : Refusal) → r ≡ Err f → Table.InTable f → value_of r ≡ bare 0 → Reading r
