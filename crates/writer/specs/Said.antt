-- What writing says: the number of bytes written, or the refusal.
use Rattle.std.specs.Prelude.{Result, ℕ}
use Rattle.behaviour.specs.declared.Refusal.{Refusal}

abbrev pub Written : Type 0
Written = Result ℕ Refusal
