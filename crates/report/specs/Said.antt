-- What a report says: the number of bytes written, or the refusal.
use Rattle.std.specs.Prelude.{Result, ℕ}
use Rattle.behaviour.specs.declared.Refusal.{Refusal}

abbrev pub Reported : Type 0
Reported = Result ℕ Refusal
