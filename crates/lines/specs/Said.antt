-- What a call on a lent record says: it is granted, or the refusal.
use Rattle.std.specs.Prelude.{Result, ⊤}
use Rattle.behaviour.specs.declared.Refusal.{Refusal}

abbrev pub Outcome : Type 0
Outcome = Result ⊤ Refusal
