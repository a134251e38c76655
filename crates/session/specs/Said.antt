-- What a call by value says: "either the next session or a refusal with its number and place".
use Rattle.std.specs.Prelude.{Result}
use Rattle.behaviour.specs.declared.Refusal.{Refusal}
use Rattle.session.specs.declared.Session.{Session}

abbrev pub Answer : Type 0
Answer = Result Session Refusal
