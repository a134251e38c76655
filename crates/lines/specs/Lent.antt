-- What a call leaves in a lent record.
use Rattle.std.specs.Prelude.{◌≡◌, Ok, Err}
use Rattle.behaviour.specs.declared.Behaviour.{Behaviour}
use Rattle.session.specs.declared.Session.{Session}
use Rattle.session.specs.Said.{Answer}
use Rattle.session.specs.Opening.{Opens}
use Rattle.lines.specs.Said.{Outcome}

-- a lent record after a call, and what the call says
pub record Kept : Type 0 where
  pub session : Session
  pub outcome : Outcome

-- "A refused session call hands back no session: the one given still holds, and a lent record keeps its values"
abbrev pub kept_of : Session → Answer → Kept
kept_of line (Ok z) = record { session = z; outcome = (Ok tt) }
kept_of line (Err f) = record { session = line; outcome = Err f }

-- an opening into a record, with what it leaves there and says
pub record OpensInto (c s : Behaviour) (line : Session) (k : Kept) : Type 0 where
  pub answer : Answer
  pub opens : Opens c s answer
  pub kept : k ≡ kept_of line answer
