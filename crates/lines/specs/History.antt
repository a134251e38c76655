-- A line whose record is lent to any list of calls, and what is seen of it.
use Rattle.std.specs.Prelude.{◌≡◌, Bool, true, false, Ok, Err}
use Rattle.behaviour.specs.declared.Behaviour.{Behaviour}
use Rattle.stands.specs.declared.ClientState.{ClientState}
use Rattle.stands.specs.declared.ServerState.{ServerState}
use Rattle.history.specs.Calls.{Call, Calls, opening, ◌then◌}
use Rattle.history.specs.Demand.{Seen}
use Rattle.session.specs.declared.Session.{Session}
use Rattle.session.specs.Watched.{answered}
use Rattle.lines.specs.Said.{Outcome}
use Rattle.lines.specs.Lent.{kept_of}

-- a line whose record was opened as z: what it holds after any calls, and what each call says, by what the lent calls ensure
pub record Line (c s : Behaviour) (z : Session) : Type 0 where
  pub holds : Calls → Session
  pub says : Calls → Call → Outcome
  pub first : holds opening ≡ z
  pub kept : (h : Calls) (k : Call) → kept_of (holds h) (answered c s (holds h) k) ≡ record { session = holds (h then k); outcome = says h k }

abbrev pub granted : Outcome → Bool
granted (Ok _) = true
granted (Err f) = false

abbrev pub seen_of : {c s : Behaviour} {z : Session} → Line c s z → Seen ClientState ServerState
seen_of l = record { granted = λ h k. granted (l.says h k); client = λ h. (l.holds h).stand.client; server = λ h. (l.holds h).stand.server }
