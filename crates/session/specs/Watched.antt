-- What is seen of a session over any calls with one pair.
use Rattle.std.specs.Prelude.{Option, None, Some, Ok, Err}
use Rattle.behaviour.specs.declared.Behaviour.{Behaviour}
use Rattle.stands.specs.declared.ClientState.{ClientState}
use Rattle.stands.specs.declared.ServerState.{ServerState}
use Rattle.history.specs.Calls.{Call, message, rollback}
use Rattle.history.specs.Demand.{Seen}
use Rattle.history.specs.Played.{Standing, seen}
use Rattle.session.specs.declared.Session.{Session}
use Rattle.session.specs.Said.{Answer}
use Rattle.session.specs.Answers.{messaged, rolled_back}
use Rattle.session.specs.Sides.{standing}

-- what a call answers
unfoldable pub answered : Behaviour → Behaviour → Session → Call → Answer
answered c s z (message n) = messaged c s z n
answered c s z rollback = rolled_back c s z

-- the session that an answer hands back
abbrev pub handed_back : Answer → Option Session
handed_back (Ok y) = Some y
handed_back (Err f) = None

abbrev pub next : Behaviour → Behaviour → Session → Call → Option Session
next c s z k = handed_back (answered c s z k)

-- where both sides stand in a session
abbrev pub at : Session → Standing ClientState ServerState
at z = standing z.stand

-- what is seen of a session that was opened as z, over any calls with the pair c, s
abbrev pub watched : Behaviour → Behaviour → Session → Seen ClientState ServerState
watched c s z = seen (next c s) z at
