-- What a message or rollback call answers: 01's refusals in their order, or else the step.
use Rattle.std.specs.Prelude.{List, ℕ, eqb, Option, None, Some, Result, Err, Ok, ⊤}
use Rattle.names.specs.If.{if}
use Rattle.names.specs.Names.{name_number}
use Rattle.behaviour.specs.declared.Reason.TheVariants as reason
use Rattle.behaviour.specs.declared.Behaviour.{Behaviour}
use Rattle.behaviour.specs.declared.Reason.{Reason}
use Rattle.behaviour.specs.Refusals.{refusal}
use Rattle.behaviour.specs.Sound.{sound}
use Rattle.stands.specs.declared.Stand.{Stand}
use Rattle.stands.specs.Stands.{said, rollback}
use Rattle.steps.specs.Tests.{is_stand}
use Rattle.session.specs.declared.Session.{Session}
use Rattle.session.specs.Said.{Answer}

-- the place of each refusal that a session call gives is 0
abbrev pub refused : Reason → Answer
refused k = Err (refusal k 0)

-- "Calls on values: 13 (client before server), then 14 or 15, then the rest": 13, or 15 "stand with a state out of range, or a return point not marked", or neither
unfoldable pub fault : Behaviour → Behaviour → Stand → Result ⊤ Reason
fault c s p = if (sound c) (if (sound s) (if (is_stand c s p) (Ok tt) (Err reason.NoStand)) (Err reason.NoFileGivesIt)) (Err reason.NoFileGivesIt)

abbrev pub checked : Result ⊤ Reason → Answer → Answer
checked (Ok _) a = a
checked (Err k) a = refused k

-- the next session, or refused for k if there is no step
abbrev pub stepped : Reason → Option Stand → Answer
stepped k None = refused k
stepped k (Some p) = Ok (record { stand = p })

-- "the message's name as bytes, without the sign": its number, if the bytes are a name
unfoldable pub named : List ℕ → Option ℕ
named bytes = if (eqb (name_number bytes) 0) None (Some (name_number bytes))

-- "it moves both sides by a message step", or 16 "message not possible now, or not a name"
unfoldable pub messaged : Behaviour → Behaviour → Session → List ℕ → Answer
messaged c s z bytes = checked (fault c s z.stand) (stepped reason.MessageNotPossible (said c s z.stand (named bytes)))

-- "a rollback call by a rollback step", or 17 "rollback not possible now"
unfoldable pub rolled_back : Behaviour → Behaviour → Session → Answer
rolled_back c s z = checked (fault c s z.stand) (stepped reason.RollbackNotPossible (rollback z.stand))
