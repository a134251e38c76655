-- Demands 1, 2 and 3, over the definitions that the functions' statements cite; each has one theorem, 1 and 2 in proofs/Promises.antt.
-- A name in brackets is the function whose statement a line begins from.
use Rattle.std.specs.Prelude.{◌≡◌, List, ◌++◌, ◌↔◌, ℕ, ◌<◌, ◌≤◌, length, take, drop, None, Err, Ok}
use Rattle.behaviour.specs.declared.Reason.TheVariants as reason
use Rattle.behaviour.specs.declared.Behaviour.{Behaviour}
use Rattle.behaviour.specs.declared.Refusal.{Refusal}
use Rattle.behaviour.specs.Limits.{most_bytes}
use Rattle.behaviour.specs.Refusals.{refusal}
use Rattle.behaviour.specs.SoundLaws.{Sized}
use Rattle.aut.specs.File.{file, accept}
use Rattle.roundtrip.specs.Theorems.{Given}
use Rattle.writer.specs.Said.{Written}
use Rattle.writer.specs.Text.{text}
use Rattle.writer.specs.Written.{Writes}
use Rattle.runs.specs.System.{ToBad, Reachable}
use Rattle.stands.specs.Stands.{said, cause, pair}
use Rattle.stands.specs.Stands as rules
use Rattle.compliance.specs.Compliance.{Compliant}
use Rattle.compliance.specs.SoundStand.{Sound}
use Rattle.verdict.specs.Said.{Verdict}
use Rattle.verdict.specs.declared.Judgement.TheVariants as verdict
use Rattle.verdict.specs.Answer.{Says}
use Rattle.session.specs.declared.Session.{Session}
use Rattle.session.specs.Said.{Answer}
use Rattle.session.specs.Answers.{refused, named, messaged, rolled_back}
use Rattle.session.specs.Opening.{Begins, Opens}
use Rattle.lines.specs.Lent.{kept_of, OpensInto}
use Rattle.report.specs.Said.{Reported}
use Rattle.report.specs.Reports.{Reports}
use Rattle.host.specs.Calls as host
use Rattle.host.specs.Sessions.{watched_number, number-demand3}
use Rattle.packing.specs.Value.{value_bytes, unpacked}
use Rattle.history.specs.Demand.{Demand}
use Rattle.session.specs.Sides.{client_side, server_side}
use Rattle.session.specs.Watched.{watched}
use Rattle.session.proofs.Demand3.{demand3}
use Rattle.lines.specs.History as lent
use Rattle.lines.proofs.History.{lines-demand3}
use Rattle.promises.specs.Table.{InTable}
use Rattle.promises.specs.Reading.{Reading}
use Rattle.promises.specs.Values.{Longer, LongerText}
use Rattle.promises.specs.Verdicts.{TurnedDown, Shortest}
use Rattle.promises.specs.Boundary.{Answered}

-- DEMAND 1. "Any bytes may come as a description, any numbers as a session. Every public entry point refuses what it cannot use, by a
-- number from 01's table, asks nothing of its caller (no `requires`), and leaves lent memory untouched on refusal."
-- That none has a `requires` is held by tests/statements/run. Every value of the code is `Sized`: its arrays have their lengths.
pub record Demand1 : Type 1 where
  -- "Any bytes may come as a description": taken, or refused by 1 to 11 with the value of zero states [aut::read_file]
  pub read : (bytes : List ℕ) → Reading (file bytes)
  -- "refuses […] by a number from 01's table […] and leaves lent memory untouched" [writer::write, verdict::judge, report::report]
  pub write : (b : Behaviour) (out left : List ℕ) (f : Refusal) → Writes b out (Err f) left → InTable f × (left ≡ out)
  pub judge : (c s : Behaviour) (run left : List ℕ) (f : Refusal) → Says c s run (Err f) left → InTable f × (left ≡ run)
  pub report : (f g out left : List ℕ) (x : Refusal) → Reports f g out (Err x) left → InTable x × (left ≡ out)
  -- [session::open, Session::message, Session::rollback]
  pub opening : (c s : Behaviour) (f : Refusal) → Opens c s (Err f) → InTable f
  pub message : (c s : Behaviour) (z : Session) (name : List ℕ) (f : Refusal) → Err f ≡ messaged c s z name → InTable f
  pub rollback : (c s : Behaviour) (z : Session) (f : Refusal) → Err f ≡ rolled_back c s z → InTable f
  -- the lent record keeps its values [lines::open, lines::message, lines::rollback]
  pub lent_open : (c s : Behaviour) (line after : Session) (f : Refusal) → OpensInto c s line (record { session = after; outcome = Err f }) → InTable f × (after ≡ line)
  pub lent_message : (c s : Behaviour) (line after : Session) (name : List ℕ) (f : Refusal)
      → kept_of line (messaged c s line name) ≡ record { session = after; outcome = Err f } → InTable f × (after ≡ line)
  pub lent_rollback : (c s : Behaviour) (line after : Session) (f : Refusal)
      → kept_of line (rolled_back c s line) ≡ record { session = after; outcome = Err f } → InTable f × (after ≡ line)
  -- "any numbers as a session", any bytes as a value: below 2^32 a grant, else a refusal of the table [host::tyttmose_…]
  pub c_read : (bytes out left : List ℕ) (r : ℕ) → host.Reads bytes out r left → Answered r (left ≡ out)
  pub c_write : (value out left : List ℕ) (r : ℕ) → host.Writes value out r left → Answered r (left ≡ out)
  pub c_judge : (client server run left : List ℕ) (r : ℕ) → host.Judges client server run r left → Answered r (left ≡ run)
  pub c_text : (client server out left : List ℕ) (r : ℕ) → host.Texts client server out r left → Answered r (left ≡ out)
  pub c_open : (client server : List ℕ) (r : ℕ) → host.Opens client server r → Answered r Unit
  pub c_message : (client server : List ℕ) (session : ℕ) (name : List ℕ) (r : ℕ) → host.Messages client server session name r → Answered r Unit
  pub c_rollback : (client server : List ℕ) (session r : ℕ) → host.RollsBack client server session r → Answered r Unit
  -- "refuses what it cannot use": 13 exactly to "a behaviour value that no accepted file gives", before any other
  pub write_13 : (b : Behaviour) (out left : List ℕ) (r : Written) → Sized b → Writes b out r left → (r ≡ Err (refusal reason.NoFileGivesIt 0)) ↔ (Given b → ⊥)
  pub judge_13 : (c s : Behaviour) (run left : List ℕ) (v : Verdict) → Sized c → Sized s → Says c s run v left → (v ≡ Err (refusal reason.NoFileGivesIt 0)) ↔ (Given c × Given s → ⊥)
  pub open_13 : (c s : Behaviour) (a : Answer) → Sized c → Sized s → Opens c s a → (a ≡ refused reason.NoFileGivesIt) ↔ (Given c × Given s → ⊥)
  pub message_13 : (c s : Behaviour) (z : Session) (name : List ℕ) → Sized c → Sized s → (messaged c s z name ≡ refused reason.NoFileGivesIt) ↔ (Given c × Given s → ⊥)
  pub rollback_13 : (c s : Behaviour) (z : Session) → Sized c → Sized s → (rolled_back c s z ≡ refused reason.NoFileGivesIt) ↔ (Given c × Given s → ⊥)
  -- 14 exactly on "a pair that isn't compliant"
  pub open_14 : (c s : Behaviour) (a : Answer) → Given c → Given s → Opens c s a → (a ≡ refused reason.NotCompliant) ↔ (Compliant c s → ⊥)
  -- 15 exactly at a "stand with a state out of range, or a return point not marked"
  pub message_15 : (c s : Behaviour) (z : Session) (name : List ℕ) → Given c → Given s → (messaged c s z name ≡ refused reason.NoStand) ↔ (Sound c s z.stand → ⊥)
  pub rollback_15 : (c s : Behaviour) (z : Session) → Given c → Given s → (rolled_back c s z ≡ refused reason.NoStand) ↔ (Sound c s z.stand → ⊥)
  -- 16 exactly to a "message not possible now, or not a name"
  pub message_16 : (c s : Behaviour) (z : Session) (name : List ℕ) → Given c → Given s → Sound c s z.stand → (messaged c s z name ≡ refused reason.MessageNotPossible) ↔ (said c s z.stand (named name) ≡ None)
  -- 17 exactly to a "rollback not possible now"
  pub rollback_17 : (c s : Behaviour) (z : Session) → Given c → Given s → Sound c s z.stand → (rolled_back c s z ≡ refused reason.RollbackNotPossible) ↔ (rules.rollback z.stand ≡ None)
  -- 12 exactly to a "text or run longer than the lent buffer"
  pub write_12 : (b : Behaviour) (out left : List ℕ) (r : Written) → Given b → Writes b out r left → (r ≡ Err (refusal reason.LongerThanLent 0)) ↔ (length out < length (text b))
  pub judge_12 : (c s : Behaviour) (run left : List ℕ) (v : Verdict) → Given c → Given s → Says c s run v left → (v ≡ Err (refusal reason.LongerThanLent 0)) ↔ Longer c s run left
  pub report_12 : (f g out left : List ℕ) (r : Reported) → Reports f g out r left → (r ≡ Err (refusal reason.LongerThanLent 0)) ↔ LongerText f g out

-- DEMAND 2, of one answer v of the verdict on a pair that two files give, with the lent buffer before it (run) and after it (left).
pub record Verdict31 (c s : Behaviour) (run : List ℕ) (v : Verdict) (left : List ℕ) : Type 1 where
  -- "The verdict is that of source document 001's Definition 3.1."
  pub definition : ((k : ℕ) × (v ≡ Ok (verdict.Compliant k))) ↔ Compliant c s
  -- "A pair is turned down exactly if some run of messages and rollbacks reaches a bad stand,"
  pub turned_down : TurnedDown v ↔ ((w : List ℕ) × ToBad (pair c s) w)
  -- "and the shortest such run is given if the lent buffer holds it." (12 if it does not)
  pub shortest : (w : List ℕ) (k : Shortest c s w) → length w ≤ length run → (v ≡ Ok (verdict.Stuck (cause c s k.bad.node) (length w))) × (left ≡ w ++ drop (length w) run)
  pub longer : (w : List ℕ) → Shortest c s w → length run < length w → (v ≡ Err (refusal reason.LongerThanLent 0)) × (left ≡ run)
  -- the number of stands is "that of the defined reachable set", and no byte is written
  pub counted : (k : ℕ) → v ≡ Ok (verdict.Compliant k) → Reachable (pair c s) k × (left ≡ run)

-- DEMAND 2
pub record Demand2 : Type 1 where
  -- [verdict::judge]
  pub verdict : (c s : Behaviour) (run left : List ℕ) (v : Verdict) → Given c → Given s → Says c s run v left → Verdict31 c s run v left
  -- "A description written out reads back as the same behaviour," [writer::write, aut::read_file]
  pub reads_back : (b : Behaviour) (out left : List ℕ) (n : ℕ) → Sized b → Writes b out (Ok n) left → file (take n left) ≡ accept b
  -- "and one read in and written keeps its meaning.": it reads as the same value; 4,096 bytes are room for it
  pub keeps_meaning : (bytes out left : List ℕ) (b : Behaviour) (n : ℕ) → file bytes ≡ accept b → Writes b out (Ok n) left → file (take n left) ≡ file bytes
  pub has_room : (bytes out left : List ℕ) (b : Behaviour) (r : Written) → file bytes ≡ accept b → most_bytes ≤ length out → Writes b out r left → r ≡ Ok (length (text b))
  -- the same through C [host::tyttmose_read, host::tyttmose_write]: value is what a granted read left, told what a granted write of it left
  pub c_keeps_meaning : (bytes out value : List ℕ) (r : ℕ) (room told : List ℕ) (n : ℕ) (b : Behaviour) → file bytes ≡ accept b
      → host.Reads bytes out r value → r < 4294967296 → host.Writes (take value_bytes value) room n told → n < 4294967296 → file (take n told) ≡ file bytes

-- DEMAND 3. "In a session opened on an accepted pair, after any calls, refused ones among them: a message is granted exactly if one side may
-- send it and the other takes all that side may send; both move. A side's return point is the marked state it last left by a message since
-- the last granted rollback (or the opening), or none. A rollback is granted exactly when both hold one; it puts both there and clears both.
-- At all times the client is finished, or one side has a message to send and the other takes every message it may send."
-- `Demand` (history/specs/Demand.antt) has these sentences, a field each, over what is seen of a session after any list of calls.
-- `Begins c s z` is what an opening states that hands back z: the pair is compliant.
pub record Demand3 : Type 0 where
  -- [session::open, Session::message, Session::rollback]
  pub by_value : (c s : Behaviour) (z : Session) → Begins c s z → Demand named (client_side c) (server_side s) (watched c s z)
  -- on a lent record [lines::open, lines::message, lines::rollback]
  pub on-a-line : (c s : Behaviour) (z : Session) (l : lent.Line c s z) → Begins c s z → Demand named (client_side c) (server_side s) (lent.seen_of l)
  -- as the number that a C host takes from each answer [host::tyttmose_open, host::tyttmose_message, host::tyttmose_rollback]
  pub as_a-number : (client server : List ℕ) (z : Session) (b : Begins (unpacked client) (unpacked server) z)
      → Demand named (client_side (unpacked client)) (server_side (unpacked server)) (watched_number client server z b)

-- THE THEOREM of demand 3; those of demands 1 and 2: proofs/Promises.antt
pub demand_3 : Demand3
demand_3 = record { by_value = demand3; on-a-line = lines-demand3; as_a-number = number-demand3 }
