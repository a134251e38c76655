-- Calls from C: every answer is below 2^32 and a grant, or it is a refusal of the table and leaves lent memory as it was.
use Rattle.std.specs.Prelude.{◌≡◌, refl, Bool, true, false, List, ℕ, ◌<◌, leb, length, Option, None, Some, Ok, Err}
use Rattle.std.proofs.Common.{ap, ◌∙◌, arith}
use Rattle.behaviour.specs.declared.Reason.{Reason}
use Rattle.behaviour.specs.declared.Reason.TheVariants as reason
use Rattle.behaviour.specs.Refusals.{row_number}
use Rattle.behaviour.specs.declared.Behaviour.{Behaviour}
use Rattle.aut.specs.File.{file}
use Rattle.writer.specs.Written as writer
use Rattle.stands.specs.declared.Stand.{Stand}
use Rattle.stands.specs.Stands.{said}
use Rattle.stands.specs.Stands as rules
use Rattle.compliance.specs.Kept.{ranged, message-sound, rollback-sound}
use Rattle.compliance.specs.SoundStand.{Sound}
use Rattle.verdict.specs.Said.{Verdict}
use Rattle.verdict.specs.declared.Judgement.TheVariants as verdict
use Rattle.verdict.specs.Answer.{BothSound, Says}
use Rattle.session.specs.declared.Session.{Session}
use Rattle.session.specs.Said.{Answer}
use Rattle.session.specs.Answers.{named, messaged, rolled_back}
use Rattle.session.specs.Opening as session
use Rattle.report.specs.Said.{Reported}
use Rattle.report.specs.Reports.{Reports}
use Rattle.report.proofs.Few.{run-few}
use Rattle.packing.specs.Back.{unpacked-sized}
use Rattle.packing.specs.Numbers.{packed_stand}
use Rattle.packing.specs.Value.{value_bytes, unpacked}
use Rattle.packing.specs.Value as packing
use Rattle.host.specs.Numbers.{verdict_number, reported_number, session_number, session_of}
use Rattle.host.specs.Enough.{printed_few}
use Rattle.host.specs.Told.{stands-few, cause-told}
use Rattle.host.specs.Calls.{Reads, Judges, Opens, Messages, RollsBack, Texts}
use Rattle.promises.specs.Table
use Rattle.promises.specs.Table.{Table as Row, InTable}
use Rattle.promises.specs.Reading.{Reading, taken, refused as not_taken}
use Rattle.promises.proofs.Reading.{reading}
use Rattle.promises.specs.Values.{judge-refused, report-granted, report-refused}
use Rattle.promises.specs.Sessions as sessions
use Rattle.promises.specs.Sessions.{Called, open_refused}
use Rattle.promises.proofs.Sessions.{called, call-refused}
use Rattle.promises.specs.Boundary.{Answered, granted, refused, small}

pub c_read : (bytes out left : List ℕ) (r : ℕ) → Reads bytes out r left → Answered r (left ≡ out)
unfolding packing.left
c_read bytes out left r h = go (reading bytes)
  where
    go : Reading (file bytes) → Answered r (left ≡ out)
    go (taken b e) = room (leb value_bytes (length out)) refl
      where
        room : (t : Bool) → leb value_bytes (length out) ≡ t → Answered r (left ≡ out)
        room true f = granted (let i : r ≡ value_bytes = rw (e, f) at h.says in omega arith)
        room false f = refused writer.too_long (rw (e, f) at h.says) Table.longer_than_lent (rw (e, f) at h.leaves)
    go (not_taken f i t v) = refused f (rw i at h.says) t (rw i at h.leaves)

pub c_judge : (c s run left : List ℕ) (r : ℕ) → Judges c s run r left → Answered r (left ≡ run)
unfolding Says
c_judge c s run left r h = go h.verdict h.says h.number
  where
    go : (v : Verdict) → Says (unpacked c) (unpacked s) run v left → r ≡ verdict_number v → Answered r (left ≡ run)
    go (Ok (verdict.Compliant k)) y i = granted (omega (arith, i, stands-few (unpacked c) (unpacked s) (unpacked-sized c) (unpacked-sized s) y.sounds k y.judged))
    go (Ok (verdict.Stuck e n)) y i =
        granted (omega (
          arith,
          i,
          y.long,
          (cause-told (unpacked c) (unpacked s) (unpacked-sized c) (unpacked-sized s) y.sounds e y.steps y.judged).1,
          run-few (unpacked c) (unpacked s) e y.steps y.sounds.client y.sounds.server (unpacked-sized c) (unpacked-sized s) y.judged,
        ))
    go (Err f) y i = let t = judge-refused (unpacked c) (unpacked s) run left f y in refused f i t.0 t.1

pub c_text : (f g out left : List ℕ) (r : ℕ) → Texts f g out r left → Answered r (left ≡ out)
c_text f g out left r h = go h.reported h.reports h.number
  where
    go : (a : Reported) → Reports f g out a left → r ≡ reported_number a → Answered r (left ≡ out)
    go (Ok n) y i =
        granted (report-granted f g out left n y (r < 4294967296) (λ e. omega (arith, e, printed_few f g y.text y.prints)))
    go (Err x) y i = let t = report-refused f g out x left y in refused x i t.0 t.1

-- where a granted session call leads, states are in range and return points marked
module _ (c s : List ℕ) (k : BothSound (unpacked c) (unpacked s)) where
  abbrev C : Behaviour
  C = unpacked c

  abbrev S : Behaviour
  S = unpacked s

  said-sound : (p q : Stand) → Sound C S p → (o : Option ℕ) → said C S p o ≡ Some q → Sound C S q
  said-sound p q h None e = absurd (let z : ◌≡◌ {A = ℕ} 0 1 = cc in omega arith)
  said-sound p q h (Some n) e = message-sound C S (ranged C (unpacked-sized c) k.client) (ranged S (unpacked-sized s) k.server) p h n q e

  rolled-sound : (p q : Stand) → Sound C S p → rules.rollback p ≡ Some q → Sound C S q
  rolled-sound p q h e = rollback-sound C S (ranged C (unpacked-sized c) k.client) (ranged S (unpacked-sized s) k.server) p h q e

-- of a message or rollback call
by_call : (c s : List ℕ) (p : Stand) (k : Reason) (r : ℕ) (o : Option Stand) (a : Answer) → Row (row_number k) 0 → Called (unpacked c) (unpacked s) p k o a
    → (BothSound (unpacked c) (unpacked s) → Sound (unpacked c) (unpacked s) p → (q : Stand) → o ≡ Some q → Sound (unpacked c) (unpacked s) q)
    → r ≡ session_number a → Answered r Unit
by_call c s p k r o (Ok z) t (sessions.step b h q e) f i = granted (omega (arith, i, small c s b q (f b h q e)))
by_call c s p k r o (Err x) t w f i = refused x i (call-refused t w) tt

pub c_open : (c s : List ℕ) (r : ℕ) → Opens c s r → Answered r Unit
unfolding session.Opens packed_stand
c_open c s r h = go h.answer h.opens h.number
  where
    go : (a : Answer) → session.Opens (unpacked c) (unpacked s) a → r ≡ session_number a → Answered r Unit
    go (Ok z) y i = granted (let j : r ≡ session_number (Ok session.opened) = i ∙ ap (λ (u : Session). session_number (Ok u)) y.begins in omega arith)
    go (Err f) y i = refused f i (open_refused (unpacked c) (unpacked s) f y) tt

pub c_message : (c s : List ℕ) (n : ℕ) (name : List ℕ) (r : ℕ) → Messages c s n name r → Answered r Unit
unfolding messaged
c_message c s n name r h =
    let p = (session_of n).stand in
    let o = said (unpacked c) (unpacked s) p (named name) in
    by_call c s p reason.MessageNotPossible r o (messaged (unpacked c) (unpacked s) (session_of n) name) Table.message-not-possible (called (unpacked c) (unpacked s) p reason.MessageNotPossible o)
    (λ b w q e. said-sound c s b p q w (named name) e) h

pub c_rollback : (c s : List ℕ) (n r : ℕ) → RollsBack c s n r → Answered r Unit
unfolding rolled_back
c_rollback c s n r h =
    let p = (session_of n).stand in
    by_call c s p reason.RollbackNotPossible r (rules.rollback p) (rolled_back (unpacked c) (unpacked s) (session_of n)) Table.rollback-not-possible (called (unpacked c) (unpacked s) p reason.RollbackNotPossible (rules.rollback p))
    (λ b w q e. rolled-sound c s b p q w e) h
