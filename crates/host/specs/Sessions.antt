-- A session that a host keeps as a number: no number that is no stand of the pair passes, and over any calls it meets demand 3.
use Rattle.std.proofs.Math.Path.{◌≡◌, refl, ap}
use Rattle.std.proofs.Common.{◌∙◌, subst, arith, ne_eqb}
use Rattle.std.specs.Prelude.{Bool, List, ℕ, ◌<◌, eqb, Option, None, Some, Result, Err, Ok, ⊤}
use Rattle.std.proofs.Math.Bool.{true, false}
use Rattle.names.specs.If.{if}
use Rattle.behaviour.specs.declared.Reason.{Reason}
use Rattle.behaviour.specs.declared.Reason.TheVariants as reason
use Rattle.behaviour.specs.declared.Behaviour.{Behaviour}
use Rattle.behaviour.specs.declared.Refusal.{Refusal}
use Rattle.behaviour.specs.Refusals.{row_number, refusal}
use Rattle.behaviour.specs.SoundLaws.{Sized, parts, mark-below}
use Rattle.stands.specs.declared.ClientState.{ClientState}
use Rattle.stands.specs.declared.ServerState.{ServerState}
use Rattle.stands.specs.Points.{ClientPoint}
use Rattle.stands.specs.Points.{ServerPoint}
use Rattle.stands.specs.declared.Stand.{Stand}
use Rattle.stands.specs.Stands.{said}
use Rattle.stands.specs.Stands as rules
use Rattle.compliance.specs.SoundStand.{client_held, server_held, Marked, Sound}
use Rattle.steps.specs.Tests.{is_stand, stand-sound}
use Rattle.verdict.specs.Answer.{BothSound}
use Rattle.history.specs.Calls.{Call, message, rollback, Calls, opening, ◌then◌}
use Rattle.history.specs.Demand.{Seen, Demand}
use Rattle.history.specs.Played.{has, or_else, session, seen}
use Rattle.session.specs.declared.Session.{Session}
use Rattle.session.specs.Said.{Answer}
use Rattle.session.specs.Answers.{fault, stepped, named, messaged, rolled_back}
use Rattle.session.specs.Opening.{Begins}
use Rattle.session.specs.Sides.{client_side, server_side}
use Rattle.session.specs.Watched.{answered, handed_back, next, at, watched}
use Rattle.session.proofs.Demand3.{demand3, faultless}
use Rattle.packing.specs.Value.{unpacked}
use Rattle.packing.specs.Numbers.{unpacked_stand}
use Rattle.packing.specs.Back.{unpacked-sized}
use Rattle.packing.specs.BackStand.{ClientBelow, ServerBelow, Small}
use Rattle.host.specs.Numbers.{refused_number, session_of, session_number}
use Rattle.host.specs.Calls.{Messages, RollsBack}
use Rattle.host.specs.Parts.{refusal_in, value_in, refused-back, session-back}

-- 15: "stand with a state out of range, or a return point not marked", once both values are sound
module _ (c s : List ℕ) (n r : ℕ) (sounds : BothSound (unpacked c) (unpacked s)) (off : is_stand (unpacked c) (unpacked s) (unpacked_stand n) ≡ false) where
  faulty : fault (unpacked c) (unpacked s) (unpacked_stand n) ≡ Err reason.NoStand
  unfolding fault
  faulty = rw (sounds.client, sounds.server, off)

  pub no-session-message : (name : List ℕ) → Messages c s n name r → r ≡ refused_number (refusal reason.NoStand 0)
  unfolding messaged
  no-session-message name m = rw faulty at m

  pub no-session-rollback : RollsBack c s n r → r ≡ refused_number (refusal reason.NoStand 0)
  unfolding rolled_back
  no-session-rollback m = rw faulty at m

-- a stand that 15 does not meet has states and return points below 10: its number unpacks as itself
module _ (c s : Behaviour) (k : Sized c) (l : Sized s) (sounds : BothSound c s) where
  client-below : (g : ClientPoint) → Marked c.marks (client_held g) → ClientBelow g
  unfolding Marked
  client-below None m x e = absurd (let z : ◌≡◌ {A = ℕ} 0 1 = cc in omega arith)
  client-below (Some y) m x e =
      let p = parts c sounds.client in
      let f : y ≡ x = cc in
      omega (arith, ap (λ (v : ClientState). v.0) f, mark-below c k p y.0 m, p.most-states)

  server-below : (g : ServerPoint) → Marked s.marks (server_held g) → ServerBelow g
  unfolding Marked
  server-below None m x e = absurd (let z : ◌≡◌ {A = ℕ} 0 1 = cc in omega arith)
  server-below (Some y) m x e =
      let p = parts s sounds.server in
      let f : y ≡ x = cc in
      omega (arith, ap (λ (v : ServerState). v.0) f, mark-below s l p y.0 m, p.most-states)

  pub small : (p : Stand) → Sound c s p → Small p
  small p o = record {
    client = omega (arith, o.client, (parts c sounds.client).most-states);
    clientpoint = client-below p.clientpoint o.clientpoint;
    server = omega (arith, o.server, (parts s sounds.server).most-states);
    serverpoint = server-below p.serverpoint o.serverpoint;
  }

  no-fault-small : (p : Stand) → fault c s p ≡ Ok tt → Small p
  unfolding fault
  no-fault-small p e = go (is_stand c s p) refl (rw (sounds.client, sounds.server) at e)
    where
      go : (t : Bool) → is_stand c s p ≡ t → ◌≡◌ {A = Result ⊤ Reason} (if t (Ok tt) (Err reason.NoStand)) (Ok tt) → Small p
      go true q f = small p (stand-sound c s p q)
      go false q f = absurd (let z : ◌≡◌ {A = ℕ} 0 1 = cc in omega arith)

-- the session that a host takes from the answer to a call, if it is granted
abbrev pub session_in : ℕ → Option ℕ
session_in r = if (eqb (refusal_in r) 0) (Some (value_in r)) None

-- what a call on the session n hands back, over the pair of the bytes c and s
abbrev pub next_number : List ℕ → List ℕ → ℕ → Call → Option ℕ
next_number c s n k = session_in (session_number (answered (unpacked c) (unpacked s) (session_of n) k))

-- a refusal of a call is seen as one
abbrev Told : Answer → Type 0
Told a = (f : Refusal) → a ≡ Err f → (0 < row_number f.reason) × (f.place < 65536)

stepped-told : (k : Reason) → 0 < row_number k → (o : Option Stand) → Told (stepped k o)
stepped-told k l None f e = let g : refusal k 0 ≡ f = cc in (subst (λ (x : Refusal). 0 < row_number x.reason) g l, subst (λ (x : Refusal). x.place < 65536) g (omega arith))
stepped-told k l (Some p) f e = absurd (let z : ◌≡◌ {A = ℕ} 0 1 = cc in omega arith)

module _ (c s : List ℕ) (z : Session) (b : Begins (unpacked c) (unpacked s) z) where
  -- kept as a session, and kept as a number
  abbrev pub held : Calls → Session
  held = session (next (unpacked c) (unpacked s)) z

  abbrev pub numbered : Calls → ℕ
  numbered = session (next_number c s) (value_in (session_number (Ok z)))

  abbrev says : Calls → Call → Answer
  says h k = answered (unpacked c) (unpacked s) (held h) k

  faults : (h : Calls) → fault (unpacked c) (unpacked s) (held h).stand ≡ Ok tt
  faults = faultless (unpacked c) (unpacked s) z b

  back : (h : Calls) → (refusal_in (session_number (Ok (held h))) ≡ 0) × (session_of (value_in (session_number (Ok (held h)))) ≡ held h)
  back h = session-back (held h) (no-fault-small (unpacked c) (unpacked s) (unpacked-sized c) (unpacked-sized s) b.sounds (held h).stand (faults h))

  says-told : (h : Calls) (k : Call) → Told (says h k)
  unfolding answered messaged rolled_back
  says-told h (message n) = rw (faults h) (stepped-told reason.MessageNotPossible (omega arith) (said (unpacked c) (unpacked s) (held h).stand (named n)))
  says-told h rollback = rw (faults h) (stepped-told reason.RollbackNotPossible (omega arith) (rules.rollback (held h).stand))

  -- what follows is by the answer a to a call on the session y, whose number is n
  module _ (n : ℕ) (y : Session) (e : session_of n ≡ y) where
    abbrev Back : Answer → Type 0
    Back a = (refusal_in (session_number (Ok (or_else y (handed_back a)))) ≡ 0) × (session_of (value_in (session_number (Ok (or_else y (handed_back a))))) ≡ or_else y (handed_back a))

    refused-seen : (f : Refusal) → 0 < row_number f.reason → f.place < 65536 → eqb (refusal_in (refused_number f)) 0 ≡ false
    refused-seen f l m = ne_eqb (refusal_in (refused_number f)) 0 (λ d. omega (arith, (refused-back f m).0))

    handed : (a : Answer) → Told a → Back a → session_of (or_else n (session_in (session_number a))) ≡ or_else y (handed_back a)
    handed (Ok x) t d = rw d.0 d.1
    handed (Err f) t d = let h = t f refl in rw (refused-seen f h.0 h.1) e

    granted : (a : Answer) → Told a → Back a → has (session_in (session_number a)) ≡ has (handed_back a)
    granted (Ok x) t d = rw d.0
    granted (Err f) t d = let h = t f refl in rw (refused-seen f h.0 h.1)

  -- the number holds the session, after any calls
  pub same-session : (h : Calls) → session_of (numbered h) ≡ held h
  unfolding session
  same-session opening = (back opening).1
  same-session (h then k) =
      let e = same-session h in
      ap (λ (y : Session). session_of (or_else (numbered h) (session_in (session_number (answered (unpacked c) (unpacked s) y k))))) e
      ∙ handed (numbered h) (held h) e (says h k) (says-told h k) (back (h then k))

  same-granted : (h : Calls) (k : Call) → has (next_number c s (numbered h) k) ≡ has (handed_back (says h k))
  unfolding session
  same-granted h k =
      ap (λ (y : Session). has (session_in (session_number (answered (unpacked c) (unpacked s) y k)))) (same-session h)
      ∙ granted (numbered h) (held h) (same-session h) (says h k) (says-told h k) (back (h then k))

  -- what is seen of a session that the host keeps as a number
  abbrev pub watched_number : Seen ClientState ServerState
  watched_number = seen (next_number c s) (value_in (session_number (Ok z))) (λ n. at (session_of n))

  same_seen : watched_number ≡ watched (unpacked c) (unpacked s) z
  same_seen = λ i. record {
    granted = λ h k. same-granted h k i;
    client = λ h. (same-session h i).stand.client;
    server = λ h. (same-session h i).stand.server;
  }

  -- THE THEOREM: it meets demand 3
  pub number-demand3 : Demand named (client_side (unpacked c)) (server_side (unpacked s)) watched_number
  number-demand3 = rw same_seen (demand3 (unpacked c) (unpacked s) z b)
