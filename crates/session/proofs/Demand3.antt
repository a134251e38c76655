-- Demand 3 of the calls that this crate gives, on every pair that opening accepts.
use Rattle.std.specs.Prelude.{◌≡◌, refl, true, List, [], ◌∷◌, ◌++◌, ℕ, zero, suc, Option, None, Some, Ok}
use Rattle.std.proofs.Common.{sym, ◌∙◌, ap, arith}
use Rattle.behaviour.specs.declared.Behaviour.{Behaviour}
use Rattle.behaviour.specs.declared.Reason.{Reason}
use Rattle.behaviour.specs.declared.Reason.TheVariants as reason
use Rattle.behaviour.specs.SoundLaws.{Parts, parts}
use Rattle.runs.specs.System as runs
use Rattle.runs.specs.Rank.{from_snoc}
use Rattle.stands.specs.declared.ClientState.{ClientState}
use Rattle.stands.specs.declared.ServerState.{ServerState}
use Rattle.stands.specs.declared.Stand.{Stand}
use Rattle.stands.specs.Stands.{said, cause, start, step, pair}
use Rattle.stands.specs.Stands as rules
use Rattle.stands.specs.Judgement.{compliant, Judged}
use Rattle.compliance.specs.Labels.{few, labelled}
use Rattle.verdict.specs.Answer.{BothSound}
use Rattle.history.specs.Calls.{Call, message, rollback, Calls}
use Rattle.history.specs.Demand.{Seen, ClientPoint, ServerPoint, Demand}
use Rattle.history.specs.Determined.{determined}
use Rattle.history.specs.Played.{has, session}
use Rattle.history.specs.Meets.{Steps}
use Rattle.history.proofs.Meets.{told, meets}
use Rattle.session.specs.declared.Session.{Session}
use Rattle.session.specs.Answers.{fault, stepped, named, messaged, rolled_back}
use Rattle.session.specs.Opening.{opened, Begins, Opens}
use Rattle.session.specs.Sides.{client_side, server_side, client_point, server_point}
use Rattle.session.specs.Watched.{answered, handed_back, next, at, watched}
use Rattle.session.specs.Steps.{speaks, moves, going, rolls, goes_back}
use Rattle.session.specs.Range.{Within, within-stand, start-within, message-within, rollback-within}

-- what holds of every session that comes up: a run leads there, and 15 is not given
record Good (c s : Behaviour) (z : Session) : Type 0 where
  pub run : List ℕ
  pub reached : runs.after (pair c s) run ≡ Some z.stand
  pub within : Within c s z.stand

module _ (c s : Behaviour) (sounds : BothSound c s) where
  no-fault : (z : Session) → Good c s z → fault c s z.stand ≡ Ok tt
  unfolding fault
  no-fault z g = rw (sounds.client, sounds.server, within-stand c s z.stand g.within)

  abbrev kept : Option Stand → Option Session
  kept None = None
  kept (Some p) = Some (record { stand = p })

  kept-stepped : (k : Reason) (o : Option Stand) → handed_back (stepped k o) ≡ kept o
  kept-stepped k None = refl
  kept-stepped k (Some p) = refl

  -- with no fault a call answers by the step
  by-message : (z : Session) (n : List ℕ) → Good c s z → next c s z (message n) ≡ kept (said c s z.stand (named n))
  unfolding answered messaged
  by-message z n g = rw (no-fault z g) (kept-stepped reason.MessageNotPossible (said c s z.stand (named n)))

  by-rollback : (z : Session) → Good c s z → next c s z rollback ≡ kept (rules.rollback z.stand)
  unfolding answered rolled_back
  by-rollback z g = rw (no-fault z g) (kept-stepped reason.RollbackNotPossible (rules.rollback z.stand))

  kept-some : (o : Option Stand) (y : Session) → kept o ≡ Some y → o ≡ Some y.stand
  kept-some None y e = absurd (let z : ◌≡◌ {A = ℕ} 0 1 = cc in omega arith)
  kept-some (Some p) y e = let f : record { stand = p } ≡ y = cc in ap (λ u. Some u.stand) f

  kept-has : (o : Option Stand) → has o ≡ true → has (kept o) ≡ true
  kept-has None e = e
  kept-has (Some p) e = refl

  -- a granted message is one that has a name and is a step
  named_step : (z y : Session) (n : List ℕ) → Good c s z → next c s z (message n) ≡ Some y → (m : ℕ) × (named n ≡ Some m) × (rules.message c s z.stand m ≡ Some y.stand)
  named_step z y n g e = go (named n) refl (kept-some (said c s z.stand (named n)) y (sym (by-message z n g) ∙ e))
    where
      go : (o : Option ℕ) → named n ≡ o → said c s z.stand o ≡ Some y.stand → (m : ℕ) × (named n ≡ Some m) × (rules.message c s z.stand m ≡ Some y.stand)
      go None f h = absurd (let z : ◌≡◌ {A = ℕ} 0 1 = cc in omega arith)
      go (Some m) f h = (m, f, h)

  rolled-step : (z y : Session) → Good c s z → next c s z rollback ≡ Some y → rules.rollback z.stand ≡ Some y.stand
  rolled-step z y g e = kept-some (rules.rollback z.stand) y (sym (by-rollback z g) ∙ e)

  one_more : (z y : Session) (k : ℕ) → Good c s z → step c s z.stand k ≡ Some y.stand → Within c s y.stand → Good c s y
  one_more z y k g e w = record { run = g.run ++ k ∷ []; reached = from_snoc (pair c s) (Some start) g.run k z.stand g.reached ∙ e; within = w }

  by_255 : (p q : Stand) → rules.rollback p ≡ Some q → step c s p 255 ≡ Some q
  unfolding step
  by_255 p q e = e

  good-next : (z y : Session) (k : Call) → Good c s z → next c s z k ≡ Some y → Good c s y
  good-next z y (message n) g e =
      let p = named_step z y n g e in
      let l = labelled c s (few c s (omega (arith, a.most-lines, b.most-lines))) z.stand y.stand p.0 p.2 in
      one_more z y l.0 g l.1 (message-within c s a b z.stand y.stand g.within p.0 p.2)
    where
      a : Parts c
      a = parts c sounds.client

      b : Parts s
      b = parts s sounds.server
  good-next z y rollback g e =
      let r = rolled-step z y g e in
      one_more z y 255 g (by_255 z.stand y.stand r)
      (rollback-within c s (parts c sounds.client) (parts s sounds.server) z.stand y.stand g.within r)

  -- no run reaches a bad stand
  module _ (safe : (w : List ℕ) → runs.ToBad (pair c s) w → ⊥) where
    causeless : (z : Session) → Good c s z → (k : ℕ) → cause c s z.stand ≡ k → k ≡ 0
    causeless z g zero e = refl
    causeless z g (suc k) e = absurd (safe g.run (record { node = z.stand; leads = g.reached; bad = omega (arith, e) }))

    steps : Steps named (client_side c) (server_side s) (next c s) opened at
    unfolding runs.from
    steps = record {
      Good = Good c s;
      begins = refl;
      good = record { run = []; reached = refl; within = start-within c s (parts c sounds.client) (parts s sounds.server) };
      good-next = good-next;
      speaks = λ z n m g e p. rw (by-message z n g, e) (kept-has (rules.message c s z.stand m) (speaks c s z.stand m p));
      moved = λ z y n g e. let p = named_step z y n g e in (p.0, p.1, moves c s z.stand p.0 y.stand p.2);
      rolls = λ z x y g e f. rw (by-rollback z g) (kept-has (rules.rollback z.stand) (rolls z.stand x y e f));
      rolled = λ z y g e. goes_back z.stand y.stand (rolled-step z y g e);
      never_stuck = λ z g. going c s z.stand (causeless z g (cause c s z.stand) refl);
    }

-- all that is used of the verdict: its statement that the pair is compliant
safe_of : (c s : Behaviour) (k : ℕ) → Judged c s (compliant k) → (w : List ℕ) → runs.ToBad (pair c s) w → ⊥
unfolding Judged runs.IsVerdict
safe_of c s k j = j.1

module _ (c s : Behaviour) (z : Session) (b : Begins c s z) where
  by-steps : Steps named (client_side c) (server_side s) (next c s) z at
  by-steps = rw b.begins (steps c s b.sounds (safe_of c s b.stands b.judged))

  -- THE THEOREM: over every list of calls with the pair that it was opened on, a session meets demand 3
  pub demand3 : Demand named (client_side c) (server_side s) (watched c s z)
  demand3 = meets named (client_side c) (server_side s) (next c s) z at by-steps

  -- and the return points that it holds are those that the history tells
  pub client-told : (h : Calls) → ClientPoint (client_side c) (server_side s) (watched c s z) h (client_point (session (next c s) z h).stand.clientpoint)
  client-told h = (told named (client_side c) (server_side s) (next c s) z at by-steps h).client

  pub server-told : (h : Calls) → ServerPoint (client_side c) (server_side s) (watched c s z) h (server_point (session (next c s) z h).stand.serverpoint)
  server-told h = (told named (client_side c) (server_side s) (next c s) z at by-steps h).server

  -- on its own pair no call gives 13 or 15: one that is not granted gives 16 or 17
  pub faultless : (h : Calls) → fault c s (session (next c s) z h).stand ≡ Ok tt
  unfolding steps
  faultless h =
      let k = steps c s b.sounds (safe_of c s b.stands b.judged) in
      rw b.begins (no-fault c s b.sounds (session (next c s) opened h) (told named (client_side c) (server_side s) (next c s) opened at k h).good)

  -- any other session that meets demand 3 on this pair grants the same calls and stands at the same states
  pub only_one : (w : Seen ClientState ServerState) → Demand named (client_side c) (server_side s) w → (h : Calls)
      → (w.client h ≡ (watched c s z).client h) × (w.server h ≡ (watched c s z).server h) × ((k : Call) → w.granted h k ≡ (watched c s z).granted h k)
  only_one w d = determined named (client_side c) (server_side s) w (watched c s z) d demand3

-- so does every session that an answer to an opening holds
pub opened-meets : (c s : Behaviour) (z : Session) → Opens c s (Ok z) → Demand named (client_side c) (server_side s) (watched c s z)
unfolding Opens
opened-meets c s z o = demand3 c s z o
