-- The verdict on two values that files give: compliant, or turned down with the shortest run to a bad stand.
use Rattle.std.proofs.Math.Path.{◌≡◌, sym, ap, ap₂}
use Rattle.std.specs.Prelude.{refl, ◌⊎◌, ◌↔◌, ℕ, ◌≤◌, Ok, Err}
use Rattle.std.proofs.Common.{◌∙◌, inl, inr, arith}
use mathlib.Core.List.{List, ◌++◌}
use Rattle.std.proofs.Math.ListN.{length, drop}
use Rattle.behaviour.specs.declared.Reason.TheVariants as reason
use Rattle.behaviour.specs.declared.Behaviour.{Behaviour}
use Rattle.behaviour.specs.Refusals.{refusal}
use Rattle.runs.specs.System.{ToBad, Reachable, Earlier, IsVerdict}
use Rattle.stands.specs.Stands.{cause, pair}
use Rattle.stands.specs.Judgement.{compliant, stuck, Judged}
use Rattle.compliance.specs.Compliance.{Compliant}
use Rattle.compliance.proofs.NoBadRun.{compliant-is, stuck-is}
use Rattle.compliance.specs.OneJudgement.{judged_unique}
use Rattle.roundtrip.specs.Theorems.{Given}
use Rattle.verdict.specs.Said.{Verdict}
use Rattle.verdict.specs.declared.Judgement.TheVariants as verdict
use Rattle.verdict.specs.Answer.{BothSound, Unsound, TooLong, Says}
use Rattle.promises.specs.Values.{one_unsound}
use Rattle.promises.specs.Sessions.{few-names}

-- "Stuck", or 12 where the run is longer than the lent buffer
unfoldable pub TurnedDown : Verdict → Type 0
TurnedDown (Ok (verdict.Compliant k)) = ⊥
TurnedDown (Ok (verdict.Stuck e n)) = Unit {0}
TurnedDown (Err f) = f ≡ refusal reason.LongerThanLent 0

-- "the shortest run to a bad stand; among equally short ones the first in dictionary order"
pub record Shortest (c s : Behaviour) (w : List ℕ) : Type 0 where
  pub bad : ToBad (pair c s) w
  pub first : (v : List ℕ) → ToBad (pair c s) v → Earlier v w → ⊥

module _ (c s : Behaviour) (run : List ℕ) where
  pub clash : {A : Type 0} (k e : ℕ) (w : List ℕ) → Judged c s (compliant k) → Judged c s (stuck e w) → A
  clash k e w a b = absurd (let h = judged_unique c s (compliant k) (stuck e w) a b in let z : ◌≡◌ {A = ℕ} 0 1 = cc in omega arith)

  reaches : (e : ℕ) (w : List ℕ) → Judged c s (stuck e w) → ToBad (pair c s) w
  unfolding Judged IsVerdict
  reaches e w j = j.0.0

  never : (k : ℕ) → Judged c s (compliant k) → (w : List ℕ) → ToBad (pair c s) w → ⊥
  unfolding Judged IsVerdict
  never k j = j.1

  pub counted : (k : ℕ) → Judged c s (compliant k) → Reachable (pair c s) k
  unfolding Judged IsVerdict
  counted k j = j.0

  is-compliant : BothSound c s → (k : ℕ) → Judged c s (compliant k) → Compliant c s
  unfolding Judged
  is-compliant b k j = compliant-is c s (few-names c s b) k j

  not-compliant : (e : ℕ) (w : List ℕ) → Judged c s (stuck e w) → Compliant c s → ⊥
  unfolding Judged
  not-compliant e w j = stuck-is c s w j.0

  -- the judgement that a shortest run gives
  pub judged : (w : List ℕ) (h : Shortest c s w) → Judged c s (stuck (cause c s h.bad.node) w)
  unfolding Judged IsVerdict
  judged w h = ((h.bad, h.first), λ p e. let i : p ≡ h.bad.node = cc (e, h.bad.leads) in ap (cause c s) i)

  module _ (left : List ℕ) (g : Given c) (h : Given s) where
    pub by-definition : (v : Verdict) → Says c s run v left → ((k : ℕ) × (v ≡ Ok (verdict.Compliant k))) ↔ Compliant c s
    unfolding Says
    by-definition (Ok (verdict.Compliant k)) y = (λ _. is-compliant y.sounds k y.judged, λ _. (k, refl))
    by-definition (Ok (verdict.Stuck e n)) y =
        (λ i. absurd (let j = i.1 in let z : ◌≡◌ {A = ℕ} 0 1 = cc in omega arith), λ m. absurd (not-compliant e y.steps y.judged m))
    by-definition (Err f) y = (λ i. absurd (let j = i.1 in let z : ◌≡◌ {A = ℕ} 0 1 = cc in omega arith), λ m. absurd (go y.why m))
      where
        go : Unsound c s f ⊎ TooLong c s run f → Compliant c s → ⊥
        go (inl u) m = one_unsound c s u.which (g, h)
        go (inr t) m = not-compliant t.cause t.steps t.judged m

    pub turned_down : (v : Verdict) → Says c s run v left → TurnedDown v ↔ ((w : List ℕ) × ToBad (pair c s) w)
    unfolding Says TurnedDown
    turned_down (Ok (verdict.Compliant k)) y = (λ i. absurd i, λ m. never k y.judged m.0 m.1)
    turned_down (Ok (verdict.Stuck e n)) y = (λ _. (y.steps, reaches e y.steps y.judged), λ _. tt)
    turned_down (Err f) y = go y.why
      where
        go : Unsound c s f ⊎ TooLong c s run f → (f ≡ refusal reason.LongerThanLent 0) ↔ ((w : List ℕ) × ToBad (pair c s) w)
        go (inl u) = absurd (one_unsound c s u.which (g, h))
        go (inr t) = (λ _. (t.steps, reaches t.cause t.steps t.judged), λ _. t.is)

    pub shortest_given : (v : Verdict) → Says c s run v left → (w : List ℕ) (k : Shortest c s w) → length w ≤ length run
        → (v ≡ Ok (verdict.Stuck (cause c s k.bad.node) (length w))) × (left ≡ w ++ drop (length w) run)
    unfolding Says
    shortest_given (Ok (verdict.Compliant n)) y w k l = clash n (cause c s k.bad.node) w y.judged (judged w k)
    shortest_given (Ok (verdict.Stuck e n)) y w k l =
        let j = judged_unique c s (stuck e y.steps) (stuck (cause c s k.bad.node) w) y.judged (judged w k) in
        let a : e ≡ cause c s k.bad.node = cc in
        let b : y.steps ≡ w = cc in
        let m : n ≡ length w = sym y.long ∙ ap length b in
        (ap₂ {C = Verdict} (λ i j. Ok (verdict.Stuck i j)) a m, y.written ∙ ap₂ {C = List ℕ} (λ (r : List ℕ) (q : ℕ). r ++ drop q run) b m)
    shortest_given (Err f) y w k l = absurd (go y.why)
      where
        go : Unsound c s f ⊎ TooLong c s run f → ⊥
        go (inl u) = one_unsound c s u.which (g, h)
        go (inr t) =
            let j = judged_unique c s (stuck t.cause t.steps) (stuck (cause c s k.bad.node) w) t.judged (judged w k) in
            let b : t.steps ≡ w = cc in
            omega (arith, l, t.over, ap length b)

    pub count_given : (k : ℕ) → Says c s run (Ok (verdict.Compliant k)) left → Reachable (pair c s) k × (left ≡ run)
    unfolding Says
    count_given k y = (counted k y.judged, y.kept)
