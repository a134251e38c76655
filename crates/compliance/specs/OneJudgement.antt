-- A pair has one judgement: two that are allowed are equal.
use Rattle.std.specs.Prelude.{◌≡◌, List, ℕ, Some}
use Rattle.std.proofs.Common.{subst, arith}
use Rattle.behaviour.specs.declared.Behaviour.{Behaviour}
use Rattle.stands.specs.Stands.{cause, pair}
use Rattle.stands.specs.Judgement.{Judgement, compliant, stuck, Judged}
use Rattle.runs.specs.System as runs
use Rattle.runs.proofs.Unique.{verdict_unique}

pub judged_unique : (c s : Behaviour) (a b : Judgement) → Judged c s a → Judged c s b → a ≡ b
unfolding Judged runs.IsVerdict
judged_unique c s (compliant k) (compliant n) p q = let h = verdict_unique (pair c s) (runs.compliant k) (runs.compliant n) p q in cc
judged_unique c s (compliant k) (stuck f r) p q = let h = verdict_unique (pair c s) (runs.compliant k) (runs.stuck r) p q.0 in absurd (let z : ◌≡◌ {A = ℕ} 0 1 = cc in omega arith)
judged_unique c s (stuck e r) (compliant k) p q = let h = verdict_unique (pair c s) (runs.stuck r) (runs.compliant k) p.0 q in absurd (let z : ◌≡◌ {A = ℕ} 0 1 = cc in omega arith)
judged_unique c s (stuck e r) (stuck f t) p q =
    let h = verdict_unique (pair c s) (runs.stuck r) (runs.stuck t) p.0 q.0 in
    let w : r ≡ t = cc in
    let n = p.0.0.node in
    let u : cause c s n ≡ e = p.1 n p.0.0.leads in
    let v : cause c s n ≡ f = q.1 n (subst (λ i. runs.after (pair c s) i ≡ Some n) w p.0.0.leads) in
    cc

-- no pair is both compliant and stuck
pub unlike : {A : Type 0} (c s : Behaviour) (k e : ℕ) (w : List ℕ) → Judged c s (compliant k) → Judged c s (stuck e w) → A
unlike c s k e w p q = let h = judged_unique c s (compliant k) (stuck e w) p q in absurd (let z : ◌≡◌ {A = ℕ} 0 1 = cc in omega arith)
