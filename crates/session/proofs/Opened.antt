-- From what the verdict says of a pair to what opening answers.
use mathlib.Core.Path.{◌≡◌, refl}
use mathlib.Core.List.{List}
use mathlib.Core.Logic.{◌⊎◌, inl, inr}
use Prim.Native.Nat.{ℕ}
use Rattle.std.specs.Prelude.{Ok, Err}
use Rattle.behaviour.specs.declared.Reason.TheVariants as reason
use Rattle.behaviour.specs.declared.Behaviour.{Behaviour}
use Rattle.behaviour.specs.declared.Refusal.{Refusal}
use Rattle.behaviour.specs.Refusals.{refusal}
use Rattle.verdict.specs.Said.{Verdict}
use Rattle.verdict.specs.declared.Judgement.TheVariants as verdict
use Rattle.verdict.specs.Answer.{Says, Unsound, TooLong}
use Rattle.session.specs.Opening.{opened, not_opened, Opens}

-- c, s: the pair; a: what the verdict answers; left: what it leaves in the run's buffer
module _ (c s : Behaviour) (run left : List ℕ) where
  pub begun : (a : Verdict) (k : ℕ) → Says c s run a left → a ≡ Ok (verdict.Compliant k) → Opens c s (Ok opened)
  unfolding Says Opens
  begun a k j e = let h : Says c s run (Ok (verdict.Compliant k)) left = rw e at j in record { sounds = h.sounds; stands = k; judged = h.judged; begins = refl }

  pub stuck : (a : Verdict) (e n : ℕ) → Says c s run a left → a ≡ Ok (verdict.Stuck e n) → Opens c s (Err (refusal reason.NotCompliant 0))
  unfolding Says Opens
  stuck a e n j i = let h : Says c s run (Ok (verdict.Stuck e n)) left = rw i at j in inr (record { is = refl; sounds = h.sounds; cause = e; steps = h.steps; judged = h.judged })

  refused_as : (f : Refusal) → Unsound c s f ⊎ TooLong c s run f → Opens c s (Err (not_opened f))
  unfolding Opens
  refused_as f (inl u) = rw u.is (inl (record { is = refl; which = u.which }))
  refused_as f (inr t) = rw t.is (inr (record { is = refl; sounds = t.sounds; cause = t.cause; steps = t.steps; judged = t.judged }))

  pub kept_out : (a : Verdict) (f : Refusal) → Says c s run a left → a ≡ Err f → Opens c s (Err (not_opened f))
  unfolding Says
  kept_out a f j e = let h : Says c s run (Err f) left = rw e at j in refused_as f h.why
