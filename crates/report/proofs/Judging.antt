-- From the verdict's answer to what is told of the pair.
use mathlib.Core.Path.{◌≡◌, sym, ◌∙◌, ap, subst}
use mathlib.Core.Bool.{false}
use mathlib.Core.List.{List}
use mathlib.Core.Logic.{◌⊎◌, inl, inr}
use Prim.Native.Nat.{ℕ, ◌≤◌, ◌<◌}
use native.Mathlib.Omega.{arith}
use lib.ListN.{length, take, drop, length-append}
use lib.Seq.{take_at, length-take-le}
use Rattle.std.specs.Prelude.{Ok, Err}
use Rattle.behaviour.specs.declared.Behaviour.{Behaviour}
use Rattle.behaviour.specs.declared.Refusal.{Refusal}
use Rattle.behaviour.specs.Sound.{sound}
use Rattle.names.specs.Tests.{no}
use Rattle.stands.specs.Stands.{alphabet}
use Rattle.stands.specs.Judgement.{compliant, stuck, Judged}
use Rattle.stands.specs.Cases.{bytes}
use Rattle.runs.specs.System as runs
use Rattle.verdict.specs.Said.{Verdict}
use Rattle.verdict.specs.declared.Judgement.TheVariants as verdict
use Rattle.verdict.specs.Answer.{Says, SaysCompliant, SaysStuck, Unsound, TooLong}
use Rattle.report.specs.Said.{Reported}
use Rattle.report.specs.RunText.{run_text}
use Rattle.report.specs.Output.{compliant_text, judged_text}
use Rattle.report.specs.Followed.{stuck_text}
use Rattle.report.specs.Reports.{Tells}
use Rattle.report.specs.Judges.{CanJudge, Judges}
use Rattle.report.proofs.Few.{run-few}
use Rattle.report.proofs.Following.{followed-run}

stuck-text : (c s : Behaviour) (e : ℕ) (r : List ℕ) → Judged c s (stuck e r) → stuck_text c (alphabet c s) e r ≡ judged_text c s (stuck e r)
unfolding stuck_text judged_text run_text bytes Judged runs.IsVerdict
stuck-text c s e r j = rw (followed-run c s r 0 j.0.0.node j.0.0.leads)

module _ (c s : Behaviour) (run left : List ℕ) (v : Verdict) (h : Says c s run v left) where
  pub judges_compliant : {n : ℕ} {out e : List ℕ} {r : Reported} → v ≡ Ok (verdict.Compliant n) → Tells (compliant_text n) out r e → Judges c s out r e
  unfolding Says judged_text
  judges_compliant {n} q t =
      let a : SaysCompliant c s n run left = subst (λ (i : Verdict). Says c s run i left) q h in
      record { judgement = compliant n; judged = a.judged; told = t }

  module _ {e n : ℕ} (q : v ≡ Ok (verdict.Stuck e n)) where
    said : SaysStuck c s e n run left
    unfolding Says
    said = subst (λ (i : Verdict). Says c s run i left) q h

    pub run-within : n ≤ length left
    run-within = omega (arith, said.long, ap length said.written, length-append said.steps (drop n run))

    pub run-counts : n ≡ length (take n left)
    run-counts = sym (length-take-le n left run-within)

    pub run_short : length run ≡ 12100 → length (take n left) < 65535
    run_short l = omega (arith, said.fits, run-counts)

    steps_are : take n left ≡ said.steps
    steps_are = ap (take n) said.written ∙ take_at said.steps (drop n run) n said.long

    pub judges_stuck : {out f : List ℕ} {r : Reported} → Tells (stuck_text c (alphabet c s) e (take n left)) out r f → Judges c s out r f
    judges_stuck {out} {f} {r} t = record {
      judgement = stuck e said.steps;
      judged = said.judged;
      told = subst (λ (i : List ℕ). Tells i out r f) (ap (stuck_text c (alphabet c s) e) steps_are ∙ stuck-text c s e said.steps said.judged) t;
    }

  -- 13 is not given to sound values, and 12 not where there is room for every run
  pub judges_all : {A : Type 0} {f : Refusal} → CanJudge c s run → v ≡ Err f → A
  unfolding Says
  judges_all {f = f} k q = go (subst (λ (i : Verdict). Says c s run i left) q h).why
    where
      go : {A : Type 0} → Unsound c s f ⊎ TooLong c s run f → A
      go (inl u) = which u.which
        where
          which : {A : Type 0} → (sound c ≡ false) ⊎ (sound s ≡ false) → A
          which (inl e) = no (sym e ∙ k.sounds.client)
          which (inr e) = no (sym e ∙ k.sounds.server)
      go (inr t) = absurd (omega (arith, t.over, k.room, run-few c s t.cause t.steps k.sounds.client k.sounds.server k.client k.server t.judged))
