-- A run that is longer than the lent buffer is refused with 12.
use Rattle.std.proofs.Math.Path.{◌≡◌, ap}
use Rattle.std.specs.Prelude.{◌⊎◌, ℕ, ◌<◌, Err, Ok}
use Rattle.std.proofs.Common.{inl, inr, arith}
use mathlib.Core.List.{List}
use Rattle.std.proofs.Math.ListN.{length}
use Rattle.behaviour.specs.declared.Reason.TheVariants as reason
use Rattle.behaviour.specs.declared.Behaviour.{Behaviour}
use Rattle.behaviour.specs.Refusals.{refusal}
use Rattle.stands.specs.Stands.{cause}
use Rattle.stands.specs.Judgement.{stuck}
use Rattle.compliance.specs.OneJudgement.{judged_unique}
use Rattle.roundtrip.specs.Theorems.{Given}
use Rattle.verdict.specs.Said.{Verdict}
use Rattle.verdict.specs.declared.Judgement.TheVariants as verdict
use Rattle.verdict.specs.Answer.{Unsound, TooLong, Says}
use Rattle.promises.specs.Values.{one_unsound}
use Rattle.promises.specs.Verdicts.{Shortest, clash, judged}

module _ (c s : Behaviour) (run : List ℕ) where
  module _ (left : List ℕ) (g : Given c) (h : Given s) where
    pub longer-refused : (v : Verdict) → Says c s run v left → (w : List ℕ) → Shortest c s w → length run < length w → (v ≡ Err (refusal reason.LongerThanLent 0)) × (left ≡ run)
    unfolding Says
    longer-refused (Ok (verdict.Compliant n)) y w k l = clash c s run n (cause c s k.bad.node) w y.judged (judged c s run w k)
    longer-refused (Ok (verdict.Stuck e n)) y w k l =
        let j = judged_unique c s (stuck e y.steps) (stuck (cause c s k.bad.node) w) y.judged (judged c s run w k) in
        let b : y.steps ≡ w = cc in
        absurd (omega (arith, l, y.fits, y.long, ap length b))
    longer-refused (Err f) y w k l = (ap Err (go y.why), y.kept)
      where
        go : Unsound c s f ⊎ TooLong c s run f → f ≡ refusal reason.LongerThanLent 0
        go (inl u) = absurd (one_unsound c s u.which (g, h))
        go (inr t) = t.is
