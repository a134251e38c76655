-- The run of a stuck pair has fewer steps than there are stands: "at most 110 × 110 = 12,100".
use mathlib.Core.Path.{◌≡◌, sym, ◌∙◌, ap}
use mathlib.Core.Bool.{true}
use mathlib.Core.List.{List}
use Prim.Native.Nat.{ℕ, ◌<◌, ◌*◌}
use native.Mathlib.Omega.{arith}
use native.Mathlib.Nat.{mul-le-mul}
use lib.ListN.{length}
use Rattle.std.specs.Prelude.{Some}
use Rattle.behaviour.specs.declared.Behaviour.{Behaviour}
use Rattle.behaviour.specs.Sound.{sound}
use Rattle.behaviour.specs.SoundLaws.{Sized, parts, side-most}
use Rattle.stands.specs.declared.Stand.{Stand}
use Rattle.stands.specs.Stands.{pair}
use Rattle.stands.specs.Judgement.{stuck, Judged}
use Rattle.compliance.specs.SoundStand.{Sound}
use Rattle.compliance.specs.Kept.{ranged}
use Rattle.runs.specs.System as runs
use Rattle.sides.specs.Numbers.{size, number, stand, stand-number, number-below}
use Rattle.report.proofs.Shortest.{shorter}
use Rattle.report.proofs.Ranged.{reached-sound}

pub run-few : (c s : Behaviour) (e : ℕ) (r : List ℕ) → sound c ≡ true → sound s ≡ true → Sized c → Sized s → Judged c s (stuck e r) → length r < 12100
unfolding Judged runs.IsVerdict
run-few c s e r f g a b j =
    omega (arith, mul-le-mul (side-most c a (parts c f)) (side-most s b (parts s g)), shorter (pair c s) r j.0.0 j.0.1 (size c * size s) (number c s) below differ)
  where
    held : (w : List ℕ) (m : Stand) → runs.after (pair c s) w ≡ Some m → Sound c s m
    held = reached-sound c s (ranged c a f) (ranged s b g)

    below : (w : List ℕ) (m : Stand) → runs.after (pair c s) w ≡ Some m → number c s m < size c * size s
    below w m d = number-below c s m (held w m d)

    differ : (v w : List ℕ) (p q : Stand) → runs.after (pair c s) v ≡ Some p → runs.after (pair c s) w ≡ Some q → number c s p ≡ number c s q → p ≡ q
    differ v w p q d l n = sym (stand-number c s p (held v p d)) ∙ ap (stand c s) n ∙ stand-number c s q (held w q l)
