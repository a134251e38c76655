-- The stands that a run of two sound values reaches are sound.
use mathlib.Core.Path.{◌≡◌, subst}
use mathlib.Core.List.{List, [], ◌∷◌}
use Prim.Native.Nat.{ℕ}
use Rattle.std.specs.Prelude.{Option, Some}
use Rattle.behaviour.specs.declared.Behaviour.{Behaviour}
use Rattle.stands.specs.declared.Stand.{Stand}
use Rattle.stands.specs.Stands.{start, step, pair}
use Rattle.compliance.specs.SoundStand.{Sound}
use Rattle.compliance.specs.Kept.{Ranged, start-sound, step-sound}
use Rattle.runs.specs.System.{from, after}
use Rattle.runs.specs.Rank.{opened}

module _ (c s : Behaviour) (a : Ranged c) (b : Ranged s) where
  from-sound : (w : List ℕ) (p q : Stand) → Sound c s p → from (pair c s) (Some p) w ≡ Some q → Sound c s q
  unfolding from
  from-sound [] p q h e = let z : p ≡ q = cc in subst (Sound c s) z h
  from-sound (x ∷ w) p q h e =
      let o = opened (pair c s) (step c s p x) w q e in
      from-sound w o.0 q (step-sound c s a b p h x o.0 o.1) (subst (λ (k : Option Stand). from (pair c s) k w ≡ Some q) o.1 e)

  pub reached-sound : (w : List ℕ) (q : Stand) → after (pair c s) w ≡ Some q → Sound c s q
  reached-sound w q e = from-sound w start q (start-sound c s a b) e
