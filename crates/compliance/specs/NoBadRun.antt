-- Stands from which no run reaches a bad one, and what a checkpoint compliance relation keeps.
use Rattle.std.specs.Prelude.{Some}
use Rattle.std.proofs.Math.Path.{◌≡◌, subst}
use mathlib.Core.List.{List, [], ◌∷◌}
use Prim.Native.Nat.{ℕ, ◌<◌}
use Rattle.behaviour.specs.declared.Behaviour.{Behaviour}
use Rattle.stands.specs.declared.Stand.{Stand}
use Rattle.stands.specs.Stands.{cause, start, step, pair}
use Rattle.compliance.specs.Compliance.{H, Closed, Greatest, Compliant}
use Rattle.compliance.specs.Labels.{Few}
use Rattle.compliance.specs.Kinds.{Kind, by-message, by-rollback, kind}
use Rattle.runs.specs.System.{from}
use Rattle.runs.specs.Rank.{opened}

module _ (c s : Behaviour) where
  -- no run from p reaches a bad stand
  unfoldable pub Safe : Stand → Type 0
  Safe p = (w : List ℕ) (q : Stand) → from (pair c s) (Some p) w ≡ Some q → 0 < cause c s q → ⊥

  -- a step, and what holds after every step
  pub after-step : (A : Stand → Type 0) (p m : Stand) (x : ℕ) → H c s A p → step c s p x ≡ Some m → A m
  after-step A p m x h e = go (kind c s p m x e)
    where
      go : Kind c s p m x → A m
      go (by-message n a f) = h.forward n m f
      go (by-rollback a f) = h.backward m f

  -- a checkpoint compliance relation is not left by any run
  pub stays : (R : Stand → Type 0) → Closed c s R → (w : List ℕ) (p q : Stand) → R p → from (pair c s) (Some p) w ≡ Some q → R q
  unfolding from
  stays R k [] p q r e = subst R (cc) r
  stays R k (x ∷ w) p q r e = let o = opened (pair c s) (step c s p x) w q e in
      stays R k w o.0 q (after-step R p o.0 x (k p r) o.1) (subst (λ i. from (pair c s) i w ≡ Some q) o.1 e)

  module _ (few : Few c s) where
    -- iii) whatever relation is the greatest solution, it holds the start exactly if the pair is compliant
    pub greatest-start : (X : Stand → Type 0) → Greatest c s X → Compliant c s → X start
    greatest-start X g k = g.above k.R k.closed start k.holds

    pub start-compliant : (X : Stand → Type 0) → Greatest c s X → X start → Compliant c s
    start-compliant X g x = record { R = X; closed = g.within; holds = x }
