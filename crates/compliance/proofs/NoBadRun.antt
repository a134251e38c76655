-- Definition 3.1 and runs: a pair is compliant exactly if no run reaches a bad stand.
use Rattle.std.proofs.Math.Path.{◌≡◌, refl, ap, subst}
use Rattle.std.proofs.Common.{sym, inl, inr, arith, eq-eqb}
use Rattle.std.specs.Prelude.{Bool, ◌||◌, ◌⊎◌, ◌↔◌, eqb, None, Some}
use Rattle.std.proofs.Math.Bool.{true, false}
use mathlib.Core.List.{List, [], ◌∷◌}
use Prim.Native.Nat.{ℕ, zero, suc, ◌<◌}
use Rattle.behaviour.specs.declared.Behaviour.{Behaviour}
use Rattle.stands.specs.Points.{ClientPoint}
use Rattle.stands.specs.Points.{ServerPoint}
use Rattle.stands.specs.declared.Stand.{Stand}
use Rattle.names.specs.If.{if}
use Rattle.stands.specs.Stands.{among, empty, names, finished, possible, moved, message, even, evenly, cause, start, step, pair}
use Rattle.compliance.specs.Compliance.{Neither, Both, Ended, H, Closed, Greatest, Compliant}
use Rattle.compliance.specs.Labels.{Few, labelled}
use Rattle.runs.specs.System.{from, ToBad, compliant, stuck, IsVerdict}
use Rattle.runs.specs.Rank.{opened}
use Rattle.compliance.specs.NoBadRun.{Safe, after-step, stays}

empty-nil : (l : List ℕ) → empty l ≡ true → l ≡ []
empty-nil [] e = refl
empty-nil (n ∷ l) e = absurd (let z : ◌≡◌ {A = ℕ} 0 1 = cc in omega arith)

even-yes : (g : ClientPoint) (d : ServerPoint) → evenly g d ≡ true → ((g ≡ None) × (d ≡ None)) ⊎ ((x : _) × (y : _) × (g ≡ Some x) × (d ≡ Some y))
even-yes (Some x) (Some y) e = inr (x, y, refl, refl)
even-yes (Some x) None e = absurd (let z : ◌≡◌ {A = ℕ} 0 1 = cc in omega arith)
even-yes None (Some y) e = absurd (let z : ◌≡◌ {A = ℕ} 0 1 = cc in omega arith)
even-yes None None e = inl (refl, refl)

even_of : (p : Stand) → Neither p ⊎ Both p → even p ≡ true
even_of p (inl (a, b)) = rw (a, b)
even_of p (inr (x, y, a, b)) = rw (a, b)

module _ (c s : Behaviour) (p : Stand) where
  -- no message is a step exactly if none is possible
  none-yes : empty (possible c s p.client p.server) ≡ true → (n : ℕ) → message c s p n ≡ None
  unfolding message among
  none-yes e n = rw (empty-nil (possible c s p.client p.server) e)

  none-no : ((n : ℕ) → message c s p n ≡ None) → empty (possible c s p.client p.server) ≡ true
  unfolding message among
  none-no f = go (possible c s p.client p.server) refl
    where
      go : (l : List ℕ) → possible c s p.client p.server ≡ l → empty l ≡ true
      go [] e = refl
      go (n ∷ l) e = absurd (let h : if (eqb n n || among n l) (Some (moved c s p n)) None ≡ None = rw e at (f n) in
          let g : Some (moved c s p n) ≡ None = rw (eq-eqb n n refl) at h in
          let z : ◌≡◌ {A = ℕ} 0 1 = cc in omega arith)

  -- condition 1 fails exactly at a bad stand
  pub fine-cause : (((n : ℕ) → message c s p n ≡ None) → Ended c p) → cause c s p ≡ 0
  unfolding cause
  fine-cause f = go (empty (possible c s p.client p.server)) refl
    where
      go : (b : Bool) → empty (possible c s p.client p.server) ≡ b → ◌≡◌ {A = ℕ} (if b (if (finished c p.client.0) (if (even p) 0 2) 1) 0) 0
      go false e = refl
      go true e = let h = f (none-yes e) in let g : finished c p.client.0 ≡ true = ap empty h.0 in rw (g, even_of p h.1)

  pub cause-fine : cause c s p ≡ 0 → ((n : ℕ) → message c s p n ≡ None) → Ended c p
  unfolding cause
  cause-fine e f = go (finished c p.client.0) (even p) refl refl (rw (none-no f) at e)
    where
      go : (a b : Bool) → finished c p.client.0 ≡ a → even p ≡ b → ◌≡◌ {A = ℕ} (if a (if b 0 2) 1) 0 → Ended c p
      go true true g h e = (empty-nil (names c p.client.0) g, even-yes p.clientpoint p.serverpoint h)
      go true false g h e = absurd (omega arith)
      go false b g h e = absurd (omega arith)

module _ (c s : Behaviour) where
  -- so all of it is safe
  pub closed_safe : (R : Stand → Type 0) → Closed c s R → (p : Stand) → R p → Safe c s p
  unfolding Safe
  closed_safe R k p r w q e b = omega (arith, b, fine-cause c s q (k q (stays c s R k w p q r e)).ended)

  pub safe_contains : (p : Stand) → H c s (Safe c s) p → Safe c s p
  unfolding Safe from
  safe_contains p h [] q e b = let f : p ≡ q = cc in omega (arith, subst (λ i. 0 < cause c s i) (sym f) b, fine-cause c s p h.ended)
  safe_contains p h (x ∷ w) q e b = let o = opened (pair c s) (step c s p x) w q e in
      after-step c s (Safe c s) p o.0 x h o.1 w q (subst (λ i. from (pair c s) i w ≡ Some q) o.1 e) b

  module _ (few : Few c s) where
    pub safe_within : Closed c s (Safe c s)
    unfolding Safe from step
    safe_within p r = record {
      ended = cause-fine c s p (nil (cause c s p) refl);
      forward = λ n q e w o f b. let k = labelled c s few p q n e in r (k.0 ∷ w) o (subst (λ i. from (pair c s) i w ≡ Some o) (sym k.1) f) b;
      backward = λ q e w o f b. r (255 ∷ w) o (subst (λ i. from (pair c s) i w ≡ Some o) (sym e) f) b;
    }
      where
        nil : (k : ℕ) → cause c s p ≡ k → k ≡ 0
        nil zero e = refl
        nil (suc k) e = absurd (r [] p refl (omega (arith, e)))

    -- ii) the greatest solution of X = H(X) is: no run reaches a bad stand
    pub greatest : Greatest c s (Safe c s)
    greatest = record { within = safe_within; contains = safe_contains; above = closed_safe }

    pub safe_compliant : ((w : List ℕ) → ToBad (pair c s) w → ⊥) → Compliant c s
    unfolding Safe
    safe_compliant n = record { R = Safe c s; closed = safe_within; holds = λ w q e b. n w (record { node = q; leads = e; bad = b }) }

  pub compliant_safe : Compliant c s → (w : List ℕ) → ToBad (pair c s) w → ⊥
  unfolding Safe
  compliant_safe k w b = closed_safe k.R k.closed start k.holds w b.node b.leads b.bad

  -- a pair is compliant exactly if no run reaches a bad stand
  pub same : Few c s → Compliant c s ↔ ((w : List ℕ) → ToBad (pair c s) w → ⊥)
  same h = (compliant_safe, safe_compliant h)

  -- so the verdict is Definition 3.1's
  pub compliant-is : Few c s → (k : ℕ) → IsVerdict (pair c s) (compliant k) → Compliant c s
  unfolding IsVerdict
  compliant-is h k v = safe_compliant h v.1

  pub stuck-is : (r : List ℕ) → IsVerdict (pair c s) (stuck r) → Compliant c s → ⊥
  unfolding IsVerdict
  stuck-is r v k = compliant_safe k r v.0
