-- A side's return point, told from the calls, which of them were granted, and where the side stood.
use Rattle.std.proofs.Math.Path.{◌≡◌, refl, sym, ap}
use Rattle.std.proofs.Common.{◌∙◌}
use Rattle.std.specs.Prelude.{Bool, true, false, List, ◌⊎◌, ℕ, Option, None, Some}
use Rattle.std.proofs.Math.Logic.{inl, inr}
use native.Mathlib.Omega.{arith}
use Rattle.names.specs.If.{if}
use Rattle.history.specs.Calls.{Call, message, rollback, Calls, opening, ◌then◌, Made, made-not, made-not-now, made_tri}

-- granted h c: the call c, made after the calls h, was granted; at h: where the side stands after the calls h
module _ {A : Type 0} (granted : Calls → Call → Bool) (marked : A → Bool) (at : Calls → A) where
  -- the call c, made after h, was a granted message, and by it the side left the marked state x
  unfoldable pub Left : Calls → Call → A → Type 0
  Left h (message n) x = (granted h (message n) ≡ true) × (at h ≡ x) × (marked x ≡ true)
  Left h rollback x = ⊥

  -- it was a granted rollback
  unfoldable pub Back : Calls → Call → Type 0
  Back h (message n) = ⊥
  Back h rollback = granted h rollback ≡ true

  -- among the calls h, no rollback was granted after the call c, which was made after e
  unfoldable pub Since : Calls → Call → Calls → Type 0
  Since e c h = (f : Calls) (d : Call) → Made f d h → Made e c f → Back f d → ⊥

  -- the marked state that the side last left by a message since the last granted rollback (or the opening), or none
  unfoldable pub Point : Calls → Option A → Type 0
  Point h None = (e : Calls) (c : Call) (x : A) → Made e c h → Left e c x → Since e c h → ⊥
  Point h (Some x) = (e : Calls) × (c : Call) × Made e c h × Left e c x × Since e c h
      × ((f : Calls) (d : Call) (y : A) → Made f d h → Made e c f → Left f d y → ⊥)

  pub point-opening : Point opening None
  unfolding Point Made
  point-opening e c x m l s = m

  -- a call that is no granted rollback, and leaves no marked state
  pub point-same : (h : Calls) (c : Call) (p : Option A) → (Back h c → ⊥) → ((y : A) → Left h c y → ⊥) → Point h p → Point (h then c) p
  unfolding Point Made Since
  point-same h c None b l p = go
    where
      go : (e : Calls) (d : Call) (x : A) → Made e d (h then c) → Left e d x → Since e d (h then c) → ⊥
      go e d x (inl q) k s = l x (rw (← q.0, ← q.1) k)
      go e d x (inr m) k s = p e d x m k (λ f a n o. s f a (inr n) o)
  point-same h c (Some x) b l p = (p.0, p.1, inr p.2, p.3, since, only)
    where
      since : (f : Calls) (a : Call) → Made f a (h then c) → Made p.0 p.1 f → Back f a → ⊥
      since f a (inl q) o g = b (rw (← q.0, ← q.1) g)
      since f a (inr n) o g = p.4 f a n o g

      only : (f : Calls) (a : Call) (y : A) → Made f a (h then c) → Made p.0 p.1 f → Left f a y → ⊥
      only f a y (inl q) o g = l y (rw (← q.0, ← q.1) g)
      only f a y (inr n) o g = p.5 f a y n o g

  pub point-left : (h : Calls) (c : Call) (x : A) → Left h c x → Point (h then c) (Some x)
  unfolding Point Made Since
  point-left h c x l = (h, c, inl (refl, refl), l, (λ f a n o _. none-later f a n o), (λ f a y n o _. none-later f a n o))
    where
      none-later : (f : Calls) (a : Call) → Made f a (h then c) → Made h c f → ⊥
      none-later f a (inl q) o = made-not-now h c f o (sym q.0)
      none-later f a (inr n) o = made-not h c f a o n

  clash : (h : Calls) (d : Call) (x : A) → Left h d x → Back h d → ⊥
  unfolding Left Back
  clash h (message n) x l g = g
  clash h rollback x l g = l

  -- a granted rollback clears it
  pub point-back : (h : Calls) (c : Call) → Back h c → Point (h then c) None
  unfolding Point Made Since
  point-back h c b = go
    where
      go : (e : Calls) (d : Call) (x : A) → Made e d (h then c) → Left e d x → Since e d (h then c) → ⊥
      go e d x (inl q) k s = clash h c x (rw (← q.0, ← q.1) k) b
      go e d x (inr m) k s = s h c (inl (refl, refl)) m b

  message-left : (h : Calls) (n : List ℕ) (x : A) → granted h (message n) ≡ true → at h ≡ x → marked x ≡ true → Left h (message n) x
  unfolding Left
  message-left h n x g e m = (g, e, m)

  message-no-back : (h : Calls) (n : List ℕ) → Back h (message n) → ⊥
  unfolding Back
  message-no-back h n b = b

  plain : (h : Calls) (n : List ℕ) (y : A) → marked (at h) ≡ false → Left h (message n) y → ⊥
  unfolding Left
  plain h n y e l = let z : ◌≡◌ {A = ℕ} 0 1 = cc (e, l.1, l.2) in omega arith

  no-back : (h : Calls) (c : Call) → granted h c ≡ false → Back h c → ⊥
  unfolding Back
  no-back h (message n) g b = b
  no-back h rollback g b = let z : ◌≡◌ {A = ℕ} 0 1 = cc in omega arith

  no-left : (h : Calls) (c : Call) (y : A) → granted h c ≡ false → Left h c y → ⊥
  unfolding Left
  no-left h (message n) y g l = let z : ◌≡◌ {A = ℕ} 0 1 = cc (g, l.0) in omega arith
  no-left h rollback y g l = l

  -- a granted message, at a state that is marked or not
  pub point-message : (h : Calls) (n : List ℕ) (p : Option A) → granted h (message n) ≡ true → Point h p → Point (h then message n) (if (marked (at h)) (Some (at h)) p)
  point-message h n p g k = go (marked (at h)) refl
    where
      go : (b : Bool) → marked (at h) ≡ b → Point (h then message n) (if b (Some (at h)) p)
      go true e = point-left h (message n) (at h) (message-left h n (at h) g refl e)
      go false e = point-same h (message n) p (message-no-back h n) (λ y l. plain h n y e l) k

  -- a refused call
  pub point-refused : (h : Calls) (c : Call) (p : Option A) → granted h c ≡ false → Point h p → Point (h then c) p
  point-refused h c p g k = point-same h c p (no-back h c g) (λ y l. no-left h c y g l) k

  left_at : (h : Calls) (c : Call) (x y : A) → Left h c x → Left h c y → x ≡ y
  unfolding Left
  left_at h (message n) x y l k = sym l.1 ∙ k.1
  left_at h rollback x y l k = absurd l

  -- there is one
  pub point_one : (h : Calls) (p q : Option A) → Point h p → Point h q → p ≡ q
  unfolding Point
  point_one h None None p q = refl
  point_one h None (Some y) p q = absurd (p q.0 q.1 y q.2 q.3 q.4)
  point_one h (Some x) None p q = absurd (q p.0 p.1 x p.2 p.3 p.4)
  point_one h (Some x) (Some y) p q = go (made_tri p.0 p.1 q.0 q.1 h p.2 q.2)
    where
      go : ((p.0 ≡ q.0) × (p.1 ≡ q.1)) ⊎ (Made p.0 p.1 q.0 ⊎ Made q.0 q.1 p.0) → Some x ≡ Some y
      go (inl e) = ap Some (left_at q.0 q.1 x y (rw (e.0, e.1) at p.3) q.3)
      go (inr (inl m)) = absurd (p.5 q.0 q.1 y q.2 m q.3)
      go (inr (inr m)) = absurd (q.5 p.0 p.1 x p.2 m p.3)
