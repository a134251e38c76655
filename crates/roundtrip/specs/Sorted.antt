-- Sorted messages stay sorted, and a value stays sound, where a message is inserted.
use Rattle.std.specs.Prelude.{◌≡◌, refl, List, [], ◌∷◌, ◌++◌, Bool, true, false, ◌&&◌, ◌||◌, ◌⊎◌, ℕ, zero, suc, ◌+◌, ◌<◌, ◌≤◌, eqb, ltb, length, set}
use Rattle.std.proofs.Common.{sym, subst, inl, inr, arith, eq-eqb, ne_eqb, ltb-false, eqb-true}
use Rattle.std.proofs.lemmas.Bool.{eqb-false}
use Rattle.names.specs.If.{if}
use Rattle.names.specs.Names.{is_name}
use Rattle.names.specs.Tests.{no}
use Rattle.behaviour.specs.declared.Message.{Message}
use Rattle.behaviour.specs.Sound.{before}
use Rattle.behaviour.specs.Ordered.{Less, less, before_trans, alike, alike-not, one_first}
use Rattle.aut.specs.Adding.{insert, has}
use Rattle.aut.specs.Inserting.{not_there, length-insert}
use Rattle.writer.specs.Text.{after_state}
use Rattle.roundtrip.specs.Rebuild.{Below, Ascend, AllBetween, Signed, Settled}

abbrev pub Above : Message → List Message → Type 0
Above m [] = Unit {0}
Above m (x ∷ l) = (before m x ≡ true) × Above m l

abbrev pub Sorted : List Message → Type 0
Sorted [] = Unit {0}
Sorted (m ∷ l) = Above m l × Sorted l

pub above_trans : (a b : Message) (l : List Message) → before a b ≡ true → Above b l → Above a l
above_trans a b [] e h = tt
above_trans a b (x ∷ l) e h = (before_trans a b x e h.0, above_trans a b l e h.1)

insert-first : (m : Message) (l : List Message) → Above m l → Sorted l → insert m l ≡ m ∷ l
unfolding insert
insert-first m [] h s = refl
insert-first m (x ∷ l) h s = rw (h.0, insert-first x l s.0 s.1)

pub split : (m : Message) (x : Message) (l : List Message) (t : Bool) → before m x ≡ t → insert m (x ∷ l) ≡ if t (m ∷ insert x l) (x ∷ insert m l)
unfolding insert
split m x l t e = rw e

insert-above : (a m : Message) (l : List Message) → before a m ≡ true → Above a l → Above a (insert m l)
unfolding insert
insert-above a m [] e h = (e, tt)
insert-above a m (x ∷ l) e h = go (before m x) (insert-above a x l h.0 h.1) (insert-above a m l e h.1)
  where
    go : (t : Bool) → Above a (insert x l) → Above a (insert m l) → Above a (if t (m ∷ insert x l) (x ∷ insert m l))
    go true p q = (e, p)
    go false p q = (h.0, q)

above-has : (m : Message) (l : List Message) → Above m l → has m.from m.name l ≡ false
unfolding has
above-has m [] h = refl
above-has m (x ∷ l) h = rw (alike-not m x h.0, above-has m l h.1)

pub insert-sorted : (m : Message) (l : List Message) → Sorted l → has m.from m.name l ≡ false → Sorted (insert m l)
unfolding insert
insert-sorted m [] s h = (tt, tt)
insert-sorted m (x ∷ l) s h =
    let d = not_there m.from m.name x l h in
    go (before m x) refl (insert-sorted x l s.1 (above-has x l s.0)) (insert-sorted m l s.1 d.1) d.0
  where
    go : (t : Bool) → before m x ≡ t → Sorted (insert x l) → Sorted (insert m l) → alike m x ≡ false → Sorted (if t (m ∷ insert x l) (x ∷ insert m l))
    go true e p q d = (insert-above m x l e (above_trans m x l e s.0), p)
    go false e p q d = (insert-above x m l (one_first m x d e) s.0, q)

-- sorted is ascending
abbrev BelowAll : List Message → List Message → Type 0
BelowAll a [] = Unit {0}
BelowAll a (m ∷ l) = Below a m × BelowAll a l

below_end : (a : List Message) (y m : Message) → Below a m → before y m ≡ true → Below (a ++ (y ∷ [])) m
below_end [] y m p e = (e, tt)
below_end (x ∷ a) y m p e = (p.0, below_end a y m p.1 e)

below-all-end : (a l : List Message) (y : Message) → BelowAll a l → Above y l → BelowAll (a ++ (y ∷ [])) l
below-all-end a [] y p e = tt
below-all-end a (m ∷ l) y p e = (below_end a y m p.0 e.0, below-all-end a l y p.1 e.1)

ascend_of : (a l : List Message) → Sorted l → BelowAll a l → Ascend a l
ascend_of a [] s b = tt
ascend_of a (m ∷ l) s b = (b.0, ascend_of (a ++ (m ∷ [])) l s.1 (below-all-end a l m b.1 s.0))

below_none : (l : List Message) → BelowAll [] l
below_none [] = tt
below_none (m ∷ l) = (tt, below_none l)

pub sorted_ascend : (l : List Message) → Sorted l → Ascend [] l
sorted_ascend l s = ascend_of [] l s (below_none l)

pub insert-between : (s : ℕ) (m : Message) (l : List Message) → (m.from < s) × (m.to < s) × (is_name m.name ≡ true) → AllBetween s l → AllBetween s (insert m l)
unfolding insert
insert-between s m [] g h = (g, tt)
insert-between s m (x ∷ l) g h = go (before m x) (insert-between s x l h.0 h.1) (insert-between s m l g h.1)
  where
    go : (t : Bool) → AllBetween s (insert x l) → AllBetween s (insert m l) → AllBetween s (if t (m ∷ insert x l) (x ∷ insert m l))
    go true p q = (g, p)
    go false p q = (h.0, q)

pub insert-length : (m : Message) (l : List Message) → length (insert m l) ≡ length l + 1
insert-length m l = omega (arith, length-insert m l)

-- states from k on
abbrev pub AtLeast : ℕ → List Message → Type 0
AtLeast k [] = Unit {0}
AtLeast k (m ∷ l) = (k ≤ m.from) × AtLeast k l

pub least : (l : List Message) → AtLeast 0 l
least [] = tt
least (m ∷ l) = (omega arith, least l)

pub least_above : (k : ℕ) (x : Message) (l : List Message) → Above x l → k ≤ x.from → AtLeast k l
least_above k x [] h p = tt
least_above k x (y ∷ l) h p = (go (less x y h.0), least_above k x l h.1 p)
  where
    go : Less x y → k ≤ y.from
    go (inl q) = omega arith
    go (inr q) = omega arith

pub after_sorted : (k : ℕ) (l : List Message) → Sorted l → AtLeast k l → Sorted (after_state k l) × AtLeast (k + 1) (after_state k l)
unfolding after_state
after_sorted k [] s a = (tt, tt)
after_sorted k (x ∷ l) s a = go (eqb x.from k) refl (after_sorted k l s.1 a.1)
  where
    go : (t : Bool) → eqb x.from k ≡ t → Sorted (after_state k l) × AtLeast (k + 1) (after_state k l) → Sorted (if t (after_state k l) (x ∷ l)) × AtLeast (k + 1) (if t (after_state k l) (x ∷ l))
    go true e h = h
    go false e h =
        let n : x.from ≡ k → ⊥ = eqb-false _ _ e in let p : k ≤ x.from = a.0 in
        let q : k + 1 ≤ x.from = omega arith in
        (s, (q, least_above (k + 1) x l s.0 q))

pub between-after : (s k : ℕ) (l : List Message) → AllBetween s l → AllBetween s (after_state k l)
unfolding after_state
between-after s k [] b = tt
between-after s k (m ∷ l) b = go (eqb m.from k) (between-after s k l b.1)
  where
    go : (t : Bool) → AllBetween s (after_state k l) → AllBetween s (if t (after_state k l) (m ∷ l))
    go true h = h
    go false h = b

not_low : (m x : Message) → before m x ≡ false → x.from ≤ m.from
not_low m x e = go (ltb m.from x.from) refl e
  where
    go : (t : Bool) → ltb m.from x.from ≡ t → (t || (eqb m.from x.from && ltb m.name x.name)) ≡ false → x.from ≤ m.from
    go true p h = no (sym h)
    go false p h = ltb-false _ _ p

low : (m x : Message) → before m x ≡ true → m.from ≤ x.from
low m x e = go (less m x e)
  where
    go : Less m x → m.from ≤ x.from
    go (inl h) = omega arith
    go (inr h) = omega arith

-- a message of the state k goes among those that stand first
after-here : (k : ℕ) (m : Message) (l : List Message) → m.from ≡ k → Sorted l → AtLeast k l → after_state k (insert m l) ≡ after_state k l
unfolding insert after_state
after-here k m [] e s a = rw (eq-eqb m.from k e)
after-here k m (x ∷ l) e s a =
    go (before m x) refl (eqb x.from k) refl (λ q. after-here k x l q s.1 a.1) (after-here k m l e s.1 a.1)
  where
    go : (t : Bool) → before m x ≡ t → (u : Bool) → eqb x.from k ≡ u → (x.from ≡ k → after_state k (insert x l) ≡ after_state k l) → after_state k (insert m l) ≡ after_state k l
        → after_state k (if t (m ∷ insert x l) (x ∷ insert m l)) ≡ if u (after_state k l) (x ∷ l)
    go true p true q i j = rw (eq-eqb m.from k e) (i (eqb-true _ _ q))
    go true p false q i j = rw (eq-eqb m.from k e, insert-first x l s.0 s.1, q)
    go false p true q i j = rw q j
    go false p false q i j =
        let n : x.from ≡ k → ⊥ = eqb-false _ _ q in let h = not_low m x p in let b : k ≤ x.from = a.0 in absurd (n (omega arith))

-- one of a later state goes behind them
after-later : (k : ℕ) (m : Message) (l : List Message) → k < m.from → Sorted l → AtLeast k l → after_state k (insert m l) ≡ insert m (after_state k l)
unfolding insert after_state
after-later k m [] e s a = rw (ne_eqb m.from k (omega arith))
after-later k m (x ∷ l) e s a = go (before m x) refl (eqb x.from k) refl (after-later k m l e s.1 a.1)
  where
    go : (t : Bool) → before m x ≡ t → (u : Bool) → eqb x.from k ≡ u → after_state k (insert m l) ≡ insert m (after_state k l)
        → after_state k (if t (m ∷ insert x l) (x ∷ insert m l)) ≡ insert m (if u (after_state k l) (x ∷ l))
    go true p true q i = let h = low m x p in let f : x.from ≡ k = eqb-true _ _ q in absurd (omega arith)
    go true p false q i = rw (ne_eqb m.from k (omega arith), p)
    go false p true q i = rw q i
    go false p false q i = rw (q, p)

sign-here : (k g : ℕ) (m : Message) (l : List Message) → m.from ≡ k → AtLeast k l → (g ≡ 1) ⊎ (g ≡ 2) → Signed k g (insert m l)
unfolding insert
sign-here k g m [] e a o = rw (eq-eqb m.from k e) o
sign-here k g m (x ∷ l) e a o = go (before m x) refl
  where
    go : (t : Bool) → before m x ≡ t → Signed k g (if t (m ∷ insert x l) (x ∷ insert m l))
    go true p = rw (eq-eqb m.from k e) o
    go false p = let h = not_low m x p in let b : k ≤ x.from = a.0 in rw (eq-eqb x.from k (omega arith)) o

sign-later : (k g : ℕ) (m : Message) (l : List Message) → k < m.from → Signed k g l → Signed k g (insert m l)
unfolding insert
sign-later k g m [] e o = rw (ne_eqb m.from k (omega arith)) o
sign-later k g m (x ∷ l) e o = go (before m x) refl
  where
    go : (t : Bool) → before m x ≡ t → Signed k g (if t (m ∷ insert x l) (x ∷ insert m l))
    go true p =
        let h = low m x p in let n : x.from ≡ k → ⊥ = omega arith in
        rw (ne_eqb m.from k (omega arith)) (rw (ne_eqb x.from k n) at o)
    go false p = o

pub settled-message : (s k : ℕ) (mk gs : List ℕ) (i g : ℕ) (m : Message) (l : List Message) → m.from ≡ k + i → i < length gs → (g ≡ 1) ⊎ (g ≡ 2)
    → Sorted l → AtLeast k l → Settled s k mk gs l → Settled s k mk (set gs i g) (insert m l)
settled-message s k [] [] i g m l e n o t a h = absurd (omega arith)
settled-message s k [] (y ∷ gs) i g m l e n o t a h = absurd h
settled-message s k (x ∷ mk) [] i g m l e n o t a h = absurd h
settled-message s k (x ∷ mk) (y ∷ gs) zero g m l e n o t a h =
    let f : m.from ≡ k = omega arith in
    (h.0, sign-here k g m l f a o, subst (λ (z : List Message). Settled s (k + 1) mk gs z) (sym (after-here k m l f t a)) h.2)
settled-message s k (x ∷ mk) (y ∷ gs) (suc i) g m l e n o t a h =
    let f : k < m.from = omega arith in
    let w = after_sorted k l t a in (
      h.0,
      sign-later k y m l f h.1,
      subst (λ (z : List Message). Settled s (k + 1) mk (set gs i g) z) (sym (after-later k m l f t a))
          (settled-message s (k + 1) mk gs i g m (after_state k l) (omega arith) (omega arith) o w.0 w.1 h.2),
    )

pub settled-mark : (s k : ℕ) (mk gs : List ℕ) (i : ℕ) (l : List Message) → k + i < s → Settled s k mk gs l → Settled s k (set mk i 1) gs l
settled-mark s k [] [] i l n h = h
settled-mark s k [] (y ∷ gs) i l n h = h
settled-mark s k (x ∷ mk) [] i l n h = absurd h
settled-mark s k (x ∷ mk) (y ∷ gs) zero l n h = (inr (refl, omega arith), h.1, h.2)
settled-mark s k (x ∷ mk) (y ∷ gs) (suc i) l n h = (h.0, h.1, settled-mark s (k + 1) mk gs i (after_state k l) (omega arith) h.2)
