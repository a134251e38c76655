-- The test of soundness, and what reading and writing know of a value.
use Rattle.std.specs.Prelude.{◌≡◌, refl, Bool, true, ◌&&◌, ◌||◌, not, ◌⊎◌, ℕ, zero, suc, ◌+◌, ◌<◌, ◌≤◌, eqb, ltb, length, replicate}
use Rattle.std.proofs.Common.{sym, ap, ap₂, ◌∙◌, inl, inr, arith, eq-eqb, ne_eqb, lt-ltb, ltb-true, eqb-true}
use Rattle.std.proofs.Math.Path.{subst}
use mathlib.Core.List.{List, [], ◌∷◌}
use Rattle.std.proofs.Math.Bool.{false}
use Rattle.std.proofs.lemmas.Bool.{eqb-false}
use Rattle.names.specs.If.{if}
use Rattle.names.specs.Names.{is_name}
use Rattle.names.specs.Tests.{no, both, joined}
use Rattle.behaviour.specs.declared.Message.{Message}
use Rattle.behaviour.specs.Pick.{unused}
use Rattle.behaviour.specs.Sound.{leads, sorted, between, all_between, blank, all_blank, speaks, signed, markable, settled}
use Rattle.aut.specs.File.{marked_finished}
use Rattle.writer.specs.Text.{after_state}
use Rattle.roundtrip.specs.Rebuild.{AllBetween, pick, Signed, Settled}
use Rattle.roundtrip.specs.Sorted.{Above, Sorted, AtLeast, above_trans, least_above, after_sorted, between-after}

-- each message before the next, and each before all that follow
pub sorted_of : (l : List Message) → sorted l ≡ true → Sorted l
unfolding sorted
sorted_of [] e = tt
sorted_of (m ∷ l) e = let b = both (leads m l) (sorted l) e in let r = sorted_of l b.1 in (lead l b.0 r, r)
  where
    lead : (l : List Message) → leads m l ≡ true → Sorted l → Above m l
    lead [] e s = tt
    lead (x ∷ l) e s = (e, above_trans m x l e s.0)

pub sorted_back : (l : List Message) → Sorted l → sorted l ≡ true
unfolding sorted
sorted_back [] s = refl
sorted_back (m ∷ []) s = refl
sorted_back (m ∷ x ∷ l) s = joined s.0.0 (sorted_back (x ∷ l) s.1)

pub between_of : (s : ℕ) (l : List Message) → all_between s l ≡ true → AllBetween s l
unfolding all_between
between_of s [] e = tt
between_of s (m ∷ l) e =
    let b = both (between s m) (all_between s l) e in
    let f = both (ltb m.from s) (ltb m.to s && is_name m.name) b.0 in
    let t = both (ltb m.to s) (is_name m.name) f.1 in
    ((ltb-true _ _ f.0, ltb-true _ _ t.0, t.1), between_of s l b.1)

pub between-back : (s : ℕ) (l : List Message) → AllBetween s l → all_between s l ≡ true
unfolding all_between
between-back s [] h = refl
between-back s (m ∷ l) h = joined (joined (lt-ltb _ _ h.0.0) (joined (lt-ltb _ _ h.0.1) h.0.2)) (between-back s l h.1)

blank-is : (m : Message) → blank m ≡ true → m ≡ unused
blank-is m e =
    let a = both (eqb m.from 0) (eqb m.name 0 && eqb m.to 0) e in
    let b = both (eqb m.name 0) (eqb m.to 0) a.1 in
    ap {B = Message} (λ (x : ℕ). record { name = x; from = m.from; to = m.to }) (eqb-true m.name 0 b.0)
    ∙ ap {B = Message} (λ (x : ℕ). record { name = 0; from = x; to = m.to }) (eqb-true m.from 0 a.0)
    ∙ ap {B = Message} (λ (x : ℕ). record { name = 0; from = 0; to = x }) (eqb-true m.to 0 b.1)

-- what is blank is all unused places
pub blank_of : (l : List Message) → all_blank l ≡ true → l ≡ replicate (length l) unused
unfolding all_blank
blank_of [] e = refl
blank_of (m ∷ l) e = let b = both (blank m) (all_blank l) e in ap₂ {C = List Message} (λ (x : Message) (y : List Message). x ∷ y) (blank-is m b.0) (blank_of l b.1)

pub blank-back : (n : ℕ) → all_blank (replicate n unused) ≡ true
unfolding all_blank
blank-back zero = refl
blank-back (suc n) = blank-back n

-- a state before all messages has none
silent : (k : ℕ) (l : List Message) → AtLeast (k + 1) l → speaks k l ≡ false
unfolding speaks
silent k [] a = refl
silent k (m ∷ l) a = let h = a.0 in rw (ne_eqb m.from k (omega arith), silent k l a.1)

-- of sorted messages from the state k on, those of k stand first
speaks-first : (k : ℕ) (m : Message) (l : List Message) → Sorted (m ∷ l) → AtLeast k (m ∷ l) → speaks k (m ∷ l) ≡ eqb m.from k
unfolding speaks
speaks-first k m l s a = go (eqb m.from k) refl
  where
    go : (t : Bool) → eqb m.from k ≡ t → (t || speaks k l) ≡ t
    go true e = refl
    go false e =
        let n : m.from ≡ k → ⊥ = eqb-false _ _ e in let h = a.0 in
        silent k l (least_above (k + 1) m l s.0 (omega arith))

signed_of : (g : ℕ) (t : Bool) → signed t g ≡ true → pick t ((g ≡ 1) ⊎ (g ≡ 2)) (g ≡ 0)
signed_of g false e = eqb-true g 0 e
signed_of g true e = go (eqb g 1) refl e
  where
    go : (u : Bool) → eqb g 1 ≡ u → (u || eqb g 2) ≡ true → (g ≡ 1) ⊎ (g ≡ 2)
    go true p h = inl (eqb-true g 1 p)
    go false p h = inr (eqb-true g 2 h)

signed_back : (g : ℕ) (t : Bool) → pick t ((g ≡ 1) ⊎ (g ≡ 2)) (g ≡ 0) → signed t g ≡ true
signed_back g false e = eq-eqb g 0 e
signed_back g true (inl e) = rw (eq-eqb g 1 e)
signed_back g true (inr e) = rw (ne_eqb g 1 (omega arith), eq-eqb g 2 e)

module _ (k g : ℕ) where
  sign_of : (l : List Message) → Sorted l → AtLeast k l → signed (speaks k l) g ≡ true → Signed k g l
  unfolding speaks
  sign_of [] s a e = signed_of g false e
  sign_of (m ∷ l) s a e = signed_of g (eqb m.from k) (subst (λ (t : Bool). signed t g ≡ true) (speaks-first k m l s a) e)

  sign-back : (l : List Message) → Sorted l → AtLeast k l → Signed k g l → signed (speaks k l) g ≡ true
  unfolding speaks
  sign-back [] s a e = signed_back g false e
  sign-back (m ∷ l) s a e = subst (λ (t : Bool). signed t g ≡ true) (sym (speaks-first k m l s a)) (signed_back g (eqb m.from k) e)

-- the messages of the state k do not tell of another
speaks-after : (j k : ℕ) (l : List Message) → (k ≡ j → ⊥) → speaks j (after_state k l) ≡ speaks j l
unfolding speaks after_state
speaks-after j k [] n = refl
speaks-after j k (m ∷ l) n = go (eqb m.from k) refl (speaks-after j k l n)
  where
    go : (t : Bool) → eqb m.from k ≡ t → speaks j (after_state k l) ≡ speaks j l → speaks j (if t (after_state k l) (m ∷ l)) ≡ (eqb m.from j || speaks j l)
    go true e h = let f : m.from ≡ k = eqb-true _ _ e in rw (ne_eqb m.from j (λ q. n (sym f ∙ q))) h
    go false e h = refl

settled_same : (k : ℕ) (ms gs : List ℕ) (l r : List Message) → ((j : ℕ) → k ≤ j → speaks j r ≡ speaks j l) → settled k ms gs r ≡ settled k ms gs l
unfolding settled
settled_same k [] gs l r h = refl
settled_same k (m ∷ ms) [] l r h = refl
settled_same k (m ∷ ms) (g ∷ gs) l r h = rw (h k (omega arith), settled_same (k + 1) ms gs l r (λ j q. h j (omega arith)))

settled-after : (k : ℕ) (ms gs : List ℕ) (l : List Message) → settled (k + 1) ms gs (after_state k l) ≡ settled (k + 1) ms gs l
settled-after k ms gs l = settled_same (k + 1) ms gs l (after_state k l) (λ j q. speaks-after j k l (omega arith))

-- a marked state is not finished
markable_of : (m g : ℕ) → markable m g ≡ true → (m ≡ 0) ⊎ ((m ≡ 1) × (g ≡ 0 → ⊥))
markable_of m g e = go (eqb m 0) refl e
  where
    go : (t : Bool) → eqb m 0 ≡ t → (t || (eqb m 1 && not (eqb g 0))) ≡ true → (m ≡ 0) ⊎ ((m ≡ 1) × (g ≡ 0 → ⊥))
    go true p h = inl (eqb-true m 0 p)
    go false p h = let b = both (eqb m 1) (not (eqb g 0)) h in inr (eqb-true m 1 b.0, λ z. zero-sign (eqb g 0) (eq-eqb g 0 z) b.1)
      where
        zero-sign : (u : Bool) → u ≡ true → not u ≡ true → ⊥
        zero-sign true p q = no q
        zero-sign false p q = no p

markable-back : (m g : ℕ) → (m ≡ 0) ⊎ ((m ≡ 1) × (g ≡ 0 → ⊥)) → markable m g ≡ true
markable-back m g (inl e) = rw (eq-eqb m 0 e)
markable-back m g (inr e) = rw (ne_eqb m 0 (omega (arith, e.0)), eq-eqb m 1 e.0, ne_eqb g 0 e.1)

-- a state that has a sign has a message, so it is one of the s states
below_states : (s k g : ℕ) (l : List Message) → AllBetween s l → Signed k g l → (g ≡ 0 → ⊥) → k < s
below_states s k g [] b o n = absurd (n o)
below_states s k g (m ∷ l) b o n = go (eqb m.from k) refl o
  where
    go : (t : Bool) → eqb m.from k ≡ t → pick t ((g ≡ 1) ⊎ (g ≡ 2)) (g ≡ 0) → k < s
    go true e o = let f : m.from ≡ k = eqb-true _ _ e in let h = b.0.0 in omega arith
    go false e o = absurd (n o)

-- the mark and the sign of the state k, and the rest
parts : (k m g : ℕ) (ms gs : List ℕ) (l : List Message) → settled k (m ∷ ms) (g ∷ gs) l ≡ true
    → (signed (speaks k l) g ≡ true) × (markable m g ≡ true) × (settled (k + 1) ms gs l ≡ true)
unfolding settled
parts k m g ms gs l e =
    let a = both (signed (speaks k l) g) (markable m g && settled (k + 1) ms gs l) e in
    let b = both (markable m g) (settled (k + 1) ms gs l) a.1 in
    (a.0, b.0, b.1)

pub settled_of : (s k : ℕ) (ms gs : List ℕ) (l : List Message) → length ms ≡ length gs → s ≤ k + length ms → Sorted l → AtLeast k l → AllBetween s l
    → settled k ms gs l ≡ true → Settled s k ms gs l
settled_of s k [] [] [] n h o a b e = refl
settled_of s k [] [] (m ∷ l) n h o a b e = let f = b.0.0 in let g = a.0 in absurd (omega arith)
settled_of s k [] (g ∷ gs) l n h o a b e = absurd (omega arith)
settled_of s k (m ∷ ms) [] l n h o a b e = absurd (omega arith)
settled_of s k (m ∷ ms) (g ∷ gs) l n h o a b e =
    let p = parts k m g ms gs l e in
    let sign = sign_of k g l o a p.0 in
    let r = after_sorted k l o a in (
      mark sign (markable_of m g p.1),
      sign,
      settled_of s (k + 1) ms gs (after_state k l) (omega arith) (omega arith) r.0 r.1 (between-after s k l b) (settled-after k ms gs l ∙ p.2),
    )
  where
    mark : Signed k g l → (m ≡ 0) ⊎ ((m ≡ 1) × (g ≡ 0 → ⊥)) → (m ≡ 0) ⊎ ((m ≡ 1) × (k < s))
    mark sign (inl z) = inl z
    mark sign (inr z) = inr (z.0, below_states s k g l b sign z.1)

-- no marked state is finished
pub unfinished_of : (k : ℕ) (ms gs : List ℕ) (l : List Message) → length ms ≡ length gs → settled k ms gs l ≡ true → k + length ms ≤ marked_finished k ms gs
unfolding marked_finished
unfinished_of k [] gs l n e = omega arith
unfinished_of k (m ∷ ms) [] l n e = absurd (omega arith)
unfinished_of k (m ∷ ms) (g ∷ gs) l n e =
    let p = parts k m g ms gs l e in
    rw (other (markable_of m g p.1)) (omega (arith, unfinished_of (k + 1) ms gs l (omega arith) p.2))
  where
    other : (m ≡ 0) ⊎ ((m ≡ 1) × (g ≡ 0 → ⊥)) → (eqb m 1 && eqb g 0) ≡ false
    other (inl z) = rw (ne_eqb m 1 (omega arith))
    other (inr z) = rw (eq-eqb m 1 z.0, ne_eqb g 0 z.1)

pub settled_back : (s k : ℕ) (ms gs : List ℕ) (l : List Message) → Sorted l → AtLeast k l → Settled s k ms gs l → k + length ms ≤ marked_finished k ms gs
    → settled k ms gs l ≡ true
unfolding settled marked_finished
settled_back s k [] gs l o a h u = refl
settled_back s k (m ∷ ms) [] l o a h u = refl
settled_back s k (m ∷ ms) (g ∷ gs) l o a h u =
    let r = after_sorted k l o a in
    let x = go (eqb m 1 && eqb g 0) refl u in
    joined (sign-back k g l o a h.1)
    (joined (markable-back m g (mark h.0 x.0))
    (sym (settled-after k ms gs l) ∙ settled_back s (k + 1) ms gs (after_state k l) r.0 r.1 h.2 x.1))
  where
    go : (t : Bool) → (eqb m 1 && eqb g 0) ≡ t → k + suc (length ms) ≤ if t k (marked_finished (k + 1) ms gs)
        → ((eqb m 1 && eqb g 0) ≡ false) × (k + 1 + length ms ≤ marked_finished (k + 1) ms gs)
    go true e v = absurd (omega arith)
    go false e v = (e, omega arith)

    mark : (m ≡ 0) ⊎ ((m ≡ 1) × (k < s)) → (eqb m 1 && eqb g 0) ≡ false → (m ≡ 0) ⊎ ((m ≡ 1) × (g ≡ 0 → ⊥))
    mark (inl z) e = inl z
    mark (inr z) e = inr (z.0, λ y. no (sym e ∙ joined (eq-eqb m 1 z.0) (eq-eqb g 0 y)))
