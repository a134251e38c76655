-- The order of messages, "sorted by state and then by name", as an order of numbers.
use Rattle.std.specs.Prelude.{◌≡◌, refl, Bool, true, false, ◌&&◌, ◌||◌, ◌⊎◌, ◌<◌, ltb, eqb}
use Rattle.std.proofs.Common.{sym, inl, inr, arith, ltb-true, ltb-false, eqb-true, eq-eqb, ne_eqb, lt-ltb, le-ltb}
use Rattle.std.proofs.lemmas.Bool.{eqb-false}
use Rattle.names.specs.Tests.{no}
use Rattle.behaviour.specs.declared.Message.{Message}
use Rattle.behaviour.specs.Pick.{is}
use Rattle.behaviour.specs.Sound.{before}

abbrev pub Less : Message → Message → Type 0
Less a b = (a.from < b.from) ⊎ ((a.from ≡ b.from) × (a.name < b.name))

pub less : (a b : Message) → before a b ≡ true → Less a b
less a b e = go (ltb a.from b.from) (eqb a.from b.from) refl refl e
  where
    go : (s t : Bool) → ltb a.from b.from ≡ s → eqb a.from b.from ≡ t → (s || (t && ltb a.name b.name)) ≡ true → Less a b
    go true t p q h = inl (ltb-true _ _ p)
    go false true p q h = inr (eqb-true _ _ q, ltb-true _ _ h)
    go false false p q h = no h

pub of_less : (a b : Message) → Less a b → before a b ≡ true
of_less a b (inl h) = simp (lt-ltb a.from b.from h)
of_less a b (inr h) = simp (le-ltb a.from b.from (omega arith), eq-eqb a.from b.from h.0, lt-ltb a.name b.name h.1)

pub before_trans : (a b c : Message) → before a b ≡ true → before b c ≡ true → before a c ≡ true
before_trans a b c p q = of_less a c (go (less a b p) (less b c q))
  where
    go : Less a b → Less b c → Less a c
    go (inl x) (inl y) = inl (omega arith)
    go (inl x) (inr y) = inl (omega arith)
    go (inr x) (inl y) = inl (omega arith)
    go (inr x) (inr y) = inr (omega arith, omega arith)

pub not_back : (a b : Message) → before a b ≡ true → before b a ≡ false
not_back a b e = go (less a b e)
  where
    go : Less a b → before b a ≡ false
    go (inl h) = simp (le-ltb b.from a.from (omega arith), ne_eqb b.from a.from (omega arith))
    go (inr h) = simp (le-ltb b.from a.from (omega arith), le-ltb b.name a.name (omega arith), eq-eqb b.from a.from (sym h.0))

-- a message at the state and with the name of m
abbrev pub alike : Message → Message → Bool
alike m x = is m.from m.name x

pub not_alike : (a b : Message) → before a b ≡ true → alike b a ≡ false
not_alike a b e = go (less a b e)
  where
    go : Less a b → alike b a ≡ false
    go (inl h) = simp (ne_eqb a.from b.from (omega arith))
    go (inr h) = simp (eq-eqb a.from b.from h.0, ne_eqb a.name b.name (omega arith))

pub alike-not : (a b : Message) → before a b ≡ true → alike a b ≡ false
alike-not a b e = go (less a b e)
  where
    go : Less a b → alike a b ≡ false
    go (inl h) = simp (ne_eqb b.from a.from (omega arith))
    go (inr h) = simp (eq-eqb b.from a.from (sym h.0), ne_eqb b.name a.name (omega arith))

-- of two that are not alike one comes before the other
pub one_first : (a b : Message) → alike a b ≡ false → before a b ≡ false → before b a ≡ true
one_first a b n e = of_less b a (go (ltb a.from b.from) (eqb a.from b.from) (eqb b.from a.from) refl refl refl e n)
  where
    go : (s t u : Bool) → ltb a.from b.from ≡ s → eqb a.from b.from ≡ t → eqb b.from a.from ≡ u
        → (s || (t && ltb a.name b.name)) ≡ false → (u && eqb b.name a.name) ≡ false → Less b a
    go true t u p q r h k = no (sym h)
    go false true true p q r h k = inr (eqb-true _ _ r, omega (arith, ltb-false a.name b.name h, eqb-false b.name a.name k))
    go false true false p q r h k = absurd (eqb-false b.from a.from r (sym (eqb-true _ _ q)))
    go false false u p q r h k = inl (omega (arith, ltb-false a.from b.from p, eqb-false a.from b.from q))
