-- The states that speak as a table of tests, which the code fills once, and that it says what `speaks` says.
use Rattle.std.specs.Prelude.{◌≡◌, refl, List, [], ◌∷◌, Bool, true, false, ◌&&◌, ◌||◌, ℕ, suc, ◌+◌, ◌<◌, ◌≤◌, eqb, length, get_or, set, replicate}
use Rattle.std.proofs.Common.{sym, ap, ◌∙◌, arith, eqb-true, get_or-set_same, get_or-set_other, length-set}
use Rattle.std.proofs.lemmas.Bool.{eqb-false}
use Rattle.std.proofs.lemmas.List.{get_or-replicate, length-replicate}
use Rattle.behaviour.specs.Limits.{most_states}
use Rattle.behaviour.specs.declared.Message.{Message}
use Rattle.behaviour.specs.Sound.{speaks, signed, markable, settled}

-- the table with true at the state of each message
unfoldable pub spoken : List Bool → List Message → List Bool
spoken t [] = t
spoken t (m ∷ l) = spoken (set t m.from true) l

-- each state, by its mark, its sign and its place in the table
unfoldable pub settled_by : List ℕ → List ℕ → List Bool → Bool
settled_by [] gs ts = true
settled_by (m ∷ ms) [] ts = true
settled_by (m ∷ ms) (g ∷ gs) [] = true
settled_by (m ∷ ms) (g ∷ gs) (t ∷ ts) = (signed t g && markable m g) && settled_by ms gs ts

put_one : (t : List Bool) (f k : ℕ) → k < length t → get_or (set t f true) k false ≡ (eqb f k || get_or t k false)
put_one t f k h = go (eqb f k) refl
  where
    go : (b : Bool) → eqb f k ≡ b → get_or (set t f true) k false ≡ (b || get_or t k false)
    go true e = let q : f ≡ k = eqb-true f k e in rw (q, get_or-set_same t k true false h)
    go false e = rw (get_or-set_other t f k true false (λ q. eqb-false f k e (sym q)))

spoken-at : (l : List Message) (t : List Bool) (k : ℕ) → k < length t → get_or (spoken t l) k false ≡ (speaks k l || get_or t k false)
unfolding spoken speaks
spoken-at [] t k h = refl
spoken-at (m ∷ l) t k h = spoken-at l (set t m.from true) k (omega (arith, length-set t m.from true)) ∙ go (eqb m.from k) (put_one t m.from k h)
  where
    either : (a b c : Bool) → (a || (b || c)) ≡ ((b || a) || c)
    either true true c = refl
    either true false c = refl
    either false true c = refl
    either false false c = refl

    go : (b : Bool) → get_or (set t m.from true) k false ≡ (b || get_or t k false)
        → (speaks k l || get_or (set t m.from true) k false) ≡ ((b || speaks k l) || get_or t k false)
    go b e = ap (λ i. speaks k l || i) e ∙ either (speaks k l) b (get_or t k false)

spoken-length : (l : List Message) (t : List Bool) → length (spoken t l) ≡ length t
unfolding spoken
spoken-length [] t = refl
spoken-length (m ∷ l) t = spoken-length l (set t m.from true) ∙ length-set t m.from true

by_table : (l : List Message) (k : ℕ) (ms gs : List ℕ) (ts : List Bool) → length ms ≤ length ts → ((j : ℕ) → j < length ts → get_or ts j false ≡ speaks (k + j) l) → settled_by ms gs ts ≡ settled k ms gs l
unfolding settled_by settled
by_table l k [] gs ts h f = refl
by_table l k (m ∷ ms) [] ts h f = refl
by_table l k (m ∷ ms) (g ∷ gs) [] h f = absurd (omega arith)
by_table l k (m ∷ ms) (g ∷ gs) (t ∷ ts) h f =
    let a : k + 0 ≡ k = omega arith in
    let e : t ≡ speaks k l = f 0 (omega arith) ∙ ap (λ i. speaks i l) a in
    rw (e, by_table l (k + 1) ms gs ts (omega arith) (λ j i. f (suc j) (omega arith) ∙ ap (λ i. speaks i l) (shift j))) (tied (signed (speaks k l) g) (markable m g) (settled (k + 1) ms gs l))
  where
    shift : (j : ℕ) → k + suc j ≡ (k + 1) + j
    shift j = omega arith

    tied : (a b c : Bool) → ((a && b) && c) ≡ (a && (b && c))
    tied true b c = refl
    tied false b c = refl

pub settled-spoken : (l : List Message) (ms gs : List ℕ) → length ms ≡ most_states → settled_by ms gs (spoken (replicate most_states false) l) ≡ settled 0 ms gs l
settled-spoken l ms gs h =
    by_table l 0 ms gs (spoken (replicate most_states false) l) (omega (arith, spoken-length l (replicate most_states false), length-replicate {A = Bool} most_states false))
    (λ j i. let k : j < most_states = omega (arith, spoken-length l (replicate most_states false), length-replicate {A = Bool} most_states false) in said j k)
  where
    plain : (b : Bool) → (b || false) ≡ b
    plain true = refl
    plain false = refl

    said : (j : ℕ) → j < most_states → get_or (spoken (replicate most_states false) l) j false ≡ speaks (0 + j) l
    said j k =
        let q : 0 + j ≡ j = omega arith in
        let z : get_or (replicate most_states false) j false ≡ false = rw (get_or-replicate {A = Bool} most_states j false false k) in
        spoken-at l (replicate most_states false) j (omega (arith, length-replicate {A = Bool} most_states false)) ∙ rw (z, q) (plain (speaks j l))
