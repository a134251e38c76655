-- The definitions `has` and `marked_finished` by what the library's searches found.
use Rattle.std.proofs.Common.{◌≡◌, refl, List, [], ◌∷◌, Bool, true, false, ◌&&◌, ◌||◌, ℕ, zero, suc, ◌+◌, ◌<◌, eqb, eq-eqb, eqb-true, length, get_or, arith}
use Rattle.std.specs.List.{list_any}
use Rattle.names.specs.If.{if}
use Rattle.behaviour.specs.declared.Message.{Message}
use Rattle.behaviour.specs.Pick.{is}
use Rattle.aut.specs.Adding.{has}
use Rattle.aut.specs.File.{marked_finished}

either-if : (t u : Bool) → (t || u) ≡ if t true u
either-if true u = refl
either-if false u = refl

pub has-any : (f n : ℕ) (l : List Message) → list_any (is f n) l ≡ has f n l
unfolding has
has-any f n [] = refl
has-any f n (x ∷ l) = rw (has-any f n l) (either-if (is f n x) (has f n l))

-- the state i is marked and finished
abbrev pub IsMarkedFinished : List ℕ → List ℕ → ℕ → Type 0
IsMarkedFinished ms gs i = (get_or ms i 0 ≡ 1) × (get_or gs i 0 ≡ 0)

-- none of the first n states is
abbrev pub NoneBefore : List ℕ → List ℕ → ℕ → Type 0
NoneBefore ms gs n = (k : ℕ) → k < n → IsMarkedFinished ms gs k → ⊥

no-mark : (m g : ℕ) → ((m ≡ 1) × (g ≡ 0) → ⊥) → (eqb m 1 && eqb g 0) ≡ false
no-mark m g h = go (eqb m 1) (eqb g 0) refl refl
  where
    go : (t u : Bool) → eqb m 1 ≡ t → eqb g 0 ≡ u → (t && u) ≡ false
    go true true e f = absurd (h (eqb-true m 1 e, eqb-true g 0 f))
    go true false e f = refl
    go false u e f = refl

pub marked-none : (k : ℕ) (ms gs : List ℕ) → length gs ≡ length ms → NoneBefore ms gs (length ms) → marked_finished k ms gs ≡ k + length ms
unfolding marked_finished
marked-none k [] gs e h = omega arith
marked-none k (m ∷ ms) [] e h = absurd (omega arith)
marked-none k (m ∷ ms) (g ∷ gs) e h =
    let i = marked-none (k + 1) ms gs (omega arith) (λ j p. h (suc j) (omega arith)) in
    rw (no-mark m g (h 0 (omega arith)), i) (omega arith)

pub marked-first : (k i : ℕ) (ms gs : List ℕ) → i < length ms → i < length gs → IsMarkedFinished ms gs i → NoneBefore ms gs i
    → marked_finished k ms gs ≡ k + i
unfolding marked_finished
marked-first k i [] gs p q e h = absurd (omega arith)
marked-first k i (m ∷ ms) [] p q e h = absurd (omega arith)
marked-first k zero (m ∷ ms) (g ∷ gs) p q e h = rw (eq-eqb m 1 e.0, eq-eqb g 0 e.1) (omega arith)
marked-first k (suc i) (m ∷ ms) (g ∷ gs) p q e h =
    let t = marked-first (k + 1) i ms gs (omega arith) (omega arith) e (λ j r. h (suc j) (omega arith)) in
    rw (no-mark m g (h 0 (omega arith)), t) (omega arith)
