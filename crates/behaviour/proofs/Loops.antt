-- The tests of a value as the code makes them: each of a list's elements by its own test.
use Rattle.std.proofs.Common.{◌≡◌, refl, ap, List, [], ◌∷◌, Bool, true, false, ◌&&◌, ℕ, suc, eqb, length, cond}
use Rattle.std.specs.List.{list_all, filter, zip}
use Rattle.std.proofs.lemmas.List.Recursion.{same_from_clauses}
use Rattle.names.specs.If.{if}
use Rattle.behaviour.specs.declared.Message.{Message}
use Rattle.behaviour.specs.Spoken.{settled_by}
use Rattle.behaviour.specs.Sound.{blank, all_blank, signed, markable, total}

pub blanks : (l : List Message) → list_all blank l ≡ all_blank l
unfolding all_blank
blanks l = same_from_clauses (list_all blank) all_blank (λ m b. blank m && b) refl (λ _ _. refl) (λ _ _. refl) l

pub marked : (l : List ℕ) → length (filter (λ m. eqb m 1) l) ≡ total l
unfolding total
marked [] = refl
marked (m ∷ l) = go (eqb m 1) (marked l)
  where
    go : (t : Bool) → length (filter (λ m. eqb m 1) l) ≡ total l → length (cond t (m ∷ filter (λ m. eqb m 1) l) (filter (λ m. eqb m 1) l)) ≡ if t (suc (total l)) (total l)
    go true e = ap suc e
    go false e = e

-- a state by its mark, its sign and whether it speaks
abbrev pub state : (ℕ × ℕ) × Bool → Bool
state p = signed p.1 p.0.1 && markable p.0.0 p.0.1

pub states : (ms gs : List ℕ) (ts : List Bool) → list_all state (zip (zip ms gs) ts) ≡ settled_by ms gs ts
unfolding settled_by
states [] gs ts = refl
states (m ∷ ms) [] ts = refl
states (m ∷ ms) (g ∷ gs) [] = refl
states (m ∷ ms) (g ∷ gs) (t ∷ ts) = ap (λ b. (signed t g && markable m g) && b) (states ms gs ts)
