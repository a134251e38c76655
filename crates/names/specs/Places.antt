-- A list at a position: the element there and what is left after it; and two lists put there one after the other.
use Rattle.std.specs.Prelude.{◌≡◌, List, [], ◌∷◌, ◌++◌, ℕ, suc, ◌+◌, ◌<◌, length, get_or, set, drop}
use Rattle.std.proofs.Common.{add-one, arith, drop-cons}
use Rattle.std.proofs.lemmas.List.Edits.{sets}

pub here : {A : Type 0} (d : A) (s : List A) (i : ℕ) → i < length s → drop i s ≡ get_or s i d ∷ drop (i + 1) s
here d s i h = rw (add-one, drop-cons s i d h)

pub sets-append : (l : List ℕ) (i : ℕ) (a b : List ℕ) → sets l i (a ++ b) ≡ sets (sets l i a) (i + length a) b
sets-append l i [] b = let e : i + 0 ≡ i = omega arith in rw e
sets-append l i (x ∷ a) b = let e : i + suc (length a) ≡ suc i + length a = omega arith in rw e (sets-append (set l i x) (suc i) a b)
