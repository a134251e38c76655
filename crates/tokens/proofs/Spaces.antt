-- The definition `spaces`, by the place of the first byte that is none.
use Rattle.std.proofs.Common.{◌≡◌, ◌≢◌, refl, List, [], ◌∷◌, ℕ, zero, suc, ◌<◌, length, get_or, drop, arith, eq-eqb, ne_eqb}
use Rattle.tokens.specs.Tokens.{spaces}

-- up to place n there are spaces alone
abbrev pub SpacesBefore : List ℕ → ℕ → Type 0
SpacesBefore s n = (k : ℕ) → k < n → get_or s k 0 ≡ 32

after_first : (c n : ℕ) (s : List ℕ) → SpacesBefore (c ∷ s) (suc n) → (c ≡ 32) × SpacesBefore s n
after_first c n s h = (h 0 (omega arith), λ k p. h (suc k) (omega arith))

pub spaces-alone : (s : List ℕ) → SpacesBefore s (length s) → spaces s ≡ []
unfolding spaces
spaces-alone [] h = refl
spaces-alone (c ∷ s) h =
    let g = after_first c (length s) s h in
    rw (eq-eqb c 32 g.0) (spaces-alone s g.1)

pub spaces-end : (s : List ℕ) (n : ℕ) → SpacesBefore s n → get_or s n 0 ≢ 32 → spaces s ≡ drop n s
unfolding spaces
spaces-end [] zero h o = refl
spaces-end [] (suc n) h o = refl
spaces-end (c ∷ s) zero h o = rw (ne_eqb c 32 o) refl
spaces-end (c ∷ s) (suc n) h o =
    let g = after_first c n s h in
    rw (eq-eqb c 32 g.0) (spaces-end s n g.1 o)
