-- The definition `text`, by the place of the first quote or LF.
use Rattle.std.proofs.Common.{◌≡◌, ◌≢◌, refl, List, [], ◌∷◌, ℕ, zero, suc, ◌<◌, length, get_or, take, drop, Bool, true, false, eqb, arith, eq-eqb, ne_eqb, drop_of_length-le}
use Rattle.std.proofs.lemmas.Bool.{eqb-false}
use Rattle.names.specs.If.{if}
use Rattle.tokens.specs.Parse.{Got, got, off, Nothing}
use Rattle.tokens.specs.Tokens.{byte, text, prepend}

-- no byte before place n is b
abbrev pub NoneBefore : ℕ → List ℕ → ℕ → Type 0
NoneBefore b s n = (k : ℕ) → k < n → get_or s k 0 ≢ b

-- the first byte is another, and so are those after it
after_first : (b c n : ℕ) (s : List ℕ) → NoneBefore b (c ∷ s) (suc n) → (c ≢ b) × NoneBefore b s n
after_first b c n s h = (h 0 (omega arith), λ k p. h (suc k) (omega arith))

off-stays : (c : ℕ) (t : Bool) → if t off (prepend c off) ≡ off
off-stays c true = refl
off-stays c false = refl

-- without a quote there is no text
pub text-open : (s : List ℕ) → NoneBefore 34 s (length s) → text s ≡ off
unfolding text
text-open [] h = refl
text-open (c ∷ s) h =
    let g = after_first 34 c (length s) s h in
    rw (ne_eqb c 34 g.0, text-open s g.1) (off-stays c (eqb c 10))

-- b stands before what is read
abbrev pub closed : List ℕ → Got Nothing → Got (List ℕ)
closed b (got _ r) = got b r
closed b off = off

prepend-closed : (c : ℕ) (b : List ℕ) (g : Got Nothing) → prepend c (closed b g) ≡ closed (c ∷ b) g
prepend-closed c b (got _ r) = refl
prepend-closed c b off = refl

-- up to n there is neither, and there is one of them: a quote ends the text, and LF does not
pub text-closed : (s : List ℕ) (n : ℕ) → NoneBefore 34 s n → NoneBefore 10 s n → (get_or s n 0 ≢ 34 → get_or s n 0 ≡ 10)
    → text s ≡ closed (take n s) (byte 34 (drop n s))
unfolding text byte
text-closed [] n h l e = rw (drop_of_length-le {A = ℕ} [] {i = n} (omega arith))
text-closed (c ∷ s) zero h l e = first (eqb c 34) refl
  where
    first : (t : Bool) → eqb c 34 ≡ t → text (c ∷ s) ≡ closed [] (byte 34 (c ∷ s))
    first true q = rw q
    first false q = let z : c ≡ 10 = e (eqb-false c 34 q) in rw (q, eq-eqb c 10 z)
text-closed (c ∷ s) (suc n) h l e =
    let g = after_first 34 c n s h in
    let f = after_first 10 c n s l in
    rw (ne_eqb c 34 g.0, ne_eqb c 10 f.0, text-closed s n g.1 f.1 e) (prepend-closed c (take n s) (byte 34 (drop n s)))
