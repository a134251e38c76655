-- The definitions at a list by its first byte, and at a word that comes first.
use Rattle.std.proofs.Common.{◌≡◌, ◌≢◌, refl, ap, ◌∙◌, List, [], ◌∷◌, ◌++◌, ℕ, Bool, true, false, eqb, length, arith, eqb-true, ◌⊎◌, inl, inr, ⊎_elim, MatchOption, Option, Some, None}
use Rattle.std.proofs.Common.{eq-eqb}
use denote.Bor.{Bor}
use Rattle.tokens.specs.Parse.{got, off, nothing}
use Rattle.tokens.specs.Tokens.{byte, word}

pub byte-end : (b : ℕ) (s : List ℕ) → length s ≡ 0 → byte b s ≡ off
unfolding byte
byte-end b [] h = refl
byte-end b (c ∷ s) h = absurd (omega arith)

pub word-append : (w r : List ℕ) → word w (w ++ r) ≡ got nothing r
unfolding word byte
word-append [] r = refl
word-append (c ∷ w) r = rw (eq-eqb c c refl) (word-append w r)

-- a list begins with the word w, or w isn't found in it
pub word-found_or_off : (w s : List ℕ) → ((t : List ℕ) × (s ≡ w ++ t) × (word w s ≡ got nothing t)) ⊎ (word w s ≡ off)
unfolding word byte
word-found_or_off [] s = inl (s, refl, refl)
word-found_or_off (c ∷ w) [] = inr refl
word-found_or_off (c ∷ w) (d ∷ s) = go (eqb d c) refl (word-found_or_off w s)
  where
    go : (b : Bool) → eqb d c ≡ b → ((t : List ℕ) × (s ≡ w ++ t) × (word w s ≡ got nothing t)) ⊎ (word w s ≡ off)
        → ((t : List ℕ) × (d ∷ s ≡ c ∷ (w ++ t)) × (word (c ∷ w) (d ∷ s) ≡ got nothing t)) ⊎ (word (c ∷ w) (d ∷ s) ≡ off)
    go true e (inl (t, f, g)) = let z : d ≡ c = eqb-true d c e in inl (t, cc, rw e g)
    go true e (inr g) = inr (rw e g)
    go false e h = inr (rw e)

-- what a reader of the word w found
pub word_found : (w s : List ℕ) (r : Option (Bor (List ℕ))) → MatchOption r ((t : List ℕ) → s ≢ w ++ t) (λ x. s ≡ w ++ x.now)
    → MatchOption r (word w s ≡ off) (λ x. word w s ≡ got nothing x.now)
word_found w s None h = ⊎_elim (λ f. absurd (h f.0 f.1)) (λ e. e) (word-found_or_off w s)
word_found w s (Some x) h = ap (word w) h ∙ word-append w x.now
