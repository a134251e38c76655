-- The definition `after` where the byte and the spaces round it are passed first.
use Rattle.std.proofs.Common.{◌≡◌, refl, List, ℕ}
use Rattle.tokens.specs.Parse.{Got, got, off, nothing, Nothing, and_then}
use Rattle.tokens.specs.Tokens.{byte, spaces}
use Rattle.tokens.specs.Lines.{after}

after_then : {A : Type 0} (p : List ℕ → Got A) (g : Got Nothing)
    → and_then g (λ _ t. p (spaces t)) ≡ and_then (and_then g (λ _ t. got nothing (spaces t))) (λ _. p)
after_then p (got x t) = refl
after_then p off = refl

pub after_off : {A : Type 0} (b : ℕ) (p : List ℕ → Got A) (s : List ℕ) → after b (got nothing) s ≡ off → after b p s ≡ off
after_off b p s e = rw (after_then p (byte b (spaces s)), e)

pub after_got : {A : Type 0} (b : ℕ) (p : List ℕ → Got A) (s r : List ℕ) → after b (got nothing) s ≡ got nothing r → after b p s ≡ p r
after_got b p s r e = rw (after_then p (byte b (spaces s)), e)
