-- What reading a token gives, and readings one after the other. A reading takes the bytes that are left and gives a value with the bytes
-- that are then left, or nothing.
use Rattle.std.specs.Prelude.{◌≡◌, List, ℕ, Option, MatchOption}
use denote.Bor.{Bor}

pub data Got (A : Type 0) : Type 0 where
  got : A → List ℕ → Got A
  off : Got A

pub data Nothing : Type 0 where
  nothing : Nothing

infixl 1 ◌>>=◌ ◌>>◌
module _ {A B : Type 0} where
  abbrev pub and_then : Got A → (A → List ℕ → Got B) → Got B
  and_then (got a s) f = f a s
  and_then off f = off

  abbrev pub ◌>>=◌ : (List ℕ → Got A) → (A → List ℕ → Got B) → List ℕ → Got B
  ◌>>=◌ p f s = and_then (p s) f

  abbrev pub ◌>>◌ : (List ℕ → Got A) → (List ℕ → Got B) → List ℕ → Got B
  ◌>>◌ p q s = and_then (p s) (λ _. q)

-- the code's answer is the reading g: what it read and the bytes that are left, or None
abbrev pub Gives : {A : Type 0} → Option (A × Bor (List ℕ)) → Got A → Type 0
Gives result g = MatchOption result (g ≡ off) (λ r. g ≡ got r.0 r.1.now)

-- the same where nothing but the bytes that are left is given
abbrev pub Passes : Option (Bor (List ℕ)) → Got Nothing → Type 0
Passes result g = MatchOption result (g ≡ off) (λ r. g ≡ got nothing r.now)
