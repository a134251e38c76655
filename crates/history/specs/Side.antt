-- One side's behaviour, as far as demand 3 reads it. Its states are of a type of their own.
use Rattle.std.specs.Prelude.{◌≡◌, Bool, true, ◌⊎◌, ℕ}

pub record Side (A : Type 0) : Type 0 where
  pub start : A
  -- the message of this number may be sent at this state, or is taken there, and where it leads
  pub sends : A → ℕ → Bool
  pub takes : A → ℕ → Bool
  pub goes : A → ℕ → A
  pub finished : A → Bool
  pub marked : A → Bool

-- "one side may send it and the other takes all that side may send"
unfoldable pub Can : {A B : Type 0} → Side A → A → Side B → B → ℕ → Type 0
Can s x r y m = (s.sends x m ≡ true) × ((k : ℕ) → s.sends x k ≡ true → r.takes y k ≡ true)

-- so it is, one way or the other
abbrev pub Possible : {A B : Type 0} → Side A → A → Side B → B → ℕ → Type 0
Possible C x S y m = Can C x S y m ⊎ Can S y C x m
