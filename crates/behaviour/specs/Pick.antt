-- Tests of messages, and the first message of a list that passes one.
use Rattle.std.specs.Prelude.{◌≡◌, List, [], ◌∷◌, Bool, ◌&&◌, ℕ, suc, ◌+◌, ◌-◌, ◌<◌, ◌≤◌, eqb, length, get_or, drop, take}
use Rattle.std.proofs.Common.{ap₂}
use native.Mathlib.Omega.{arith}
use Rattle.names.specs.If.{if}
use Rattle.names.specs.Places.{here}
use Rattle.behaviour.specs.declared.Message.{Message}

-- the message n from the state x
abbrev pub is : ℕ → ℕ → Message → Bool
is x n m = eqb m.from x && eqb m.name n

-- v of the first message that passes the test t; d if none does
module _ {A : Type 0} (t : Message → Bool) (v : Message → A) (d : A) where
  unfoldable pub pick : List Message → A
  pick [] = d
  pick (m ∷ l) = if (t m) (v m) (pick l)

-- "Unused places are zero"
abbrev pub unused : Message
unused = record { name = 0; from = 0; to = 0 }

-- its earlier name, which `tables` still uses
abbrev pub nil : Message
nil = unused

pub next-used : (n : ℕ) (a : List Message) (i : ℕ) → i < n → n ≤ length a → take (n - i) (drop i a) ≡ get_or a i unused ∷ take (n - (i + 1)) (drop (i + 1) a)
next-used n a i h l =
    let e : n - i ≡ suc (n - (i + 1)) = omega arith in
    let k : i < length a = omega arith in
    ap₂ {C = List Message} take e (here unused a i k)
