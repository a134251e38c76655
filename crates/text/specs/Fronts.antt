-- A text at the front of a buffer.
use Rattle.std.specs.Prelude.{◌≡◌, List, ◌++◌, Bool, true, false, ℕ, leb, length, drop, Option, Some, None}
use Rattle.std.proofs.Common.{sym, ◌∙◌, arith}
use Rattle.names.specs.If.{if}

-- has the buffer room for the text w?
abbrev pub room : List ℕ → List ℕ → Bool
room w out = leb (length w) (length out)

-- the text w stands first in the buffer, which was out and is e, the bytes after it stay, and r is its length; where there is no room for
-- it, the buffer is as it was
pub record Fronts (w out : List ℕ) (r : Option ℕ) (e : List ℕ) : Type 0 where
  pub says : r ≡ if (room w out) (Some (length w)) None
  pub leaves : e ≡ if (room w out) (w ++ drop (length w) out) out

-- any two results that it allows for one input are equal
pub fronts-once : {w out : List ℕ} {r s : Option ℕ} {e f : List ℕ} → Fronts w out r e → Fronts w out s f → (r ≡ s) × (e ≡ f)
fronts-once p q = (p.says ∙ sym q.says, p.leaves ∙ sym q.leaves)

-- what it counts is the text
pub fronts-length : {w out : List ℕ} {r : Option ℕ} {e : List ℕ} {n : ℕ} → Fronts w out r e → r ≡ Some n → n ≡ length w
fronts-length {w} {out} {n = n} p q = go (room w out) (sym q ∙ p.says)
  where
    go : (t : Bool) → Some n ≡ if t (Some (length w)) None → n ≡ length w
    go true e = cc
    go false e = absurd (let z : ◌≡◌ {A = ℕ} 0 1 = cc in omega arith)
