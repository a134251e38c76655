-- Putting bytes at a place of a buffer. A place at or past the buffer's end takes nothing and is counted all the same, so that
-- putting a text into a buffer of any size gives its length.
use Rattle.std.specs.Prelude.{◌≡◌, List, ℕ, ◌+◌, ◌≤◌, length}
use Rattle.std.proofs.Common.{sym, ◌∙◌}
use Rattle.std.proofs.lemmas.List.Edits.{sets}
use Rattle.text.specs.declared.Text.{Text}

-- the bytes w end below 2^32
pub record Short (at : ℕ) (w : List ℕ) : Type 0 where
  pub ends : at + length w ≤ 4294967295

-- w put into the buffer b at the place at: the place after it is r, and the buffer is then e
pub record Put (b : List ℕ) (at : ℕ) (w : List ℕ) (r : ℕ) (e : List ℕ) : Type 0 where
  pub place : r ≡ at + length w
  pub bytes : e ≡ sets b at w

-- any two results that a piece's statement allows for one input are equal
pub put-once : {b : List ℕ} {at : ℕ} {w : List ℕ} {r s : ℕ} {e f : List ℕ} → Put b at w r e → Put b at w s f → (r ≡ s) × (e ≡ f)
put-once p q = (p.place ∙ sym q.place, p.bytes ∙ sym q.bytes)

-- the text o is then n: w is put, if it ends below 2^32, and the buffer is the same
pub record Puts (o : Text) (w : List ℕ) (n : Text) : Type 0 where
  pub put : Short o.at w → Put o.buf.now o.at w n.at n.buf.now
  pub same : n.buf.ghost_name ≡ o.buf.ghost_name

pub puts-once : {o n m : Text} {w : List ℕ} → Short o.at w → Puts o w n → Puts o w m → (n.at ≡ m.at) × (n.buf.now ≡ m.buf.now)
puts-once s p q = put-once (p.put s) (q.put s)
