-- How long a text is: that of a sound value is within the limit of a file.
use Rattle.std.specs.Prelude.{◌≡◌, refl, List, [], ◌∷◌, Bool, true, false, ℕ, zero, suc, ◌+◌, ◌*◌, ◌≤◌, eqb, length, take}
use Rattle.std.proofs.Common.{arith, length-append}
use Rattle.names.specs.If.{if}
use Rattle.tokens.specs.declared.Label.TheVariants.{Mark}
use Rattle.tokens.specs.declared.Line.{Line}
use Rattle.behaviour.specs.declared.Message.{Message}
use Rattle.behaviour.specs.declared.Behaviour.{Behaviour}
use Rattle.behaviour.specs.Limits.{most_lines, most_bytes}
use Rattle.behaviour.specs.Sound.{messages, total}
use Rattle.text.specs.Lengths.{line-length, head-length}
use Rattle.writer.specs.Text.{message_line, mark_line, message_lines, after_state, lines_from, lines_of, lines_text, line_count, text}

lines-length : (ls : List Line) → length (lines_text ls) ≤ length ls * 26
unfolding lines_text
lines-length [] = omega arith
lines-length (l ∷ ls) = rw length-append (omega (arith, line-length l, lines-length ls))

-- a state's messages and those after them are all
pub parts-length : (k g : ℕ) (l : List Message) → length (message_lines k g l) + length (after_state k l) ≡ length l
unfolding message_lines after_state
parts-length k g [] = refl
parts-length k g (m ∷ l) = go (eqb m.from k) (parts-length k g l)
  where
    go : (t : Bool) → length (message_lines k g l) + length (after_state k l) ≡ length l
        → length (if t (message_line g m ∷ message_lines k g l) []) + length (if t (after_state k l) (m ∷ l)) ≡ suc (length l)
    go true h = omega arith
    go false h = omega arith

-- a state's mark counts as its line
mark-few : (k m : ℕ) (ms : List ℕ) → length (mark_line k m) + total ms ≤ total (m ∷ ms)
unfolding total
mark-few k m ms = go (eqb m 1)
  where
    go : (t : Bool) → length {A = Line} (if t (record { from = k; label = Mark; to = k } ∷ []) []) + total ms ≤ if t (suc (total ms)) (total ms)
    go true = omega arith
    go false = omega arith

-- no more lines than marks and messages
pub lines-few : (ms gs : List ℕ) (k : ℕ) (l : List Message) → length (lines_from k ms gs l) ≤ total ms + length l
unfolding lines_from
lines-few [] gs k l = omega arith
lines-few (m ∷ ms) [] k l = omega arith
lines-few (m ∷ ms) (g ∷ gs) k l =
    let h = lines-few ms gs (k + 1) (after_state k l) in
    let p = parts-length k g l in
    let q = mark-few k m ms in
    simp length-append (omega arith)

used-few : (n : ℕ) (l : List Message) → length (take n l) ≤ n
used-few zero l = omega arith
used-few (suc n) [] = omega arith
used-few (suc n) (m ∷ l) = omega (arith, used-few n l)

-- a text of at most so many lines
pub text-few : (b : Behaviour) → line_count b ≤ most_lines → length (text b) ≤ most_bytes
unfolding text
text-few b h =
    let u = used-few b.count b.messages in
    let e = lines-few b.marks b.signs 0 (messages b) in
    rw length-append (omega (arith, head-length (line_count b) b.states, lines-length (lines_of b)))
