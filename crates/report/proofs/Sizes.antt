-- How long the outputs are.
use mathlib.Core.Bool.{Bool, true, false}
use mathlib.Core.List.{List, [], ◌∷◌, ◌++◌}
use Prim.Native.Nat.{ℕ, ◌+◌, ◌*◌, ◌≤◌, ◌<◌}
use native.Mathlib.Omega.{arith}
use lib.Dec.{eqb}
use lib.ListN.{length, get_or, length-append}
use Rattle.names.specs.If.{if}
use Rattle.behaviour.specs.declared.Behaviour.{Behaviour}
use Rattle.stands.specs.Cases.{bytes}
use Rattle.text.specs.Spelling.{decimal, label_text, message_label, head_text}
use Rattle.text.specs.Lengths.{decimal-length, label-length, labelled-length, head-length}
use Rattle.text.specs.Putting.{Short}
use Rattle.report.specs.RunText.{rbk}
use Rattle.report.specs.Output.{numbers_text, words_line, word_line, compliant_text}
use Rattle.report.specs.Followed.{step_label, next_state, next_home, seen_line, followed, stuck_text}

numbers-length : (l : List ℕ) → length (numbers_text l) ≤ length l * 6 + 1
numbers-length [] = omega arith
numbers-length (n ∷ l) = let f = decimal-length 4 n in rw (length-append (32 ∷ decimal n)) (omega (arith, numbers-length l))

words-length : (w l : List ℕ) → length (words_line w l) ≤ length w + length l * 6 + 1
words-length w l = omega (arith, length-append w (numbers_text l), numbers-length l)

pub word-length : (w : List ℕ) (m n : ℕ) → length (word_line w m n) ≤ length w + 13
word-length w m n = omega (arith, words-length w (m ∷ n ∷ []))

pub compliant-length : (n : ℕ) → length (compliant_text n) ≤ 20
unfolding bytes
compliant-length n = omega (arith, words-length (bytes "compliant") (n ∷ []))

step-length : (b g n : ℕ) → length (step_label b g n) ≤ 9
step-length b g n = go (eqb b 255)
  where
    go : (t : Bool) → length (if t rbk (label_text (message_label g n))) ≤ 9
    go true = omega arith
    go false = label-length (message_label g n)

steps-length : (c : Behaviour) (names : List ℕ) (k x home : ℕ) (r : List ℕ) → length (followed c names k x home r) ≤ length r * 26
unfolding followed
steps-length c names k x home [] = omega arith
steps-length c names k x home (b ∷ r) =
    rw (length-append (seen_line c names k x b))
    (omega (
      arith,
      labelled-length k (step_label b (get_or c.signs x 0) (get_or names b 0)) (k + 1),
      step-length b (get_or c.signs x 0) (get_or names b 0),
      steps-length c names (k + 1) (next_state c b (get_or names b 0) x home) (next_home c b x home) r,
    ))

pub stuck-length : (c : Behaviour) (names : List ℕ) (e : ℕ) (r : List ℕ) → length (stuck_text c names e r) ≤ length r * 26 + 40
unfolding stuck_text
stuck-length c names e r =
    let w = word_line (115 ∷ 116 ∷ 117 ∷ 99 ∷ 107 ∷ []) e (length r) in
    let h = head_text (length r) (length r + 1) in
    let f = followed c names 0 0 0 r in
    omega (arith, length-append w (h ++ f), length-append h f, word-length (115 ∷ 116 ∷ 117 ∷ 99 ∷ 107 ∷ []) e (length r), head-length (length r) (length r + 1), steps-length c names 0 0 0 r)

-- all of them can be put
pub words-short : (w l : List ℕ) → length w ≤ 100 → length l ≤ 100 → Short 0 (words_line w l)
words-short w l h k = record { ends = omega (arith, words-length w l) }

pub stuck-short : (c : Behaviour) (names : List ℕ) (e : ℕ) (r : List ℕ) → length r < 65535 → Short 0 (stuck_text c names e r)
stuck-short c names e r h = record { ends = omega (arith, stuck-length c names e r) }
