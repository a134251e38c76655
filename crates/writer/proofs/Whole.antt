-- The whole text: the first line and the lines, by the numbers that the code has.
use Rattle.std.proofs.Common.{◌≡◌, sym, refl, true, List, ◌++◌, ℕ, ◌≤◌, arith}
use Rattle.behaviour.specs.declared.Message.{Message}
use Rattle.behaviour.specs.declared.Behaviour.{Behaviour}
use Rattle.behaviour.specs.Limits.{most_lines}
use Rattle.behaviour.specs.Sound.{messages, sound}
use Rattle.behaviour.specs.SoundLaws.{parts}
use Rattle.text.specs.Putting.{Short}
use Rattle.text.specs.Spelling.{head_text}
use Rattle.writer.specs.Text.{lines_from, lines_text, line_count, text}
use Rattle.writer.specs.Lengths.{text-few}

pub text-short : (b : Behaviour) → line_count b ≤ most_lines → Short 0 (text b)
text-short b h = record { ends = omega (arith, text-few b h) }

pub whole : (b : Behaviour) {t s : ℕ} {l : List Message} → t ≡ line_count b → s ≡ b.states → l ≡ messages b
    → head_text t s ++ lines_text (lines_from 0 b.marks b.signs l) ≡ text b
unfolding text
whole b x y z = rw (x, y, z) refl

pub sound-few : (b : Behaviour) → true ≡ sound b → line_count b ≤ most_lines
sound-few b e = (parts b (sym e)).most-lines
