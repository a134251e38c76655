-- Reading a written file is judging its lines.
use Rattle.std.specs.Prelude.{◌≡◌, refl, List, [], ◌∷◌, ◌++◌, ℕ, ◌+◌, ◌<◌, ◌≤◌, length}
use Rattle.std.proofs.Common.{arith, le-leb}
use Rattle.tokens.specs.declared.Line.{Line}
use Rattle.behaviour.specs.declared.Behaviour.{Behaviour}
use Rattle.behaviour.specs.Limits.{most_states, most_lines, most_bytes}
use Rattle.aut.specs.Adding.{bare, add}
use Rattle.aut.specs.File.{lines, file}
use Rattle.aut.specs.Contents.{judged}
use Rattle.text.specs.Spelling.{head_text}
use Rattle.writer.specs.Text.{lines_text}
use Rattle.roundtrip.specs.Lines.{Allowed, line-back, head-back}

pub record Writable (l : Line) : Type 0 where
  pub from_low : l.from < 100000
  pub to_low : l.to < 100000
  pub allowed : Allowed l.label

pub data Each : List Line → Type 0 where
  none : Each []
  more : {l : Line} {ls : List Line} → Writable l → Each ls → Each (l ∷ ls)

lines-read : (p : ℕ) (b : Behaviour) (ls : List Line) → Each ls → lines (length ls) p b (lines_text ls) ≡ judged p b ls
unfolding lines lines_text judged
lines-read p b [] none = refl
lines-read p b (l ∷ ls) (more w e) =
    rw (line-back l (lines_text ls) w.from_low w.to_low w.allowed, lines-read (p + 1) (add b l) ls e)

pub file-read : (s : ℕ) (ls : List Line) → 1 ≤ s → s ≤ most_states → length ls ≤ most_lines → Each ls
    → length (head_text (length ls) s ++ lines_text ls) ≤ most_bytes → file (head_text (length ls) s ++ lines_text ls) ≡ judged 2 (bare s) ls
unfolding file
file-read s ls a b t e n =
    rw (le-leb _ most_bytes n, head-back (length ls) s (lines_text ls) (omega arith) (omega arith), le-leb 1 s a, le-leb s most_states b, le-leb (length ls) most_lines t, lines-read 2 (bare s) ls e)
