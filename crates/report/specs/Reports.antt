-- What `report` answers and leaves in the lent buffer.
use Rattle.std.specs.Prelude.{◌≡◌, List, ◌++◌, ℕ, length, drop, Ok, Err}
use Rattle.names.specs.If.{if}
use Rattle.text.specs.Fronts.{room}
use Rattle.writer.specs.Written.{too_long}
use Rattle.report.specs.Said.{Reported}
use Rattle.report.specs.Output.{Prints}

-- the text's length, or 12 "text […] longer than the lent buffer"
abbrev pub answer : List ℕ → List ℕ → Reported
answer text out = if (room text out) (Ok (length text)) (Err too_long)

-- "No refusal writes to a lent buffer"; else the text stands first, and the bytes after it stay
abbrev pub left : List ℕ → List ℕ → List ℕ
left text out = if (room text out) (text ++ drop (length text) out) out

-- the text is told: the answer is r, and the buffer is then e
pub record Tells (text out : List ℕ) (r : Reported) (e : List ℕ) : Type 0 where
  pub says : r ≡ answer text out
  pub leaves : e ≡ left text out

-- what the files f and g give is told
pub record Reports (f g out : List ℕ) (r : Reported) (e : List ℕ) : Type 0 where
  pub text : List ℕ
  pub prints : Prints f g text
  pub told : Tells text out r e
