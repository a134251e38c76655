-- What each call answers (r) and leaves in the lent buffer (left), for all slices and numbers that it can be given.
use Rattle.std.specs.Prelude.{◌≡◌, List, ℕ, leb, length, Ok, Err}
use Rattle.names.specs.If.{if}
use Rattle.aut.specs.File.{Read, file}
use Rattle.writer.specs.Written.{too_long, written}
use Rattle.writer.specs.Written as writer
use Rattle.verdict.specs.Said.{Verdict}
use Rattle.verdict.specs.Answer.{Says}
use Rattle.session.specs.Said.{Answer}
use Rattle.session.specs.Answers.{messaged, rolled_back}
use Rattle.session.specs.Opening as session
use Rattle.report.specs.Said.{Reported}
use Rattle.report.specs.Reports.{Reports}
use Rattle.packing.specs.Value.{value_bytes, unpacked}
use Rattle.packing.specs.Value as packing
use Rattle.host.specs.Numbers.{refused_number, written_number, verdict_number, reported_number, session_of, session_number}

-- 1 to 11 of the file, then 12; or the length of a value
abbrev pub read_number : Read → List ℕ → ℕ
read_number (Ok b) out = if (leb value_bytes (length out)) value_bytes (refused_number too_long)
read_number (Err f) out = refused_number f

-- "No refusal writes to a lent buffer"; else the value's bytes stand first, and the bytes after them stay
abbrev pub read_left : Read → List ℕ → List ℕ
read_left (Ok b) out = packing.left b out
read_left (Err f) out = out

pub record Reads (text out : List ℕ) (r : ℕ) (left : List ℕ) : Type 0 where
  pub says : r ≡ read_number (file text) out
  pub leaves : left ≡ read_left (file text) out

pub record Writes (value out : List ℕ) (r : ℕ) (left : List ℕ) : Type 0 where
  pub says : r ≡ written_number (written (unpacked value) out)
  pub leaves : left ≡ writer.left (unpacked value) out

pub record Judges (c s run : List ℕ) (r : ℕ) (left : List ℕ) : Type 0 where
  pub verdict : Verdict
  pub says : Says (unpacked c) (unpacked s) run verdict left
  pub number : r ≡ verdict_number verdict

pub record Opens (c s : List ℕ) (r : ℕ) : Type 0 where
  pub answer : Answer
  pub opens : session.Opens (unpacked c) (unpacked s) answer
  pub number : r ≡ session_number answer

abbrev pub Messages : List ℕ → List ℕ → ℕ → List ℕ → ℕ → Type 0
Messages c s n name r = r ≡ session_number (messaged (unpacked c) (unpacked s) (session_of n) name)

abbrev pub RollsBack : List ℕ → List ℕ → ℕ → ℕ → Type 0
RollsBack c s n r = r ≡ session_number (rolled_back (unpacked c) (unpacked s) (session_of n))

-- of the two files themselves, not of their values
pub record Texts (f g out : List ℕ) (r : ℕ) (left : List ℕ) : Type 0 where
  pub reported : Reported
  pub reports : Reports f g out reported left
  pub number : r ≡ reported_number reported
