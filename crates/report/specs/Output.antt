-- What the verdict program prints for a client file f and a server file g: "Verdicts" of 01, "each line ended by LF".
use Rattle.std.specs.Prelude.{◌≡◌, Ok, Err, IsOk, List, [], ◌∷◌, ◌++◌, ℕ, length}
use Rattle.behaviour.specs.declared.Behaviour.{Behaviour}
use Rattle.behaviour.specs.declared.Refusal.{Refusal}
use Rattle.behaviour.specs.Refusals.{row_number}
use Rattle.aut.specs.File.{file}
use Rattle.stands.specs.Judgement.{Judgement, compliant, stuck, Judged}
use Rattle.stands.specs.Cases.{bytes}
use Rattle.text.specs.Spelling.{decimal}
use Rattle.report.specs.RunText.{run_text}

-- a word and numbers "with one space between them", ended by LF
abbrev pub numbers_text : List ℕ → List ℕ
numbers_text [] = 10 ∷ []
numbers_text (n ∷ l) = (32 ∷ decimal n) ++ numbers_text l

abbrev pub words_line : List ℕ → List ℕ → List ℕ
words_line w l = w ++ numbers_text l

-- a word and two numbers, so
abbrev pub word_line : List ℕ → ℕ → ℕ → List ℕ
word_line w m n = w ++ (32 ∷ decimal m ++ (32 ∷ decimal n ++ (10 ∷ [])))

-- "`compliant N`"
abbrev pub compliant_text : ℕ → List ℕ
compliant_text n = bytes "compliant" ++ (32 ∷ decimal n ++ (10 ∷ []))

-- "`compliant N`, or `stuck CAUSE LENGTH` and the run"
unfoldable pub judged_text : Behaviour → Behaviour → Judgement → List ℕ
judged_text c s (compliant n) = compliant_text n
judged_text c s (stuck e r) = word_line (bytes "stuck") e (length r) ++ run_text c s r

-- "`client` or `server`, the refusal number and the place"
abbrev pub refused_text : List ℕ → Refusal → List ℕ
refused_text w f = word_line w (row_number f.reason) f.place

-- reading gave no refusal
abbrev pub Taken : List ℕ → Type 0
Taken f = IsOk (file f)

-- "the client is read first and the server not at all if the client is refused"
pub data Prints (f g text : List ℕ) : Type 0 where
  client-refused : (r : Refusal) → file f ≡ Err r → text ≡ refused_text (bytes "client") r → Prints f g text
  server-refused : Taken f → (r : Refusal) → file g ≡ Err r → text ≡ refused_text (bytes "server") r → Prints f g text
  both-judged : (c s : Behaviour) → file f ≡ Ok c → file g ≡ Ok s → (j : Judgement) → Judged c s j → text ≡ judged_text c s j → Prints f g text
