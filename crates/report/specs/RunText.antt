-- "the run as an AUT file spaced as the writer does", for a pair of a client c and a server s.
use Rattle.std.specs.Prelude.{List, [], ◌∷◌, ◌++◌, ℕ, ◌+◌, eqb, length, get_or, Option, None, Some}
use Rattle.names.specs.If.{if}
use Rattle.behaviour.specs.declared.Behaviour.{Behaviour}
use Rattle.stands.specs.declared.Stand.{Stand}
use Rattle.stands.specs.Stands.{start, alphabet, nth, rollback_byte, step}
use Rattle.text.specs.Spelling.{label_text, message_label, opening, closing, head_text}

-- the fixed string `rbk`
abbrev pub rbk : List ℕ
rbk = 114 ∷ 98 ∷ 107 ∷ []

-- "labels as the client sees them (`?name` or `!name`)": by the sign of the client's state before the step
abbrev pub named : Behaviour → Stand → Option ℕ → List ℕ
named c p None = []
named c p (Some n) = label_text (message_label (get_or c.signs p.client.0 0) n)

-- "a rollback as `rbk`"
abbrev pub seen : Behaviour → Behaviour → Stand → ℕ → List ℕ
seen c s p x = if (eqb x rollback_byte) rbk (named c p (nth (alphabet c s) x))

-- "a line from state k−1 to k", here from k to k + 1, with the label w
abbrev pub step_line : ℕ → List ℕ → List ℕ
step_line k w = opening k ++ (w ++ closing (k + 1))

-- the lines of the steps r from the stand o on, k steps being before them
unfoldable pub step_lines : Behaviour → Behaviour → ℕ → Option Stand → List ℕ → List ℕ
step_lines c s k o [] = []
step_lines c s k None (x ∷ r) = []
step_lines c s k (Some p) (x ∷ r) = step_line k (seen c s p x) ++ step_lines c s (k + 1) (step c s p x) r

-- "`des (0,LENGTH,LENGTH+1)`, then step k as a line"
unfoldable pub run_text : Behaviour → Behaviour → List ℕ → List ℕ
run_text c s r = head_text (length r) (length r + 1) ++ step_lines c s 0 (Some start) r
