-- The text of a behaviour: "lines by state, the mark first, then messages by name. T counts mark lines too."
use Rattle.std.specs.Prelude.{List, [], ◌∷◌, ◌++◌, ℕ, ◌+◌, eqb}
use Rattle.names.specs.If.{if}
use Rattle.tokens.specs.declared.Label.TheVariants.{Mark}
use Rattle.tokens.specs.declared.Line.{Line}
use Rattle.behaviour.specs.declared.Message.{Message}
use Rattle.behaviour.specs.declared.Behaviour.{Behaviour}
use Rattle.behaviour.specs.Sound.{messages, total}
use Rattle.text.specs.Spelling.{message_label, line_text, head_text}

-- the line of a message at a state of the sign g
abbrev pub message_line : ℕ → Message → Line
message_line g m = record { from = m.from; label = message_label g m.name; to = m.to }

-- the mark's line of the state k, if it has one
abbrev pub mark_line : ℕ → ℕ → List Line
mark_line k m = if (eqb m 1) (record { from = k; label = Mark; to = k } ∷ []) []

-- messages are sorted by state and then by name: those of the state k that stand first, with its sign g; and what stands after them
unfoldable pub message_lines : ℕ → ℕ → List Message → List Line
message_lines k g [] = []
message_lines k g (m ∷ l) = if (eqb m.from k) (message_line g m ∷ message_lines k g l) []

unfoldable pub after_state : ℕ → List Message → List Message
after_state k [] = []
after_state k (m ∷ l) = if (eqb m.from k) (after_state k l) (m ∷ l)

-- "lines by state, the mark first, then messages by name", from the state k on
unfoldable pub lines_from : ℕ → List ℕ → List ℕ → List Message → List Line
lines_from k [] gs l = []
lines_from k (m ∷ ms) [] l = []
lines_from k (m ∷ ms) (g ∷ gs) l = mark_line k m ++ (message_lines k g l ++ lines_from (k + 1) ms gs (after_state k l))

abbrev pub lines_of : Behaviour → List Line
lines_of b = lines_from 0 b.marks b.signs (messages b)

unfoldable pub lines_text : List Line → List ℕ
lines_text [] = []
lines_text (l ∷ ls) = line_text l ++ lines_text ls

-- "T counts mark lines too"
abbrev pub line_count : Behaviour → ℕ
line_count b = b.count + total b.marks

-- "A line `des (0,T,S)`, then T lines `(F,"L",G)`, each ended by LF, nothing after"
unfoldable pub text : Behaviour → List ℕ
text b = head_text (line_count b) b.states ++ lines_text (lines_of b)
