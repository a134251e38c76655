-- The lines of a run by following the client alone, as the code does: its state x, and the state home that it goes back to. Names are the
-- different names of both files in byte order.
use Rattle.std.specs.Prelude.{List, [], ◌∷◌, ◌++◌, ℕ, ◌+◌, eqb, length, get_or}
use Rattle.names.specs.If.{if}
use Rattle.behaviour.specs.declared.Behaviour.{Behaviour}
use Rattle.stands.specs.Stands.{target, marked, rollback_byte}
use Rattle.text.specs.Spelling.{label_text, message_label, head_text}
use Rattle.report.specs.declared.Client.{Client}
use Rattle.report.specs.RunText.{rbk, step_line}
use Rattle.report.specs.Output.{word_line}

-- the label of the step b, where the client's state has the sign g and n is the name of rank b
abbrev pub step_label : ℕ → ℕ → ℕ → List ℕ
step_label b g n = if (eqb b rollback_byte) rbk (label_text (message_label g n))

-- the client's state after the step b
abbrev pub next_state : Behaviour → ℕ → ℕ → ℕ → ℕ → ℕ
next_state c b n x home = if (eqb b rollback_byte) home (target c x n)

-- the state it then goes back to: a marked state that it left; nothing is gone back to twice
abbrev pub next_home : Behaviour → ℕ → ℕ → ℕ → ℕ
next_home c b x home = if (eqb b rollback_byte) home (if (marked c x) x home)

-- the client that is followed, after the step b
abbrev pub stepped : Client → ℕ → Client
stepped f b = record f {
  state = next_state f.value.now b (get_or f.names.now b 0) f.state f.home;
  home = next_home f.value.now b f.state f.home;
}

-- the line of the step b at the client's state x, k steps being before it
abbrev pub seen_line : Behaviour → List ℕ → ℕ → ℕ → ℕ → List ℕ
seen_line c names k x b = step_line k (step_label b (get_or c.signs x 0) (get_or names b 0))

-- the lines of the steps r, k steps being before them
unfoldable pub followed : Behaviour → List ℕ → ℕ → ℕ → ℕ → List ℕ → List ℕ
followed c names k x home [] = []
followed c names k x home (b ∷ r) = seen_line c names k x b ++ followed c names (k + 1) (next_state c b (get_or names b 0) x home) (next_home c b x home) r

-- "`stuck CAUSE LENGTH` and the run", so
unfoldable pub stuck_text : Behaviour → List ℕ → ℕ → List ℕ → List ℕ
stuck_text c names e run = word_line (115 ∷ 116 ∷ 117 ∷ 99 ∷ 107 ∷ []) e (length run) ++ (head_text (length run) (length run + 1) ++ followed c names 0 0 0 run)
