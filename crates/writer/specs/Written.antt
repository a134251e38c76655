-- What `write` answers and leaves in the lent buffer.
use Rattle.std.specs.Prelude.{◌≡◌, List, ◌++◌, ◌&&◌, ℕ, length, drop, Ok, Err}
use Rattle.std.proofs.Common.{sym, ◌∙◌}
use Rattle.names.specs.If.{if}
use Rattle.text.specs.Fronts.{room}
use Rattle.behaviour.specs.declared.Reason.TheVariants as reason
use Rattle.behaviour.specs.declared.Behaviour.{Behaviour}
use Rattle.behaviour.specs.declared.Refusal.{Refusal}
use Rattle.behaviour.specs.Sound.{sound}
use Rattle.behaviour.specs.Refusals.{refusal}
use Rattle.writer.specs.Said.{Written}
use Rattle.writer.specs.Text.{text}

-- 12 "text or run longer than the lent buffer", place 0
abbrev pub too_long : Refusal
too_long = refusal reason.LongerThanLent 0

-- 13 "a behaviour value that no accepted file gives", place 0
abbrev pub unsound : Refusal
unsound = refusal reason.NoFileGivesIt 0

-- "Calls on values: 13, .. then the rest": the text's length, or the refusal
abbrev pub written : Behaviour → List ℕ → Written
written b out = if (sound b) (if (room (text b) out) (Ok (length (text b))) (Err too_long)) (Err unsound)

-- "No refusal writes to a lent buffer"; else the text stands first, and the bytes after it stay
abbrev pub left : Behaviour → List ℕ → List ℕ
left b out = if (sound b && room (text b) out) (text b ++ drop (length (text b)) out) out

-- what `write` states of its answer r and of the bytes o that it leaves
abbrev pub Writes : Behaviour → List ℕ → Written → List ℕ → Type 0
Writes b out r o = (r ≡ written b out) × (o ≡ left b out)

-- any two results that it allows for one input are equal
pub one_answer : (b : Behaviour) (out : List ℕ) (r s : Written) (o p : List ℕ) → Writes b out r o → Writes b out s p → (r ≡ s) × (o ≡ p)
one_answer b out r s o p x y = (x.0 ∙ sym y.0, x.1 ∙ sym y.1)
