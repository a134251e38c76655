-- What a line adds to a behaviour value, and which refusal it meets.
use Rattle.std.specs.Prelude.{Result, Ok, Err, ⊤, List, [], ◌∷◌, ◌++◌, Bool, true, false, ◌&&◌, ℕ, ◌+◌, ltb, eqb, get_or, set, drop, replicate}
use Rattle.names.specs.If.{if}
use Rattle.tokens.specs.declared.Label.{Label}
use Rattle.tokens.specs.declared.Label.TheVariants.{Mark, Take, Send, Other}
use Rattle.tokens.specs.declared.Line.{Line}
use Rattle.behaviour.specs.declared.Message.{Message}
use Rattle.behaviour.specs.declared.Behaviour.{Behaviour}
use Rattle.behaviour.specs.declared.Reason.{Reason}
use Rattle.behaviour.specs.declared.Reason.TheVariants as reason
use Rattle.behaviour.specs.Limits.{most_states, most_lines}
use Rattle.behaviour.specs.Pick.{is, unused}
use Rattle.behaviour.specs.Sound.{messages, before}

-- "messages sorted by state and then by name": of m and the first, the one that comes before stands first, and the other goes on
unfoldable pub insert : Message → List Message → List Message
insert m [] = m ∷ []
insert m (x ∷ l) = if (before m x) (m ∷ insert x l) (x ∷ insert m l)

-- a message n at the state f
unfoldable pub has : ℕ → ℕ → List Message → Bool
has f n [] = false
has f n (x ∷ l) = if (is f n x) true (has f n l)

-- "Unused places are zero": a value of s states with nothing in it
abbrev pub bare : ℕ → Behaviour
bare s = record { states = s; count = 0; marks = replicate most_states 0; signs = replicate most_states 0; messages = replicate most_lines unused }

-- `ckp`: "the state is marked"
abbrev pub add_mark : Behaviour → ℕ → Behaviour
add_mark b f = record { states = b.states; count = b.count; marks = set b.marks f 1; signs = b.signs; messages = b.messages }

-- a message in its place among those used, and its sign at its state
abbrev pub add_message : Behaviour → ℕ → Message → Behaviour
add_message b g m = record {
  states = b.states;
  count = b.count + 1;
  marks = b.marks;
  signs = set b.signs m.from g;
  messages = insert m (messages b) ++ drop (b.count + 1) b.messages;
}

-- `?name` "takes a message" (sign 1), `!name` "sends one" (sign 2)
abbrev pub add_label : Behaviour → ℕ → ℕ → Label → Behaviour
add_label b f g Mark = add_mark b f
add_label b f g (Take n) = add_message b 1 (record { name = n; from = f; to = g })
add_label b f g (Send n) = add_message b 2 (record { name = n; from = f; to = g })
add_label b f g Other = b

unfoldable pub add : Behaviour → Line → Behaviour
add b l = add_label b l.from l.to l.label

-- "taking and sending at one state", "same name again at that state", or neither
abbrev pub check_message : Behaviour → ℕ → ℕ → ℕ → Result ⊤ Reason
check_message b f other n = if (eqb (get_or b.signs f 0) other) (Err reason.TakingAndSending) (if (has f n (messages b)) (Err reason.SameNameAgain) (Ok tt))

-- "label not one of the three", "mark from one state to another, or a second mark"
abbrev pub check_label : Behaviour → ℕ → ℕ → Label → Result ⊤ Reason
check_label b f g Other = Err reason.OtherLabel
check_label b f g Mark = if (eqb f g) (if (eqb (get_or b.marks f 0) 0) (Ok tt) (Err reason.MisplacedMark)) (Err reason.MisplacedMark)
check_label b f g (Take n) = check_message b f 2 n
check_label b f g (Send n) = check_message b f 1 n

-- "on each line 5 to 10 in order", from "state number not below S" on
unfoldable pub check : Behaviour → Line → Result ⊤ Reason
check b l = if (ltb l.from b.states && ltb l.to b.states) (check_label b l.from l.to l.label) (Err reason.StateTooHigh)
