-- A behaviour value as bytes: states, count, a mark and a sign for each of the ten states, then 96 messages, unused ones zero.
use Rattle.std.specs.Prelude.{List, [], ◌∷◌, ◌++◌, ℕ, zero, suc, ◌+◌, ◌*◌, ◌/◌, ◌%◌, leb, eqb, length, get_or, take, drop}
use Rattle.names.specs.If.{if}
use Rattle.names.specs.Names.{name_bytes}
use Rattle.behaviour.specs.Limits.{most_states, most_lines}
use Rattle.behaviour.specs.declared.Message.{Message}
use Rattle.behaviour.specs.declared.Behaviour.{Behaviour}
use Rattle.aut.specs.Adding.{bare}

-- a message is from, to and a name of eight bytes
abbrev pub message_bytes : ℕ
message_bytes = 2 + name_bytes

abbrev pub value_bytes : ℕ
value_bytes = 2 + 2 * most_states + most_lines * message_bytes

-- n as k bytes, the first one first
unfoldable pub bytes_of : ℕ → ℕ → List ℕ
bytes_of zero n = []
bytes_of (suc k) n = bytes_of k (n / 256) ++ (n % 256 ∷ [])

-- the number of the next k bytes, after a beginning v
unfoldable pub number_of : ℕ → ℕ → List ℕ → ℕ
number_of zero v s = v
number_of (suc k) v [] = v
number_of (suc k) v (c ∷ s) = number_of k (v * 256 + c) s

abbrev pub packed_message : Message → List ℕ
packed_message m = m.from ∷ m.to ∷ bytes_of name_bytes m.name

abbrev pub unpacked_message : List ℕ → Message
unpacked_message s = record { name = number_of name_bytes 0 (drop 2 s); from = get_or s 0 0; to = get_or s 1 0 }

unfoldable pub packed_messages : List Message → List ℕ
packed_messages [] = []
packed_messages (m ∷ l) = packed_message m ++ packed_messages l

unfoldable pub unpacked_messages : ℕ → List ℕ → List Message
unpacked_messages zero s = []
unpacked_messages (suc k) s = unpacked_message s ∷ unpacked_messages k (drop message_bytes s)

-- the bytes of a value
unfoldable pub packed : Behaviour → List ℕ
packed b = b.states ∷ b.count ∷ (b.marks ++ (b.signs ++ packed_messages b.messages))

-- the bytes are as many as a value's: a, else b
module _ {A : Type 0} where
  abbrev pub whole : List ℕ → A → A → A
  whole s a b = if (eqb (length s) value_bytes) a b

-- the value of some bytes; bytes of another length than a value's code none, and stand for the value of zero states
unfoldable pub unpacked : List ℕ → Behaviour
unpacked s = whole s (record {
  states = get_or s 0 0;
  count = get_or s 1 0;
  marks = take most_states (drop 2 s);
  signs = take most_states (drop (2 + most_states) s);
  messages = unpacked_messages most_lines (drop (2 + 2 * most_states) s);
}) (bare 0)

-- a lent buffer after the value was put at its front, if there is room; the bytes after it stay
unfoldable pub left : Behaviour → List ℕ → List ℕ
left b out = if (leb value_bytes (length out)) (packed b ++ drop value_bytes out) out
