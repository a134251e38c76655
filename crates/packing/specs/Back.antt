-- A value is what its bytes unpack to, and bytes are what their value packs to: each has one other.
use Rattle.std.specs.Prelude.{◌≡◌, refl, List, [], ◌∷◌, ◌++◌, ℕ, zero, suc, ◌+◌, ◌*◌, ◌/◌, ◌%◌, ◌^◌, ◌<◌, ◌≤◌, Bool, true, false, eqb, length, take, drop}
use Rattle.std.proofs.Common.{sym, ap, ap₂, ◌∙◌, append_assoc, append-nil, arith, eq-eqb, eqb-true, length-append, length-drop, take-append-drop, drop-drop, length-take-le}
use Rattle.std.proofs.Math.Seq.{take_at, drop_at}
use Rattle.names.specs.If.{if}
use Rattle.names.specs.Names.{name_bytes}
use Rattle.behaviour.specs.Limits.{most_states, most_lines}
use Rattle.behaviour.specs.declared.Message.{Message}
use Rattle.behaviour.specs.declared.Behaviour.{Behaviour}
use Rattle.behaviour.specs.SoundLaws.{Sized}
use Rattle.aut.specs.Adding.{bare}
use Rattle.packing.specs.Value.{message_bytes, value_bytes, bytes_of, number_of, packed_message, packed_messages, unpacked_message, unpacked_messages, packed, unpacked}

-- every name is a number of eight bytes, as those of the code are
unfoldable pub Names : List Message → Type 0
Names [] = Unit {0}
Names (m ∷ l) = (m.name < 2 ^ 64) × Names l

-- every number is a byte, as those of the code are
unfoldable pub Bytes : List ℕ → Type 0
Bytes [] = Unit {0}
Bytes (c ∷ s) = (c < 256) × Bytes s

-- n is below 256 to the power k
unfoldable Small : ℕ → ℕ → Type 0
Small zero n = n ≡ 0
Small (suc k) n = Small k (n / 256)

small : (n : ℕ) → n < 2 ^ 64 → Small name_bytes n
unfolding Small
small n h = omega arith

-- a number's bytes are its number
number-last : (j n : ℕ) (r : List ℕ) → number_of (suc j) (n / 256) (n % 256 ∷ r) ≡ number_of j n r
unfolding number_of
number-last j n r = let f : n / 256 * 256 + n % 256 ≡ n = omega arith in rw f

number-bytes : (k j n : ℕ) (r : List ℕ) → Small k n → number_of (k + j) 0 (bytes_of k n ++ r) ≡ number_of j n r
unfolding Small bytes_of
number-bytes zero j n r h = let e : 0 + j ≡ j = omega arith in rw (e, h)
number-bytes (suc k) j n r h =
    let e : suc k + j ≡ k + suc j = omega arith in
    rw (e, append_assoc (bytes_of k (n / 256)) (n % 256 ∷ []) r) (number-bytes k (suc j) (n / 256) (n % 256 ∷ r) h ∙ number-last j n r)

-- bytes are the bytes of their number
bytes-last : (j v c : ℕ) → c < 256 → bytes_of (suc j) (v * 256 + c) ≡ bytes_of j v ++ (c ∷ [])
unfolding bytes_of
bytes-last j v c h =
    let e : (v * 256 + c) % 256 ≡ c = omega arith in
    let f : (v * 256 + c) / 256 ≡ v = omega arith in
    rw (e, f)

bytes-number : (k j v : ℕ) (s : List ℕ) → k ≤ length s → Bytes s → bytes_of (j + k) (number_of k v s) ≡ bytes_of j v ++ take k s
unfolding number_of Bytes
bytes-number zero j v s h b = let e : j + 0 ≡ j = omega arith in rw (e, append-nil)
bytes-number (suc k) j v [] h b = absurd (omega arith)
bytes-number (suc k) j v (c ∷ s) h b =
    let e : j + suc k ≡ suc j + k = omega arith in
    rw e (bytes-number k (suc j) (v * 256 + c) s (omega arith) b.1 ∙ rw (bytes-last j v c b.0) (append_assoc (bytes_of j v) (c ∷ []) (take k s)))

-- one message
pub bytes-length : (k n : ℕ) → length (bytes_of k n) ≡ k
unfolding bytes_of
bytes-length zero n = refl
bytes-length (suc k) n = rw length-append (omega (arith, bytes-length k (n / 256)))

pub message-length : (m : Message) → length (packed_message m) ≡ message_bytes
message-length m = omega (arith, bytes-length name_bytes m.name)

message-back : (m : Message) (r : List ℕ) → m.name < 2 ^ 64 → unpacked_message (packed_message m ++ r) ≡ m
unfolding number_of
message-back m r h = rw (number-bytes name_bytes 0 m.name r (small m.name h))

message-there : (s : List ℕ) → message_bytes ≤ length s → Bytes s → packed_message (unpacked_message s) ≡ take message_bytes s
unfolding Bytes bytes_of
message-there [] h b = absurd (omega arith)
message-there (x ∷ []) h b = absurd (omega arith)
message-there (x ∷ y ∷ s) h b = ap (λ (r : List ℕ). x ∷ y ∷ r) (bytes-number name_bytes 0 0 s (omega arith) b.1.1)

-- all messages
messages-back : (l : List Message) → Names l → unpacked_messages (length l) (packed_messages l) ≡ l
unfolding Names packed_messages unpacked_messages
messages-back [] h = refl
messages-back (m ∷ l) h =
    rw (message-back m (packed_messages l) h.0, drop_at (packed_message m) (packed_messages l) message_bytes (message-length m), messages-back l h.1)

bytes_drop : (k : ℕ) (s : List ℕ) → Bytes s → Bytes (drop k s)
unfolding Bytes
bytes_drop zero s b = b
bytes_drop (suc k) [] b = b
bytes_drop (suc k) (c ∷ s) b = bytes_drop k s b.1

messages-there : (k : ℕ) (s : List ℕ) → length s ≡ k * message_bytes → Bytes s → packed_messages (unpacked_messages k s) ≡ s
unfolding packed_messages unpacked_messages
messages-there zero [] h b = refl
messages-there zero (c ∷ s) h b = absurd (omega arith)
messages-there (suc k) s h b =
    let l : length (drop message_bytes s) ≡ k * message_bytes = rw length-drop (omega arith) in
    ap₂ {C = List ℕ} ◌++◌ (message-there s (omega arith) b) (messages-there k (drop message_bytes s) l (bytes_drop message_bytes s b)) ∙ take-append-drop message_bytes s

messages-length : (l : List Message) → length (packed_messages l) ≡ length l * message_bytes
unfolding packed_messages
messages-length [] = refl
messages-length (m ∷ l) = rw length-append (omega (arith, message-length m, messages-length l))

pub packed-length : (b : Behaviour) → Sized b → length (packed b) ≡ value_bytes
unfolding packed
packed-length b z = simp (length-append, messages-length) (omega (arith, z.marks, z.signs, z.messages))

-- THE THEOREMS: what is packed unpacks as itself, and what is unpacked packs as itself
module _ (b : Behaviour) (z : Sized b) where
  marks-at : take most_states (drop 2 (packed b)) ≡ b.marks
  unfolding packed
  marks-at = take_at b.marks (b.signs ++ packed_messages b.messages) most_states z.marks

  after-marks : drop (2 + most_states) (packed b) ≡ b.signs ++ packed_messages b.messages
  unfolding packed
  after-marks = drop_at b.marks (b.signs ++ packed_messages b.messages) most_states z.marks

  signs-at : take most_states (drop (2 + most_states) (packed b)) ≡ b.signs
  signs-at = rw after-marks (take_at b.signs (packed_messages b.messages) most_states z.signs)

  after-signs : drop (2 + 2 * most_states) (packed b) ≡ packed_messages b.messages
  after-signs =
      sym (drop-drop most_states (2 + most_states) (packed b))
      ∙ rw after-marks (drop_at b.signs (packed_messages b.messages) most_states z.signs)

  pub value-back : Names b.messages → unpacked (packed b) ≡ b
  unfolding unpacked packed
  value-back n =
      let e : unpacked_messages most_lines (packed_messages b.messages) ≡ b.messages = rw z.messages at (messages-back b.messages n) in
      rw (eq-eqb (length (packed b)) value_bytes (packed-length b z), marks-at, signs-at, after-signs, e)

pub value_there : (s : List ℕ) → length s ≡ value_bytes → Bytes s → packed (unpacked s) ≡ s
unfolding unpacked packed Bytes
value_there [] l b = absurd (omega arith)
value_there (x ∷ []) l b = absurd (omega arith)
value_there (x ∷ y ∷ t) l b =
    let k : length (drop (2 * most_states) t) ≡ most_lines * message_bytes = rw length-drop (omega arith) in
    let e = messages-there most_lines (drop (2 * most_states) t) k (bytes_drop (2 * most_states) t b.1.1) in
    let f : take most_states (drop most_states t) ++ drop (2 * most_states) t ≡ drop most_states t =
    rw (← drop-drop most_states most_states t) (take-append-drop most_states (drop most_states t)) in
    rw (eq-eqb (length (x ∷ y ∷ t)) value_bytes l, e, f) (ap (λ (r : List ℕ). x ∷ y ∷ r) (take-append-drop most_states t))

-- what is unpacked has the lengths of the code's arrays, whatever the bytes
messages_many : (k : ℕ) (s : List ℕ) → length (unpacked_messages k s) ≡ k
unfolding unpacked_messages
messages_many zero s = refl
messages_many (suc k) s = ap suc (messages_many k (drop message_bytes s))

row-long : (k : ℕ) (s : List ℕ) → length s ≡ value_bytes → k + most_states ≤ value_bytes → length (take most_states (drop k s)) ≡ most_states
row-long k s l h = length-take-le most_states (drop k s) (rw length-drop (omega arith))

either-sized : (t : Bool) (a b : Behaviour) → (t ≡ true → Sized a) → Sized b → Sized (if t a b)
either-sized true a b f g = f refl
either-sized false a b f g = g

pub unpacked-sized : (s : List ℕ) → Sized (unpacked s)
unfolding unpacked
unpacked-sized s =
    either-sized (eqb (length s) value_bytes) _ (bare 0)
    (λ e. record {
      marks = row-long 2 s (eqb-true (length s) value_bytes e) (omega arith);
      signs = row-long (2 + most_states) s (eqb-true (length s) value_bytes e) (omega arith);
      messages = messages_many most_lines (drop (2 + 2 * most_states) s);
    })
    (record { marks = refl; signs = refl; messages = refl })
