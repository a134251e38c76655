-- The parts of a value, one behind the other.
use Rattle.std.proofs.Common.{◌≡◌, refl, sym, ap, ◌∙◌, List, [], ◌∷◌, ◌++◌, ℕ, zero, suc, ◌+◌, ◌*◌, ◌<◌, ◌≤◌, length, get_or, set, take, drop, map, append_assoc, append-nil, arith, add-one, take_all}
use Rattle.std.proofs.lemmas.List.{map-append, drop-drop, length-append}
use Rattle.std.proofs.lemmas.Slice.{take-put_mid}
use Rattle.std.proofs.Math.Seq.{take-suc, take-suc-set, take-append_seam, drop-append_seam}
use Rattle.std.specs.Simd.{first_chunks}
use borrow.Rule.Slice.PartMut.{put_mid}
use Rattle.behaviour.specs.Limits.{most_states, most_lines}
use Rattle.behaviour.specs.declared.Message.{Message}
use Rattle.behaviour.specs.declared.Behaviour.{Behaviour}
use Rattle.behaviour.specs.Pick.{unused}
use Rattle.packing.specs.Value.{message_bytes, value_bytes, number_of, packed_message, packed_messages, unpacked_message, unpacked_messages, packed}
use Rattle.packing.specs.Back.{message-length}

packed_messages-append : (a b : List Message) → packed_messages (a ++ b) ≡ packed_messages a ++ packed_messages b
unfolding packed_messages
packed_messages-append [] b = refl
packed_messages-append (m ∷ a) b = rw (packed_messages-append a b) (sym (append_assoc (packed_message m) (packed_messages a) (packed_messages b)))

packed_one : (m : Message) → packed_messages (m ∷ []) ≡ packed_message m
unfolding packed_messages
packed_one m = append-nil (packed_message m)

-- one message more stands at the front
pub packed_more : (a : List Message) (out : List ℕ) (i k : ℕ) (bytes : List ℕ) → i < length a → i * message_bytes ≤ length out → bytes ≡ packed_message (get_or a i unused)
    → take (i * message_bytes) out ≡ packed_messages (take i a)
    → take ((i + 1) * message_bytes) (put_mid (i * message_bytes) k out bytes) ≡ packed_messages (take (i + 1) a)
packed_more a out i k bytes h l e f =
    let n = message-length (get_or a i unused) in
    let g = ap length e in
    take-put_mid (i * message_bytes) k out bytes ((i + 1) * message_bytes) (omega arith) l
    ∙ rw (f, e, add-one, take-suc a i unused h, packed_messages-append (take i a) (get_or a i unused ∷ []), packed_one (get_or a i unused))

-- a part put in behind p
put_mid-append : (p r ys : List ℕ) (a k : ℕ) → a ≡ length p → put_mid a k (p ++ r) ys ≡ p ++ (ys ++ drop k r)
put_mid-append p r ys a k e = rw (e, take-append_seam p r, drop-append_seam p r)

pub all_parts : (b : Behaviour) (out : List ℕ) → 2 ≤ length out → length b.marks ≡ most_states → length b.signs ≡ most_states
    → put_mid 22 960 (put_mid 12 10 (put_mid 2 10 (set (set out 0 b.states) 1 b.count) b.marks) b.signs) (packed_messages b.messages)
    ≡ packed b ++ drop value_bytes out
unfolding packed
all_parts b (x ∷ y ∷ t) h e f =
    let m = packed_messages b.messages in
    let p : List ℕ = b.states ∷ b.count ∷ [] in
    let u : put_mid 2 10 (p ++ t) b.marks ≡ (p ++ b.marks) ++ drop 10 t = put_mid-append p t b.marks 2 10 refl ∙ sym (append_assoc p b.marks (drop 10 t)) in
    let v : put_mid 12 10 ((p ++ b.marks) ++ drop 10 t) b.signs ≡ ((p ++ b.marks) ++ b.signs) ++ drop 10 (drop 10 t) =
    put_mid-append (p ++ b.marks) (drop 10 t) b.signs 12 10 (omega (arith, e)) ∙ sym (append_assoc (p ++ b.marks) b.signs (drop 10 (drop 10 t))) in
    let n : 22 ≡ length ((p ++ b.marks) ++ b.signs) = omega (arith, length-append b.marks b.signs, e, f) in
    ap (λ (w : List ℕ). put_mid 22 960 (put_mid 12 10 w b.signs) m) u ∙ ap (λ (w : List ℕ). put_mid 22 960 w m) v
    ∙ put_mid-append ((p ++ b.marks) ++ b.signs) (drop 10 (drop 10 t)) m 22 960 n
    ∙ simp (append_assoc, drop-drop) (rw (append_assoc b.marks b.signs (m ++ drop 980 t)))
all_parts b [] h e f = absurd (omega arith)
all_parts b (x ∷ []) h e f = absurd (omega arith)

number_of-take : (k v j : ℕ) (s : List ℕ) → k ≤ j → number_of k v (take j s) ≡ number_of k v s
unfolding number_of
number_of-take zero v j s h = refl
number_of-take (suc k) v zero s h = absurd (omega arith)
number_of-take (suc k) v (suc j) [] h = refl
number_of-take (suc k) v (suc j) (c ∷ s) h = number_of-take k (v * 256 + c) j s (omega arith)

-- a message is read of its own bytes
own_bytes : (s : List ℕ) → unpacked_message (take message_bytes s) ≡ unpacked_message s
own_bytes [] = refl
own_bytes (x ∷ []) = refl
own_bytes (x ∷ y ∷ t) = rw (number_of-take 8 0 8 t (omega arith))

pub chunked : (k : ℕ) (s : List ℕ) → map unpacked_message (first_chunks message_bytes k s) ≡ unpacked_messages k s
unfolding unpacked_messages
chunked zero s = refl
chunked (suc k) s = rw (own_bytes s, chunked k (drop message_bytes s))

-- one message more is read
pub unpacked_more : (a : List Message) (chunks : List (List ℕ)) (i : ℕ) (m : Message) (d : List ℕ) → i < length a → i < length chunks → m ≡ unpacked_message (get_or chunks i d)
    → take i a ≡ map unpacked_message (take i chunks) → take (i + 1) (set a i m) ≡ map unpacked_message (take (i + 1) chunks)
unpacked_more a chunks i m d h l e f =
    rw (add-one, take-suc-set a i m h, take-suc chunks i d l, map-append unpacked_message (take i chunks) (get_or chunks i d ∷ []), f, e)

-- all are read
pub read_all : (a : List Message) (chunks : List (List ℕ)) (s : List ℕ) (i k : ℕ) → length a ≤ i → length chunks ≤ i → chunks ≡ first_chunks message_bytes k s → k ≡ most_lines
    → take i a ≡ map unpacked_message (take i chunks) → a ≡ unpacked_messages most_lines s
read_all a chunks s i k h l e n f =
    sym (take_all i a h) ∙ f ∙ ap (map unpacked_message) (take_all i chunks l ∙ e) ∙ chunked k s ∙ ap (λ (j : ℕ). unpacked_messages j s) n
