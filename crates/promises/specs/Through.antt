-- A description that C reads in and writes out again keeps its meaning.
use Rattle.std.specs.Prelude.{◌≡◌, refl, Bool, true, false, ◌&&◌, List, [], ◌∷◌, ◌++◌, ℕ, zero, suc, ◌*◌, ◌/◌, ◌%◌, ◌^◌, ◌<◌, leb, eqb, length, take, drop, Ok, Err}
use Rattle.std.proofs.Common.{sym, ap, subst, ◌∙◌, arith, eqb-true, take-append-drop, take_at}
use Rattle.std.proofs.Math.Seq.{take-append_seam}
use Rattle.names.specs.If.{if}
use Rattle.names.specs.Tests.{both}
use Rattle.names.specs.Names.{name_bytes, is_name_byte, full, padded, is_name}
use Rattle.behaviour.specs.declared.Message.{Message}
use Rattle.behaviour.specs.declared.Behaviour.{Behaviour}
use Rattle.behaviour.specs.Sound.{messages, between, all_between, blank, all_blank}
use Rattle.behaviour.specs.SoundLaws.{Sized, Parts, parts, between-parts}
use Rattle.aut.specs.File.{accept, file}
use Rattle.roundtrip.specs.Theorems.{read-sound, sound-read}
use Rattle.writer.specs.Said.{Written}
use Rattle.writer.specs.Text.{text}
use Rattle.writer.specs.Written as writer
use Rattle.packing.specs.Value.{value_bytes, packed, unpacked}
use Rattle.packing.specs.Value as packing
use Rattle.packing.specs.Back.{Names, packed-length, value-back, unpacked-sized}
use Rattle.host.specs.Numbers.{refused_number, written_number}
use Rattle.host.specs.Calls.{Reads, Writes}
use Rattle.promises.specs.Values as values
use Rattle.promises.specs.Values.{Writing, writing}
use Rattle.promises.specs.Boundary.{refused-above}

-- what has at most k bytes
unfoldable bound : ℕ → ℕ
bound zero = 1
bound (suc k) = bound k * 256

full-below : (k n : ℕ) → full k n ≡ true → n < bound k
unfolding full bound
full-below zero n e = omega (arith, eqb-true n 0 e)
full-below (suc k) n e = omega (arith, full-below k (n / 256) (both (is_name_byte (n % 256)) (full k (n / 256)) e).1)

padded-below : (k n : ℕ) → padded k n ≡ true → n < bound k
unfolding padded bound
padded-below zero n e = absurd (let z : ◌≡◌ {A = ℕ} 0 1 = cc in omega arith)
padded-below (suc k) n e = go (eqb (n % 256) 0) (padded-below k (n / 256)) e
  where
    go : (t : Bool) → (padded k (n / 256) ≡ true → n / 256 < bound k) → if t (padded k (n / 256)) (full (suc k) n) ≡ true → n < bound k * 256
    go true r h = omega (arith, r h)
    go false r h = full-below (suc k) n h

name_below : (n : ℕ) → is_name n ≡ true → n < 2 ^ 64
unfolding bound
name_below n e = padded-below name_bytes n e

-- the names of a value that a file gives have eight bytes, and unused places none
names-used : (s : ℕ) (l : List Message) → all_between s l ≡ true → Names l
unfolding all_between Names
names-used s [] e = tt
names-used s (m ∷ l) e = let h = both (between s m) (all_between s l) e in (name_below m.name (between-parts s m h.0).name, names-used s l h.1)

names-unused : (l : List Message) → all_blank l ≡ true → Names l
unfolding all_blank Names
names-unused [] e = tt
names-unused (m ∷ l) e =
    let h = both (blank m) (all_blank l) e in
    let i = (both (eqb m.from 0) (eqb m.name 0 && eqb m.to 0) h.0).1 in
    let j = eqb-true m.name 0 (both (eqb m.name 0) (eqb m.to 0) i).0 in
    (omega arith, names-unused l h.1)

names-append : (l k : List Message) → Names l → Names k → Names (l ++ k)
unfolding Names
names-append [] k a b = b
names-append (m ∷ l) k a b = (a.0, names-append l k a.1 b)

sound-names : (b : Behaviour) → Parts b → Names b.messages
sound-names b p =
    subst Names (take-append-drop b.count b.messages)
    (names-append (messages b) (drop b.count b.messages) (names-used b.states (messages b) p.between) (names-unused (drop b.count b.messages) p.blank))

-- what C gets of a file that is read as b is b
pub value_through : (bytes out left : List ℕ) (r : ℕ) (b : Behaviour) → file bytes ≡ accept b → Reads bytes out r left → r < 4294967296 → unpacked (take value_bytes left) ≡ b
unfolding packing.left
value_through bytes out left r b e h l = go (leb value_bytes (length out)) refl
  where
    go : (t : Bool) → leb value_bytes (length out) ≡ t → unpacked (take value_bytes left) ≡ b
    go true f =
        let s = read-sound bytes b e in
        let w : left ≡ packed b ++ drop value_bytes out = rw (e, f) at h.leaves in
        let i : take value_bytes left ≡ packed b = ap (take value_bytes) w ∙ take_at (packed b) (drop value_bytes out) value_bytes (packed-length b s.1) in
        ap unpacked i ∙ value-back b s.1 (sound-names b (parts b s.0))
    go false f = absurd (let i : r ≡ refused_number writer.too_long = rw (e, f) at h.says in omega arith)

written_back : (b : Behaviour) (out left : List ℕ) (w : Written) (n : ℕ) → Sized b → Writing b out w left → w ≡ Ok n → file (take n left) ≡ accept b
written_back b out left (Ok m) n z (values.granted e l) i =
    let j : length (text b) ≡ n = cc in
    rw (← j, take-append_seam (text b) (drop (length (text b)) out)) (sound-read b z e).1
written_back b out left (Err f) n z w i = absurd (let o : ◌≡◌ {A = ℕ} 0 1 = cc in omega arith)

-- "A description written out reads back as the same behaviour"
pub reads_back : (b : Behaviour) (out left : List ℕ) (n : ℕ) → Sized b → writer.Writes b out (Ok n) left → file (take n left) ≡ accept b
reads_back b out left n z w = written_back b out left (Ok n) n z (writing b out (Ok n) left w) refl

by_number : (b : Behaviour) (out left : List ℕ) (w : Written) (q : ℕ) → Sized b → Writing b out w left → q ≡ written_number w → q < 4294967296 → file (take q left) ≡ accept b
by_number b out left (Ok n) q z w i l = written_back b out left (Ok n) q z w (ap Ok (sym i))
by_number b out left (Err f) q z w i l = absurd (omega (arith, i, refused-above f (values.writing-refused w).0))

-- and so what C writes
pub c_reads_back : (value out left : List ℕ) (q : ℕ) → Writes value out q left → q < 4294967296 → file (take q left) ≡ accept (unpacked value)
c_reads_back value out left q h l =
    by_number (unpacked value) out left (writer.written (unpacked value) out) q (unpacked-sized value)
    (writing (unpacked value) out (writer.written (unpacked value) out) left (refl, h.leaves)) h.says l
