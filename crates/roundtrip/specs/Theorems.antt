-- The promises on values and on the round trip: 13 is given exactly to "a behaviour value that no accepted file gives", and every other value
-- is written as a text that reads as that value.
use Rattle.std.specs.Prelude.{◌≡◌, refl, List, ◌++◌, true, false, ℕ, ◌+◌, ◌-◌, ◌≤◌, leb, length, take, drop, replicate, Ok}
use Rattle.std.proofs.Common.{sym, ap, ap₂, ◌∙◌, arith, le-leb, length-append, length-drop, take-append-drop, length-take-le}
use Rattle.std.proofs.lemmas.List.{length-replicate}
use Rattle.std.proofs.Math.Seq.{take-append_seam, drop-append_seam}
use Rattle.behaviour.specs.declared.Message.{Message}
use Rattle.behaviour.specs.declared.Behaviour.{Behaviour}
use Rattle.behaviour.specs.Limits.{most_lines, most_bytes}
use Rattle.behaviour.specs.Pick.{unused}
use Rattle.behaviour.specs.Sound.{messages, sound}
use Rattle.behaviour.specs.SoundLaws.{Sized, Parts, parts, whole}
use Rattle.aut.specs.Adding.{bare}
use Rattle.aut.specs.File.{accept, file}
use Rattle.writer.specs.Text.{text}
use Rattle.writer.specs.Written.{written, left}
use Rattle.writer.specs.Lengths.{text-few}
use Rattle.roundtrip.specs.Sorted.{least}
use Rattle.roundtrip.specs.Soundness.{sorted_of, sorted_back, between_of, between-back, blank_of, blank-back, settled_of, settled_back, unfinished_of}
use Rattle.roundtrip.specs.RoundTrip.{Valid, round_trip}
use Rattle.roundtrip.specs.ReadValid.{read-valid}

module _ (b : Behaviour) (a : Sized b) (p : Parts b) where
  used-length : length (messages b) ≡ b.count
  used-length = length-take-le b.count b.messages (omega (arith, a.messages, p.most-lines))

  rest-zero : drop b.count b.messages ≡ replicate (most_lines - length (messages b)) unused
  rest-zero =
      let n : length (drop b.count b.messages) ≡ most_lines - length (messages b) = length-drop b.count b.messages ∙ ap₂ {C = ℕ} (λ (x y : ℕ). x - y) a.messages (sym used-length) in
      blank_of (drop b.count b.messages) p.blank ∙ ap (λ (x : ℕ). replicate x unused) n

  all-messages : b.messages ≡ messages b ++ replicate (most_lines - length (messages b)) unused
  all-messages = sym (take-append-drop b.count b.messages) ∙ ap (λ (x : List Message). messages b ++ x) rest-zero

  valid_of : Valid b
  valid_of = record {
    low = p.some-state;
    high = p.most-states;
    ten_marks = a.marks;
    ten_signs = a.signs;
    used = messages b;
    is =
        ap {B = Behaviour} (λ (x : ℕ). record { states = b.states; count = x; marks = b.marks; signs = b.signs; messages = b.messages }) (sym used-length)
        ∙ ap {B = Behaviour} (λ (x : List Message). record { states = b.states; count = length (messages b); marks = b.marks; signs = b.signs; messages = x }) all-messages;
    settled = settled_of b.states 0 b.marks b.signs (messages b) (a.marks ∙ sym a.signs) (omega (arith, a.marks, p.most-states)) (sorted_of _ p.sorted) (least (messages b))
        (between_of b.states (messages b) p.between) p.settled;
    sorted = sorted_of (messages b) p.sorted;
    between = between_of b.states (messages b) p.between;
    counted = omega (arith, p.most-lines, used-length);
    unfinished = omega (arith, a.marks, unfinished_of 0 b.marks b.signs (messages b) (a.marks ∙ sym a.signs) p.settled);
  }

valid-sized : (b : Behaviour) → Valid b → Sized b
valid-sized b v = record {
  marks = v.ten_marks;
  signs = v.ten_signs;
  messages =
      ap {B = ℕ} (λ (x : Behaviour). length x.messages) v.is
      ∙ length-append v.used _
      ∙ ap {B = ℕ} (λ (x : ℕ). length v.used + x) (length-replicate (most_lines - length v.used) unused)
      ∙ omega (arith, v.counted);
}

valid-parts : (b : Behaviour) → Valid b → Parts b
valid-parts b v = record {
  some-state = v.low;
  most-states = v.high;
  most-lines = omega (arith, v.counted, ap {B = ℕ} (λ (x : Behaviour). x.count) v.is);
  between = rw firsts (between-back b.states v.used v.between);
  sorted = rw firsts (sorted_back v.used v.sorted);
  blank = rw rests (blank-back (most_lines - length v.used));
  settled = rw firsts (settled_back b.states 0 b.marks b.signs v.used v.sorted (least v.used) v.settled (omega (arith, v.unfinished, v.ten_marks)));
}
  where
    firsts : messages b ≡ v.used
    firsts = ap {B = List Message} (λ (x : Behaviour). messages x) v.is ∙ take-append_seam v.used (replicate (most_lines - length v.used) unused)

    rests : drop b.count b.messages ≡ replicate (most_lines - length v.used) unused
    rests = ap {B = List Message} (λ (x : Behaviour). drop x.count x.messages) v.is ∙ drop-append_seam v.used (replicate (most_lines - length v.used) unused)

-- what an accepted file gives is sound
pub read-sound : (r : List ℕ) (b : Behaviour) → file r ≡ accept b → (sound b ≡ true) × Sized b
read-sound r b e = let v = read-valid r b e in (whole b (valid-parts b v), valid-sized b v)

-- and a sound value is given by an accepted file: its own text, "the file at most 4,096 bytes"
pub sound-read : (b : Behaviour) → Sized b → sound b ≡ true → (length (text b) ≤ most_bytes) × (file (text b) ≡ accept b)
sound-read b a e = let p = parts b e in (text-few b p.most-lines, round_trip b (valid_of b a p))

-- some accepted file gives b
abbrev pub Given : Behaviour → Type 0
Given b = (r : List ℕ) × (file r ≡ accept b)

-- 13 "a behaviour value that no accepted file gives"
pub sound_given : (b : Behaviour) → Sized b → sound b ≡ true → Given b
sound_given b a e = (text b, (sound-read b a e).1)

pub given_sound : (b : Behaviour) → Given b → sound b ≡ true
given_sound b g = (read-sound g.0 b g.1).0

-- a file that is read as b is written as a text that reads as b
pub read_back : (r : List ℕ) (b : Behaviour) → file r ≡ accept b → file (text b) ≡ accept b
read_back r b e = let s = read-sound r b e in (sound-read b s.1 s.0).1

-- with a buffer of a file's size, `write` takes every sound value, and what it puts first in the buffer reads as that value
pub sound-written : (b : Behaviour) (out : List ℕ) → Sized b → sound b ≡ true → most_bytes ≤ length out
    → (written b out ≡ Ok (length (text b))) × (file (take (length (text b)) (left b out)) ≡ accept b)
sound-written b out a e n =
    let r = sound-read b a e in
    let f : leb (length (text b)) (length out) ≡ true = le-leb (length (text b)) (length out) (omega (arith, r.0)) in
    (rw (e, f), rw (e, f, take-append_seam (text b) (drop (length (text b)) out)) r.1)

-- "A refused read gives a behaviour of zero states, which itself meets 13"
pub refused-unsound : sound (bare 0) ≡ false
unfolding sound
refused-unsound = refl
