-- A text put at the front of a buffer, by its length.
use Rattle.std.specs.Prelude.{None, Some}
use Rattle.std.proofs.Common.{◌≡◌, refl, ◌∙◌, List, ◌++◌, ℕ, ◌≤◌, ◌<◌, arith, length, drop, le-leb}
use Rattle.std.proofs.lemmas.Bool.{lt-leb}
use native.Mathlib.Nat.{zero-add}
use lib.Seq.{sets-eq}
use Rattle.text.specs.declared.Text.{Text}
use Rattle.text.specs.Putting.{Short, Put, Puts}
use Rattle.text.specs.Fronts.{Fronts}

module _ {o n : Text} {w : List ℕ} (p : Puts o w n) (z : o.at ≡ 0) (s : Short 0 w) where
  front : Put o.buf.now 0 w n.at n.buf.now
  front = (rw z at p.put) s

  pub front_length : n.at ≡ length w
  front_length = omega (arith, front.place)

  pub front_bytes : length w ≤ length o.buf.now → n.buf.now ≡ w ++ drop (length w) o.buf.now
  front_bytes h = front.bytes ∙ rw (zero-add (length w)) at (sets-eq w o.buf.now 0 (omega arith))

  pub fronts-none : {out : List ℕ} → length out < n.at → Fronts w out None out
  fronts-none {out} h = let f = lt-leb (length w) (length out) (omega (arith, front_length)) in record { says = rw f refl; leaves = rw f refl }

-- the text n has its length, and m its bytes
pub fronts-some : {o n a m : Text} {w : List ℕ} → Puts o w n → o.at ≡ 0 → Puts a w m → a.at ≡ 0 → Short 0 w → n.at ≤ length a.buf.now → {e : List ℕ} → e ≡ m.buf.now → Fronts w a.buf.now (Some n.at) e
fronts-some {o} {n} {a} {m} {w} p z q y s h f =
    let l = front_length p z s in
    let k : length w ≤ length a.buf.now = omega arith in
    let t = le-leb (length w) (length a.buf.now) k in
    record { says = rw (t, l) refl; leaves = f ∙ rw t (front_bytes q y s k) }
