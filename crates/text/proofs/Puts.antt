-- Texts put one after the other.
use Rattle.std.proofs.Common.{◌≡◌, refl, sym, ◌∙◌, List, [], ◌∷◌, ◌++◌, ℕ, ◌+◌, ◌<◌, arith, length, length-append, get_or, take}
use native.Mathlib.Numerals.{add-one}
use lib.Seq.{take-suc}
use Rattle.names.specs.Places.{sets-append}
use Rattle.text.specs.declared.Text.{Text}
use Rattle.text.specs.Putting.{Short, Put, Puts}

pub short-first : {at : ℕ} (w v : List ℕ) → Short at (w ++ v) → Short at w
short-first w v s = let l = length-append w v in let y = s.ends in record { ends = omega arith }

module _ {b : List ℕ} {at : ℕ} where
  -- w, and after it v
  put_then : {w v : List ℕ} {m r : ℕ} {a e : List ℕ} → Put b at w m a → Put a m v r e → Put b at (w ++ v) r e
  put_then {w} {v} h k = record {
    place = (let x = h.place in let y = k.place in let l = length-append w v in omega arith);
    bytes = k.bytes ∙ rw (h.bytes, h.place) (sym (sets-append b at w v));
  }

  -- the second of two has room where both have
  short-next : {w : List ℕ} {m : ℕ} {a : List ℕ} (v : List ℕ) → Short at (w ++ v) → Put b at w m a → Short m v
  short-next {w} v s h = let x = h.place in let l = length-append w v in let y = s.ends in record { ends = omega arith }

module _ {o : Text} where
  pub puts-nothing : Puts o [] o
  puts-nothing = record { put = λ s. record { place = omega arith; bytes = refl }; same = refl }

  pub puts_as : {w v : List ℕ} {n : Text} → w ≡ v → Puts o w n → Puts o v n
  puts_as f h = rw f at h

  -- w, and after it v
  pub puts_then : {w v : List ℕ} {m n : Text} → Puts o w m → Puts m v n → Puts o (w ++ v) n
  puts_then {w} {v} h k = record {
    put = λ s. let p = h.put (short-first w v s) in put_then p (k.put (short-next v s p));
    same = k.same ∙ h.same;
  }

  -- the bytes of w, one after the other
  pub puts-next : (w : List ℕ) (j : ℕ) {m n : Text} → j < length w → Puts o (take j w) m → Puts m (get_or w j 0 ∷ []) n → Puts o (take (j + 1) w) n
  puts-next w j h p q = rw (add-one j, take-suc w j 0 h) (puts_then p q)

-- of the text w, to be put into o, the part v is left, to be put into m
pub record Onward (o : Text) (w : List ℕ) (m : Text) (v : List ℕ) : Type 0 where
  pub ends : {n : Text} → Puts m v n → Puts o w n

pub onward-start : {o : Text} {w : List ℕ} → Onward o w o w
onward-start = record { ends = λ p. p }

module _ {o : Text} {w : List ℕ} {m : Text} {x : List ℕ} (g : Onward o w m x) where
  -- v of it is put
  pub onward-step : {v u : List ℕ} {n : Text} → x ≡ v ++ u → Puts m v n → Onward o w n u
  onward-step e p = record { ends = λ q. g.ends (puts_as (sym e) (puts_then p q)) }

  pub onward-last : {v : List ℕ} {n : Text} → x ≡ v → Puts m v n → Puts o w n
  onward-last e p = g.ends (puts_as (sym e) p)

  pub onward-end : x ≡ [] → Puts o w m
  onward-end e = onward-last e puts-nothing
