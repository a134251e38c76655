-- Of two names the one that comes first in byte order has the smaller number.
use Rattle.std.specs.Prelude.{◌≡◌, refl, List, [], ◌∷◌, Bool, true, false, ◌&&◌, ◌||◌, ℕ, zero, suc, ◌+◌, ◌*◌, ◌<◌, ◌≤◌, ltb, eqb, length}
use Rattle.std.proofs.Common.{sym, arith, ltb-true, ltb-false, eqb-true, lt-ltb, le-ltb}
use Rattle.std.proofs.lemmas.Bool.{eqb-false}
use Rattle.names.specs.Tests.{both}
use Rattle.names.specs.Names.{name_bytes, is_name_byte, name, name_number}
use Rattle.names.specs.Order.{all_name_bytes, Name, in_byte_order}
use Rattle.names.specs.Laws.{byte_range}

-- k bytes of a name at most
record Short (k : ℕ) (s : List ℕ) : Type 0 where
  spelt : all_name_bytes s ≡ true
  short : length s ≤ k

-- its first byte, and those after it
record Split (k : ℕ) (c : ℕ) (s : List ℕ) : Type 0 where
  named : is_name_byte c ≡ true
  low : 48 ≤ c
  high : c ≤ 122
  rest : Short k s

split : (k c : ℕ) (s : List ℕ) → Short (suc k) (c ∷ s) → Split k c s
unfolding all_name_bytes
split k c s h =
    let b = both (is_name_byte c) (all_name_bytes s) h.spelt in
    let r = byte_range c b.0 in
    let l = h.short in
    record { named = b.0; low = r.0; high = r.1; rest = record { spelt = b.1; short = omega arith } }

none : (k : ℕ) → Short k []
unfolding all_name_bytes
none k = record { spelt = refl; short = omega arith }

-- a smaller beginning gives a smaller number, whatever bytes follow
ahead : (k v w : ℕ) (s t : List ℕ) → Short k s → Short k t → v < w → name k v s < name k w t
unfolding name
ahead zero v w [] [] a b h = h
ahead zero v w [] (d ∷ t) a b h = absurd (let l = b.short in omega arith)
ahead zero v w (c ∷ s) t a b h = absurd (let l = a.short in omega arith)
ahead (suc k) v w [] [] a b h = ahead k (v * 256) (w * 256) [] [] (none k) (none k) (omega arith)
ahead (suc k) v w [] (d ∷ t) a b h =
    let q = split k d t b in
    rw q.named (ahead k (v * 256) (w * 256 + d) [] t (none k) q.rest (omega arith))
ahead (suc k) v w (c ∷ s) [] a b h =
    let p = split k c s a in
    rw p.named (ahead k (v * 256 + c) (w * 256) s [] p.rest (none k) (omega arith))
ahead (suc k) v w (c ∷ s) (d ∷ t) a b h =
    let p = split k c s a in
    let q = split k d t b in
    rw (p.named, q.named) (ahead k (v * 256 + c) (w * 256 + d) s t p.rest q.rest (omega arith))

-- by the two first bytes
module _ (k v c d : ℕ) (s t : List ℕ) (a : Short k s) (b : Short k t) (p : c < 256) (q : d < 256)
    (again : (n : ℕ) → in_byte_order s t ≡ ltb (name k n s) (name k n t)) where
  by_first : (l e : Bool) → ltb c d ≡ l → eqb c d ≡ e
      → (l || (e && in_byte_order s t)) ≡ ltb (name k (v * 256 + c) s) (name k (v * 256 + d) t)
  by_first true e f g =
      let h = ahead k (v * 256 + c) (v * 256 + d) s t a b (omega (arith, ltb-true c d f)) in
      sym (lt-ltb (name k (v * 256 + c) s) (name k (v * 256 + d) t) h)
  by_first false true f g =
      let z : c ≡ d = eqb-true c d g in
      rw z (again (v * 256 + d))
  by_first false false f g =
      let h = ahead k (v * 256 + d) (v * 256 + c) t s b a (omega (arith, ltb-false c d f, eqb-false c d g)) in
      sym (le-ltb (name k (v * 256 + c) s) (name k (v * 256 + d) t) (omega arith))

ordered : (k v : ℕ) (s t : List ℕ) → Short k s → Short k t → in_byte_order s t ≡ ltb (name k v s) (name k v t)
unfolding name in_byte_order
ordered k v [] [] a b = sym (le-ltb (name k v []) (name k v []) (omega arith))
ordered zero v [] (d ∷ t) a b = absurd (let l = b.short in omega arith)
ordered zero v (c ∷ s) t a b = absurd (let l = a.short in omega arith)
ordered (suc k) v [] (d ∷ t) a b =
    let q = split k d t b in
    let h = ahead k (v * 256) (v * 256 + d) [] t (none k) q.rest (omega arith) in
    rw q.named (sym (lt-ltb (name k (v * 256) []) (name k (v * 256 + d) t) h))
ordered (suc k) v (c ∷ s) [] a b =
    let p = split k c s a in
    let h = ahead k (v * 256) (v * 256 + c) [] s (none k) p.rest (omega arith) in
    rw p.named (sym (le-ltb (name k (v * 256 + c) s) (name k (v * 256) []) (omega arith)))
ordered (suc k) v (c ∷ s) (d ∷ t) a b =
    let p = split k c s a in
    let q = split k d t b in
    rw (p.named, q.named)
    (by_first k v c d s t p.rest q.rest (omega arith) (omega arith) (λ n. ordered k n s t p.rest q.rest) (ltb c d) (eqb c d) refl refl)

-- "sorted .. by name in byte order": the smaller number is the name that comes first
pub byte-order : (s t : List ℕ) → Name s → Name t → in_byte_order s t ≡ ltb (name_number s) (name_number t)
byte-order s t a b =
    ordered name_bytes 0 s t (record { spelt = a.spelt; short = a.short }) (record { spelt = b.spelt; short = b.short })
