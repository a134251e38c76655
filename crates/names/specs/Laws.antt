-- A name's bytes and its number give each other back, and the order of the numbers is the byte order of the names.
use Rattle.std.specs.Prelude.{◌≡◌, refl, Bool, ◌&&◌, ◌⊎◌, ℕ, zero, suc, ◌+◌, ◌*◌, ◌/◌, ◌%◌, ◌<◌, ◌≤◌, leb, eqb, length}
use Rattle.std.proofs.Common.{sym, ap, ◌∙◌, inl, inr, ⊎_elim, arith}
use mathlib.Core.List.{List, [], ◌∷◌, ◌++◌, append_assoc, append-nil}
use Rattle.std.proofs.Math.Bool.{true, false}
use Rattle.std.proofs.lemmas.Bool.{false≢true}
use borrow.Author.Tests.{eqb-true, eqb-false, ne_eqb, leb-true}
use Rattle.names.specs.If.{if}
use Rattle.names.specs.Tests.{both, either}
use Rattle.names.specs.Names.{name_bytes, is_name_byte, name, name_number, full, padded, is_name, name_text, text_of}
use Rattle.names.specs.Order.{all_name_bytes, Name}

pub byte_range : (c : ℕ) → is_name_byte c ≡ true → (48 ≤ c) × (c ≤ 122)
byte_range c e =
    ⊎_elim
    (λ h. let p = both (leb 97 c) (leb c 122) h in let l = leb-true 97 c p.0 in let u = leb-true c 122 p.1 in (omega arith, u))
    (λ h. let p = both (leb 48 c) (leb c 57) h in let l = leb-true 48 c p.0 in let u = leb-true c 57 p.1 in (l, omega arith))
    (either (leb 97 c && leb c 122) (leb 48 c && leb c 57) e)

-- the number's last byte, and what stands before it
module _ (v c : ℕ) (h : c < 256) where
  last_byte : (v * 256 + c) % 256 ≡ c
  last_byte = omega arith

  before_last : (v * 256 + c) / 256 ≡ v
  before_last = omega arith

-- a name byte behind j bytes of text, and a zero behind them
text-more : (j v c : ℕ) → is_name_byte c ≡ true → name_text (suc j) (v * 256 + c) ≡ name_text j v ++ (c ∷ [])
unfolding name_text
text-more j v c e =
    let r = byte_range c e in
    let h : c < 256 = omega arith in
    rw (last_byte v c h, before_last v c h, ne_eqb c 0 (omega arith))

text_pad : (j v : ℕ) → name_text (suc j) (v * 256) ≡ name_text j v
unfolding name_text
text_pad j v =
    let a : v * 256 % 256 ≡ 0 = omega arith in
    let b : v * 256 / 256 ≡ v = omega arith in
    rw (a, b)

text-name : (m k j v : ℕ) (s : List ℕ) → j + k ≡ m → length s ≤ k → all_name_bytes s ≡ true → name_text m (name k v s) ≡ name_text j v ++ s
unfolding name all_name_bytes
text-name m zero j v [] q l e = let f : m ≡ j = omega arith in rw (f, append-nil)
text-name m zero j v (c ∷ s) q l e = absurd (omega arith)
text-name m (suc k) j v [] q l e = text-name m k (suc j) (v * 256) [] (omega arith) (omega arith) e ∙ rw text_pad
text-name m (suc k) j v (c ∷ s) q l e =
    let b = both (is_name_byte c) (all_name_bytes s) e in
    rw b.0 (text-name m k (suc j) (v * 256 + c) s (omega arith) (omega arith) b.1 ∙ rw (text-more j v c b.0, append_assoc))

-- a name's number is written as that name
pub text-number : (s : List ℕ) → Name s → text_of (name_number s) ≡ s
unfolding name_text
text-number s n = text-name name_bytes name_bytes 0 0 s refl n.short n.spelt

-- names with one number are one name
pub one_name : (s t : List ℕ) → Name s → Name t → name_number s ≡ name_number t → s ≡ t
one_name s t a b e = sym (text-number s a) ∙ ap text_of e ∙ text-number t b

-- j bytes of a name are read, and k more may follow
read-full : (m k j n : ℕ) (r : List ℕ) → j + k ≡ m → full j n ≡ true → name m 0 (name_text j n ++ r) ≡ name k n r
unfolding full name_text name
read-full m k zero n r q e = let z : n ≡ 0 = eqb-true n 0 e in let f : m ≡ k = omega arith in rw (z, f)
read-full m k (suc j) n r q e =
    let b = both (is_name_byte (n % 256)) (full j (n / 256)) e in
    let h = byte_range (n % 256) b.0 in
    let v : n / 256 * 256 + n % 256 ≡ n = omega arith in
    rw (ne_eqb (n % 256) 0 (omega arith), append_assoc)
    (read-full m (suc k) j (n / 256) ((n % 256) ∷ r) (omega arith) b.1 ∙ rw (b.0, v))

module _ (m k j n : ℕ) (q : suc j + k ≡ m) (again : (i : ℕ) → j + i ≡ m → padded j (n / 256) ≡ true → name m 0 (name_text j (n / 256)) ≡ name i (n / 256) []) where
  read_step : (t : Bool) → eqb (n % 256) 0 ≡ t → if t (padded j (n / 256)) (full (suc j) n) ≡ true → name m 0 (name_text (suc j) n) ≡ name k n []
  unfolding name_text name
  read_step true z e =
      let v : n / 256 * 256 ≡ n = omega (arith, eqb-true (n % 256) 0 z) in
      rw z (again (suc k) (omega arith) e ∙ rw v)
  read_step false z e = rw append-nil at (read-full m k (suc j) n [] q e)

read-padded : (m k j n : ℕ) → j + k ≡ m → padded j n ≡ true → name m 0 (name_text j n) ≡ name k n []
unfolding padded
read-padded m k zero n q e = absurd (false≢true e)
read-padded m k (suc j) n q e = read_step m k j n q (λ i. read-padded m i j (n / 256)) (eqb (n % 256) 0) refl e

-- a number of a name is read from its text
pub number-text : (n : ℕ) → is_name n ≡ true → name_number (text_of n) ≡ n
unfolding name
number-text n e = read-padded name_bytes 0 name_bytes n refl e

-- what is read as a number other than 0 is a name
module _ (c : ℕ) (s : List ℕ) where
  spelt-more : (n : ℕ) (t : Bool) → (if t n 0 ≡ 0 → ⊥) → (t ≡ true) × (n ≡ 0 → ⊥)
  spelt-more n true h = (refl, h)
  spelt-more n false h = absurd (h refl)

  name-head : (k v : ℕ) → (name (suc k) v (c ∷ s) ≡ 0 → ⊥) → (is_name_byte c ≡ true) × (name k (v * 256 + c) s ≡ 0 → ⊥)
  unfolding name
  name-head k v h = spelt-more (name k (v * 256 + c) s) (is_name_byte c) h

name-spelt : (k v : ℕ) (s : List ℕ) → (name k v s ≡ 0 → ⊥) → (all_name_bytes s ≡ true) × (length s ≤ k)
unfolding name all_name_bytes
name-spelt zero v [] h = (refl, omega arith)
name-spelt zero v (c ∷ s) h = absurd (h refl)
name-spelt (suc k) v [] h = (refl, omega arith)
name-spelt (suc k) v (c ∷ s) h =
    let p = name-head c s k v h in
    let r = name-spelt k (v * 256 + c) s p.1 in
    (rw p.0 r.0, omega arith)

name-none : (k : ℕ) → name k 0 [] ≡ 0
unfolding name
name-none zero = refl
name-none (suc k) = name-none k

pub name_of : (s : List ℕ) → (name_number s ≡ 0 → ⊥) → Name s
name_of [] h = absurd (h (name-none name_bytes))
name_of (c ∷ s) h =
    let r = name-spelt name_bytes 0 (c ∷ s) h in
    record { spelt = r.0; some = omega arith; short = r.1 }

-- 0 is the number of no name
padded-zero : (k : ℕ) → padded k 0 ≡ false
unfolding padded
padded-zero zero = refl
padded-zero (suc k) = padded-zero k

pub name-positive : (n : ℕ) → is_name n ≡ true → n ≡ 0 → ⊥
name-positive n e z = false≢true (sym (padded-zero name_bytes) ∙ ap is_name (sym z) ∙ e)

-- the text of a name's number is a name
pub text-is-name : (n : ℕ) → is_name n ≡ true → Name (text_of n)
text-is-name n e = name_of (text_of n) (λ z. name-positive n e (sym (number-text n e) ∙ z))

full-padded : (j v : ℕ) → full (suc j) v ≡ true → padded (suc j) v ≡ true
unfolding full padded
full-padded j v e =
    let h = byte_range (v % 256) (both (is_name_byte (v % 256)) (full j (v / 256)) e).0 in
    rw (ne_eqb (v % 256) 0 (omega arith)) e

padded-more : (j v : ℕ) → padded j v ≡ true → padded (suc j) (v * 256) ≡ true
unfolding padded
padded-more j v e =
    let a : v * 256 % 256 ≡ 0 = omega arith in
    let b : v * 256 / 256 ≡ v = omega arith in
    rw (a, b) e

pads : (m k j v : ℕ) → j + k ≡ m → padded j v ≡ true → padded m (name k v []) ≡ true
unfolding name
pads m zero j v q e = let f : m ≡ j = omega arith in rw f e
pads m (suc k) j v q e = pads m k (suc j) (v * 256) (omega arith) (padded-more j v e)

full-more : (j v c : ℕ) → full j v ≡ true → is_name_byte c ≡ true → full (suc j) (v * 256 + c) ≡ true
unfolding full
full-more j v c h e =
    let r = byte_range c e in
    let l : c < 256 = omega arith in
    rw (last_byte v c l, before_last v c l, e, h)

name-padded : (m k j v : ℕ) (s : List ℕ) → j + k ≡ m → full j v ≡ true → all_name_bytes s ≡ true → length s ≤ k → 1 ≤ j + length s
    → padded m (name k v s) ≡ true
unfolding name all_name_bytes
name-padded m k zero v [] q f e l h = absurd (omega arith)
name-padded m k (suc j) v [] q f e l h = pads m k (suc j) v q (full-padded j v f)
name-padded m zero j v (c ∷ s) q f e l h = absurd (omega arith)
name-padded m (suc k) j v (c ∷ s) q f e l h =
    let b = both (is_name_byte c) (all_name_bytes s) e in
    rw b.0 (name-padded m k (suc j) (v * 256 + c) s (omega arith) (full-more j v c f b.0) b.1 (omega arith) (omega arith))

-- a name's number is the number of a name
pub number-is-name : (s : List ℕ) → Name s → is_name (name_number s) ≡ true
unfolding full
number-is-name s n = name-padded name_bytes name_bytes 0 0 s refl refl n.spelt n.short (omega arith)

pub zero_or_name : (s : List ℕ) → (name_number s ≡ 0) ⊎ (is_name (name_number s) ≡ true)
zero_or_name s = go (eqb (name_number s) 0) refl
  where
    go : (t : Bool) → eqb (name_number s) 0 ≡ t → (name_number s ≡ 0) ⊎ (is_name (name_number s) ≡ true)
    go true e = inl (eqb-true (name_number s) 0 e)
    go false e = inr (number-is-name s (name_of s (eqb-false (name_number s) 0 e)))
