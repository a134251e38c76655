-- A name's number as the number that eight bytes make: the name's, and zeros behind.
use Rattle.std.proofs.Common.{◌≡◌, refl, sym, ap, ◌∙◌, List, [], ◌∷◌, ◌++◌, Bool, true, false, ◌&&◌, ℕ, zero, suc, ◌+◌, ◌*◌, ◌-◌, ◌<◌, ◌≤◌, ◌^◌, ◌/◌, eqb, ltb, ltb-true, ltb-false, eqb-true, length, get_or, take, drop, replicate, arith}
use native.Mathlib.Numerals.{sub-one}
use Rattle.std.specs.Int.{w64, from_be_bytes, to_be_bytes}
use Rattle.std.specs.List.{list_all}
use Rattle.std.proofs.lemmas.List.{length-append, length-replicate, get_or_append_left, get_or-append_right, take-append-drop, length-take-le, length-drop, get_or_past}
use lib.ListN.{drop_of_length-le}
use Rattle.std.proofs.Math.Seq.{take-append_seam}
use Rattle.std.proofs.lemmas.List.Recursion.{same_from_clauses}
use Rattle.std.proofs.lemmas.Nat.{be_bytes_8, from_be_bytes-to_be_bytes_8}
use Rattle.std.proofs.lemmas.Bool.{eqb-false}
use Rattle.names.specs.Tests.{both, no}
use Rattle.names.specs.Names.{is_name_byte, name, name_number, is_name, text_of}
use Rattle.names.specs.Order.{all_name_bytes, Name}
use Rattle.names.specs.Laws.{byte_range, number-is-name, text-is-name, number-text, name_of}

-- the number that bytes make behind v, the first byte highest
unfoldable read : ℕ → List ℕ → ℕ
read v [] = v
read v (c ∷ s) = read (v * 256 + c) s

-- s with zeros behind, k bytes in all
abbrev pub filled : ℕ → List ℕ → List ℕ
filled k s = s ++ replicate (k - length s) 0

read-zero : (v m k : ℕ) → m ≡ suc k → read (v * 256) (replicate k 0) ≡ read v (replicate m 0)
unfolding read
read-zero v m k e = let z : v * 256 ≡ v * 256 + 0 = omega arith in rw e (ap (λ (w : ℕ). read w (replicate k 0)) z)

name-read : (k v : ℕ) (s : List ℕ) → all_name_bytes s ≡ true → length s ≤ k → name k v s ≡ read v (filled k s)
unfolding name all_name_bytes read
name-read zero v [] e h = refl
name-read zero v (c ∷ s) e h = absurd (omega arith)
name-read (suc k) v [] e h = name-read k (v * 256) [] e (omega arith) ∙ read-zero v (suc k - 0) (k - 0) (omega arith)
name-read (suc k) v (c ∷ s) e h =
    let b = both (is_name_byte c) (all_name_bytes s) e in
    let p : suc k - suc (length s) ≡ k - length s = omega arith in
    rw (b.0, p) (name-read k (v * 256 + c) s b.1 (omega arith))

read-be : (bs : List ℕ) → length bs ≡ 8 → read 0 bs ≡ from_be_bytes w64 bs
unfolding read
read-be (a ∷ b ∷ c ∷ d ∷ e ∷ f ∷ g ∷ h ∷ []) l = omega arith
read-be [] l = absurd (omega arith)
read-be (a ∷ []) l = absurd (omega arith)
read-be (a ∷ b ∷ []) l = absurd (omega arith)
read-be (a ∷ b ∷ c ∷ []) l = absurd (omega arith)
read-be (a ∷ b ∷ c ∷ d ∷ []) l = absurd (omega arith)
read-be (a ∷ b ∷ c ∷ d ∷ e ∷ []) l = absurd (omega arith)
read-be (a ∷ b ∷ c ∷ d ∷ e ∷ f ∷ []) l = absurd (omega arith)
read-be (a ∷ b ∷ c ∷ d ∷ e ∷ f ∷ g ∷ []) l = absurd (omega arith)
read-be (a ∷ b ∷ c ∷ d ∷ e ∷ f ∷ g ∷ h ∷ x ∷ bs) l = absurd (omega arith)

filled-length : (s : List ℕ) → length s ≤ 8 → length (filled 8 s) ≡ 8
filled-length s h = omega (arith, length-append s (replicate (8 - length s) 0), length-replicate {A = ℕ} (8 - length s) 0)

pub name-filled : (s : List ℕ) → all_name_bytes s ≡ true → length s ≤ 8 → name_number s ≡ from_be_bytes w64 (filled 8 s)
name-filled s e h = name-read 8 0 s e h ∙ read-be (filled 8 s) (filled-length s h)

-- bytes that are no name have no number
pub name-misspelt : (s : List ℕ) → all_name_bytes s ≡ false → 0 ≡ name_number s
name-misspelt s e = go (eqb (name_number s) 0) refl
  where
    go : (t : Bool) → eqb (name_number s) 0 ≡ t → 0 ≡ name_number s
    go true q = sym (eqb-true (name_number s) 0 q)
    go false q = no (sym e ∙ (name_of s (eqb-false (name_number s) 0 q)).spelt)

pub name-long : (s : List ℕ) → 8 < length s → 0 ≡ name_number s
name-long s h = go (eqb (name_number s) 0) refl
  where
    go : (t : Bool) → eqb (name_number s) 0 ≡ t → 0 ≡ name_number s
    go true q = sym (eqb-true (name_number s) 0 q)
    go false q = absurd (omega (arith, (name_of s (eqb-false (name_number s) 0 q)).short))

pub name-nothing : (s : List ℕ) (from : ℕ) → length s ≤ from → 0 ≡ name_number (drop from s)
unfolding name
name-nothing s from h = rw (drop_of_length-le s h)

-- the code's test of a text is the definition
pub spelt : (s : List ℕ) → list_all is_name_byte s ≡ all_name_bytes s
unfolding all_name_bytes
spelt s = same_from_clauses (list_all is_name_byte) all_name_bytes (λ c b. is_name_byte c && b) refl (λ _ _. refl) (λ _ _. refl) s

spelt-at : (s : List ℕ) (i : ℕ) → all_name_bytes s ≡ true → i < length s → (48 ≤ get_or s i 0) × (get_or s i 0 ≤ 122)
unfolding all_name_bytes
spelt-at [] i e h = absurd (omega arith)
spelt-at (c ∷ s) zero e h = byte_range c (both (is_name_byte c) (all_name_bytes s) e).0
spelt-at (c ∷ s) (suc i) e h = spelt-at s i (both (is_name_byte c) (all_name_bytes s) e).1 (omega arith)

filled-past : (k : ℕ) (s : List ℕ) (i : ℕ) → length s ≤ i → get_or (filled k s) i 0 ≡ 0
filled-past k s i h = get_or-append_right s (replicate (k - length s) 0) (length s) i 0 refl h ∙ go (k - length s) (i - length s)
  where
    go : (n j : ℕ) → get_or (replicate {A = ℕ} n 0) j 0 ≡ 0
    go zero j = refl
    go (suc n) zero = refl
    go (suc n) (suc j) = go n j

filled-low : (s : List ℕ) → all_name_bytes s ≡ true → (i : ℕ) → get_or (filled 8 s) i 0 < 256
filled-low s e i = go (ltb i (length s)) refl
  where
    go : (t : Bool) → ltb i (length s) ≡ t → get_or (filled 8 s) i 0 < 256
    go true q =
        let h : i < length s = ltb-true i (length s) q in
        omega (arith, get_or_append_left s (replicate (8 - length s) 0) 0 i h, (spelt-at s i e h).1)
    go false q = omega (arith, filled-past 8 s i (ltb-false i (length s) q))

-- bytes that are zero from place i on
zeros : (l : List ℕ) → ((i : ℕ) → get_or l i 0 ≡ 0) → l ≡ replicate (length l) 0
zeros [] h = refl
zeros (c ∷ l) h = let z : c ≡ 0 = h 0 in rw (z, ← zeros l (λ i. h (suc i)))

drop-at : (l : List ℕ) (n i : ℕ) → get_or (drop n l) i 0 ≡ get_or l (n + i) 0
drop-at l zero i = let e : 0 + i ≡ i = omega arith in rw e
drop-at [] (suc n) i = refl
drop-at (c ∷ l) (suc n) i = let e : suc n + i ≡ suc (n + i) = omega arith in rw e (drop-at l n i)

cut : (l : List ℕ) (n : ℕ) → n ≤ length l → ((i : ℕ) → n ≤ i → get_or l i 0 ≡ 0) → l ≡ filled (length l) (take n l)
cut l n h z =
    let e = length-take-le n l h in
    let d = length-drop n l in
    let p : length (drop n l) ≡ length l - length (take n l) = omega arith in
    sym (take-append-drop n l) ∙ ap (λ r. take n l ++ r) (zeros (drop n l) (λ i. drop-at l n i ∙ z (n + i) (omega arith)) ∙ rw p)

-- the bytes of a number of a name are that name's, and zeros behind
module _ (n : ℕ) (bs : List ℕ) (h : n < 2 ^ 64) (q : bs ≡ to_be_bytes w64 n) (w : length bs ≡ 8) where
  bytes-name : is_name n ≡ true → bs ≡ filled 8 (text_of n)
  bytes-name e =
      let t = text-is-name n e in
      q ∙ be_bytes_8 (filled 8 (text_of n)) n (filled-length (text_of n) t.short) (filled-low (text_of n) t.spelt)
      (sym (number-text n e) ∙ name-filled (text_of n) t.spelt t.short)

  -- the name's last byte is not 0
  last-byte : is_name n ≡ true → get_or bs (length (text_of n) - 1) 0 ≡ 0 → ⊥
  last-byte e z =
      let t = text-is-name n e in
      let i : length (text_of n) - 1 < length (text_of n) = omega (arith, t.some) in
      let f = spelt-at (text_of n) (length (text_of n) - 1) t.spelt i in
      let g = get_or_append_left (text_of n) (replicate (8 - length (text_of n)) 0) 0 (length (text_of n) - 1) i in
      let j = ap (λ (l : List ℕ). get_or l (length (text_of n) - 1) 0) (bytes-name e) in
      omega (arith, f.0)

  pub name-nowhere : ((i : ℕ) → i < 8 → get_or bs i 0 ≡ 0) → false ≡ is_name n
  name-nowhere z = go (is_name n) refl
    where
      go : (t : Bool) → is_name n ≡ t → false ≡ t
      go false e = refl
      go true e = let t = text-is-name n e in absurd (last-byte e (z (length (text_of n) - 1) (omega (arith, t.short, t.some))))

  -- the last byte that is not 0 ends the name
  module _ (last : ℕ) (b : last < 8) (f : get_or bs last 0 ≡ 0 → ⊥) (back : (k : ℕ) → k < 7 - last → get_or bs (7 - k) 0 ≡ 0) where
    z : (i : ℕ) → last < i → get_or bs i 0 ≡ 0
    z i k = go (ltb i 8) refl
      where
        go : (t : Bool) → ltb i 8 ≡ t → get_or bs i 0 ≡ 0
        go true p =
            let j = ltb-true i 8 p in
            let e : i ≡ 7 - (7 - i) = omega arith in
            rw e (back (7 - i) (omega arith))
        go false p = get_or_past bs i 0 (omega (arith, ltb-false i 8 p))

    abbrev s : List ℕ
    s = take (last + 1) bs

    long : length s ≡ last + 1
    long = length-take-le (last + 1) bs (omega arith)

    ends : is_name n ≡ true → s ≡ text_of n
    ends e = rw (k, bytes-name e) (take-append_seam (text_of n) (replicate (8 - length (text_of n)) 0))
      where
        t : Name (text_of n)
        t = text-is-name n e

        below : (v : Bool) → ltb last (length (text_of n)) ≡ v → last < length (text_of n)
        below true p = ltb-true last (length (text_of n)) p
        below false p = absurd (f (ap (λ (l : List ℕ). get_or l last 0) (bytes-name e) ∙ filled-past 8 (text_of n) last (ltb-false last (length (text_of n)) p)))

        above : (v : Bool) → ltb last (length (text_of n) - 1) ≡ v → length (text_of n) ≤ last + 1
        above true p = absurd (last-byte e (z (length (text_of n) - 1) (ltb-true last (length (text_of n) - 1) p)))
        above false p = omega (arith, ltb-false last (length (text_of n) - 1) p)

        k : last + 1 ≡ length (text_of n)
        k = omega (arith, below (ltb last (length (text_of n))) refl, above (ltb last (length (text_of n) - 1)) refl)

    filled-bytes : filled 8 s ≡ bs
    filled-bytes = rw (← w) (sym (cut bs (last + 1) (omega arith) (λ i k. z i (omega arith))))

    number : all_name_bytes s ≡ true → name_number s ≡ n
    number e =
        name-filled s e (omega (arith, long))
        ∙ ap (from_be_bytes w64) (filled-bytes ∙ q) ∙ from_be_bytes-to_be_bytes_8 n h

    pub name-to : all_name_bytes s ≡ is_name n
    name-to = go (all_name_bytes s) (is_name n) refl refl
      where
        go : (t u : Bool) → all_name_bytes s ≡ t → is_name n ≡ u → t ≡ u
        go true true p e = refl
        go false false p e = refl
        go false true p e = sym p ∙ ap all_name_bytes (ends e) ∙ (text-is-name n e).spelt
        go true false p e =
            sym (number-is-name s (record { spelt = p; some = omega (arith, long); short = omega (arith, long) })) ∙ ap is_name (number p) ∙ e

-- what a number's beginning is below where k bytes more may follow
unfoldable pub room : ℕ → ℕ
room zero = 2 ^ 64
room (suc k) = room k / 256

pub room-all : (k : ℕ) → room k ≤ 2 ^ 64
unfolding room
room-all zero = omega arith
room-all (suc k) = omega (arith, room-all k)

pub room-more : (k v d : ℕ) → 0 < k → v < room k → d < 256 → v * 256 + d < room (k - 1)
unfolding room
room-more zero v d p h e = absurd (omega arith)
room-more (suc k) v d p h e = rw sub-one (omega arith)
