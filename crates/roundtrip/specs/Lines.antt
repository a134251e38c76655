-- Reading a written line gives it back.
use Rattle.std.specs.Prelude.{◌≡◌, refl, List, [], ◌∷◌, ◌++◌, Bool, true, false, ℕ, zero, suc, ◌+◌, ◌/◌, ◌%◌, ◌<◌, eqb, ltb}
use Rattle.std.proofs.Common.{append_assoc, arith, ne_eqb}
use Rattle.names.specs.If.{if}
use Rattle.names.specs.Tests.{both}
use Rattle.names.specs.Names.{name_bytes, is_name_byte, full, padded, is_name, name_text}
use Rattle.names.specs.Laws.{byte_range, number-text, name-positive}
use Rattle.tokens.specs.Parse.{got}
use Rattle.tokens.specs.Tokens.{spaces, byte, number, text, some, quoted, labelled, label, word}
use Rattle.tokens.specs.Lines.{line, head}
use Rattle.tokens.specs.declared.Label.{Label}
use Rattle.tokens.specs.declared.Label.TheVariants.{Mark, Take, Send, Other}
use Rattle.tokens.specs.declared.Line.{Line}
use Rattle.text.specs.Spelling.{decimal_of, decimal, label_text, opening, closing, line_text, head_text}
use Rattle.roundtrip.specs.Numbers.{other, number-back}

-- a number begins with no space
dec_spaces : (k n : ℕ) (r : List ℕ) → spaces (decimal_of k n ++ r) ≡ decimal_of k n ++ r
unfolding decimal_of spaces
dec_spaces zero n r = rw (ne_eqb (48 + n) 32 (omega arith))
dec_spaces (suc k) n r = go (ltb n 10) (dec_spaces k (n / 10) ((48 + n % 10) ∷ r))
  where
    go : (t : Bool) → spaces (decimal_of k (n / 10) ++ ((48 + n % 10) ∷ r)) ≡ decimal_of k (n / 10) ++ ((48 + n % 10) ∷ r)
        → spaces (if t ((48 + n) ∷ []) (decimal_of k (n / 10) ++ ((48 + n % 10) ∷ [])) ++ r) ≡ if t ((48 + n) ∷ []) (decimal_of k (n / 10) ++ ((48 + n % 10) ∷ [])) ++ r
    go true h = rw (ne_eqb (48 + n) 32 (omega arith))
    go false h = rw append_assoc h

-- neither a quote nor LF
pub data Plain : List ℕ → Type 0 where
  no_byte : Plain []
  one_more : {c : ℕ} {b : List ℕ} → (c ≡ 34 → ⊥) → (c ≡ 10 → ⊥) → Plain b → Plain (c ∷ b)

plain-append : (a b : List ℕ) → Plain a → Plain b → Plain (a ++ b)
plain-append [] b p q = q
plain-append (c ∷ a) b (one_more x y p) q = one_more x y (plain-append a b p q)

text-back : (b r : List ℕ) → Plain b → text (b ++ 34 ∷ r) ≡ got b r
unfolding text
text-back [] r p = refl
text-back (c ∷ b) r (one_more x y p) = rw (ne_eqb c 34 x, ne_eqb c 10 y, text-back b r p)

full-plain : (k n : ℕ) → full k n ≡ true → Plain (name_text k n)
unfolding full name_text
full-plain zero n e = no_byte
full-plain (suc k) n e =
    let b = both (is_name_byte (n % 256)) (full k (n / 256)) e in
    let l = byte_range (n % 256) b.0 in
    rw (ne_eqb (n % 256) 0 (omega arith)) (plain-append (name_text k (n / 256)) _ (full-plain k (n / 256) b.1) (one_more (omega arith) (omega arith) no_byte))

name-plain : (k n : ℕ) → padded k n ≡ true → Plain (name_text k n)
unfolding padded name_text
name-plain zero n e = no_byte
name-plain (suc k) n e = go (eqb (n % 256) 0) refl e (λ h. name-plain k (n / 256) h)
  where
    go : (t : Bool) → eqb (n % 256) 0 ≡ t → if t (padded k (n / 256)) (full (suc k) n) ≡ true → (padded k (n / 256) ≡ true → Plain (name_text k (n / 256)))
        → Plain (name_text (suc k) n)
    go true z h i = rw z (i h)
    go false z h i = full-plain (suc k) n h

-- a label that a file may have
abbrev pub Allowed : Label → Type 0
Allowed Mark = Unit {0}
Allowed (Take n) = is_name n ≡ true
Allowed (Send n) = is_name n ≡ true
Allowed Other = ⊥

label-back : (l : Label) → Allowed l → label (label_text l) ≡ l
unfolding label word byte
label-back Mark a = refl
label-back (Take n) a = rw (number-text n a, ne_eqb n 0 (name-positive n a))
label-back (Send n) a = rw (number-text n a, ne_eqb n 0 (name-positive n a))
label-back Other a = absurd a

plain : (c : ℕ) (b : List ℕ) → (c ≡ 34 → ⊥) → (c ≡ 10 → ⊥) → Plain b → Plain (c ∷ b)
plain c b x y p = one_more x y p

label-plain : (l : Label) → Allowed l → Plain (label_text l)
label-plain Mark a =
    plain 99 (107 ∷ 112 ∷ []) (omega arith) (omega arith) (plain 107 (112 ∷ []) (omega arith) (omega arith) (plain 112 [] (omega arith) (omega arith) no_byte))
label-plain (Take n) a = plain 63 _ (omega arith) (omega arith) (name-plain name_bytes n a)
label-plain (Send n) a = plain 33 _ (omega arith) (omega arith) (name-plain name_bytes n a)
label-plain Other a = absurd a

label-some : (l : Label) (r : List ℕ) → Allowed l → some (label_text l) r ≡ got (label_text l) r
label-some Mark r a = refl
label-some (Take n) r a = refl
label-some (Send n) r a = refl
label-some Other r a = absurd a

quoted-back : (l : Label) (r : List ℕ) → Allowed l → labelled (34 ∷ label_text l ++ 34 ∷ r) ≡ got l r
unfolding quoted byte
quoted-back l r a = rw (text-back (label_text l) r (label-plain l a), label-some l r a, label-back l a)

regroup : (p q w c z r : List ℕ) → ((p ++ q) ++ (w ++ (c ++ z))) ++ r ≡ p ++ (q ++ (w ++ (c ++ (z ++ r))))
regroup p q w c z r = simp append_assoc

line-then : (l : Line) (r : List ℕ)
    → line_text l ++ r ≡ 40 ∷ decimal l.from ++ (44 ∷ 34 ∷ label_text l.label ++ (34 ∷ 44 ∷ decimal l.to ++ (41 ∷ 10 ∷ r)))
unfolding line_text opening closing
line-then l r = regroup (40 ∷ decimal l.from) (44 ∷ 34 ∷ []) (label_text l.label) (34 ∷ 44 ∷ decimal l.to) (41 ∷ 10 ∷ []) r

pub line-back : (l : Line) (r : List ℕ) → l.from < 100000 → l.to < 100000 → Allowed l.label → line (line_text l ++ r) ≡ got l r
unfolding line spaces byte
line-back l r f g a =
    let y : List ℕ = 41 ∷ 10 ∷ r in
    let z : List ℕ = 34 ∷ label_text l.label ++ (34 ∷ 44 ∷ decimal l.to ++ y) in
    rw (
      line-then l r,
      dec_spaces 4 l.from (44 ∷ z),
      number-back l.from (44 ∷ z) f (other refl),
      quoted-back l.label (44 ∷ decimal l.to ++ y) a,
      dec_spaces 4 l.to y,
      number-back l.to y g (other refl),
    )

head-then : (t s : ℕ) (r : List ℕ) → head_text t s ++ r ≡ 100 ∷ 101 ∷ 115 ∷ 32 ∷ 40 ∷ 48 ∷ 44 ∷ decimal t ++ (44 ∷ decimal s ++ (41 ∷ 10 ∷ r))
unfolding head_text
head-then t s r = simp append_assoc

pub head-back : (t s : ℕ) (r : List ℕ) → t < 100000 → s < 100000 → head (head_text t s ++ r) ≡ got (record { start = 0; lines = t; states = s }) r
unfolding head spaces byte word number
head-back t s r f g =
    let y : List ℕ = 41 ∷ 10 ∷ r in
    let z : List ℕ = 44 ∷ decimal s ++ y in
    rw (head-then t s r, dec_spaces 4 t z, number-back t z f (other refl), dec_spaces 4 s y, number-back s y g (other refl))
