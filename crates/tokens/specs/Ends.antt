-- The bytes that a line or the first line leaves are an end of those it was read from.
use Rattle.std.specs.Prelude.{◌≡◌, refl, List, [], ◌∷◌, Bool, true, false, ℕ, zero, suc, ◌+◌, ◌*◌, ◌-◌, ◌≤◌, eqb, length, drop}
use Rattle.std.proofs.Common.{subst, arith}
use Rattle.names.specs.If.{if}
use Rattle.tokens.specs.Parse.{Got, got, off, nothing, and_then}
use Rattle.tokens.specs.Tokens.{spaces, byte, is_digit, digits, number, word, prepend, text, some, quoted, label, labelled}
use Rattle.tokens.specs.Lines.{spaced, after, ending, line, head}
use Rattle.tokens.specs.declared.Line.{Line}
use Rattle.tokens.specs.declared.Head.{Head}

-- t is s from a place on, which is one of s or its end
abbrev pub IsEnd : List ℕ → List ℕ → Type 0
IsEnd t s = (n : ℕ) × (n ≤ length s) × (t ≡ drop n s)

-- the same, a byte at a time
data Ends (t : List ℕ) : List ℕ → Type 0 where
  whole : Ends t t
  part : (c : ℕ) (s : List ℕ) → Ends t s → Ends t (c ∷ s)

end_of : (t s : List ℕ) → Ends t s → IsEnd t s
end_of t s whole = (0, omega arith, refl)
end_of t s (part c u e) = let p = end_of t u e in (suc p.0, omega (arith, p.1), p.2)

ends_trans : (r t s : List ℕ) → Ends r t → Ends t s → Ends r s
ends_trans r t s e whole = e
ends_trans r t s e (part c u f) = part c u (ends_trans r t u e f)

-- what the reading g leaves is an end of s
abbrev Leaves : {A : Type 0} → List ℕ → Got A → Type 0
Leaves s (got a t) = Ends t s
Leaves s off = Unit {0}

module _ {A : Type 0} where
  leaves_if : (s : List ℕ) (b : Bool) (g h : Got A) → Leaves s g → Leaves s h → Leaves s (if b g h)
  leaves_if s true g h p q = p
  leaves_if s false g h p q = q

  leaves_later : (c : ℕ) (s : List ℕ) (g : Got A) → Leaves s g → Leaves (c ∷ s) g
  leaves_later c s (got a t) p = part c s p
  leaves_later c s off p = tt

  leaves_back : (t s : List ℕ) (g : Got A) → Ends t s → Leaves t g → Leaves s g
  leaves_back t s (got a r) e p = ends_trans r t s p e
  leaves_back t s off e p = tt

leaves_then : {A B : Type 0} (s : List ℕ) (g : Got A) (k : A → List ℕ → Got B) → Leaves s g → ((a : A) (t : List ℕ) → Leaves t (k a t)) → Leaves s (and_then g k)
leaves_then s (got a t) k p h = leaves_back t s (k a t) p (h a t)
leaves_then s off k p h = tt

spaces_end : (s : List ℕ) → Ends (spaces s) s
unfolding spaces
spaces_end [] = whole
spaces_end (c ∷ s) = go (eqb c 32) (spaces_end s)
  where
    go : (b : Bool) → Ends (spaces s) s → Ends (if b (spaces s) (c ∷ s)) (c ∷ s)
    go true e = part c s e
    go false e = whole

byte_leaves : (b : ℕ) (s : List ℕ) → Leaves s (byte b s)
unfolding byte
byte_leaves b [] = tt
byte_leaves b (c ∷ s) = leaves_if (c ∷ s) (eqb c b) (got nothing s) off (part c s whole) tt

digits_leaves : (k v : ℕ) (s : List ℕ) → Leaves s (digits k v s)
unfolding digits
digits_leaves zero v s = whole
digits_leaves (suc k) v [] = whole
digits_leaves (suc k) v (c ∷ s) =
    leaves_if (c ∷ s) (is_digit c) (digits k (v * 10 + (c - 48)) s) (got v (c ∷ s))
    (leaves_later c s (digits k (v * 10 + (c - 48)) s) (digits_leaves k (v * 10 + (c - 48)) s)) whole

number_leaves : (s : List ℕ) → Leaves s (number s)
unfolding number
number_leaves [] = tt
number_leaves (c ∷ s) =
    leaves_if (c ∷ s) (eqb c 48) (got 0 s) (if (is_digit c) (digits 4 (c - 48) s) off) (part c s whole)
    (leaves_if (c ∷ s) (is_digit c) (digits 4 (c - 48) s) off (leaves_later c s (digits 4 (c - 48) s) (digits_leaves 4 (c - 48) s)) tt)

word_leaves : (w s : List ℕ) → Leaves s (word w s)
unfolding word
word_leaves [] s = whole
word_leaves (c ∷ w) s = leaves_then s (byte c s) (λ _. word w) (byte_leaves c s) (λ _ t. word_leaves w t)

prepend_leaves : (c : ℕ) (s : List ℕ) (g : Got (List ℕ)) → Leaves s g → Leaves (c ∷ s) (prepend c g)
prepend_leaves c s (got b t) p = part c s p
prepend_leaves c s off p = tt

text_leaves : (s : List ℕ) → Leaves s (text s)
unfolding text
text_leaves [] = tt
text_leaves (c ∷ s) =
    leaves_if (c ∷ s) (eqb c 34) (got [] s) (if (eqb c 10) off (prepend c (text s))) (part c s whole)
    (leaves_if (c ∷ s) (eqb c 10) off (prepend c (text s)) tt (prepend_leaves c s (text s) (text_leaves s)))

some_leaves : (b s : List ℕ) → Leaves s (some b s)
some_leaves [] s = tt
some_leaves (c ∷ b) s = whole

labelled_leaves : (s : List ℕ) → Leaves s (labelled s)
unfolding quoted
labelled_leaves s =
    leaves_then s (quoted s) (λ b. got (label b))
    (leaves_then s (and_then (byte 34 s) (λ _. text)) some (leaves_then s (byte 34 s) (λ _. text) (byte_leaves 34 s) (λ _ t. text_leaves t)) some_leaves)
    (λ b t. whole)

module _ {A : Type 0} (p : List ℕ → Got A) (h : (s : List ℕ) → Leaves s (p s)) where
  spaced_leaves : (s : List ℕ) → Leaves s (spaced p s)
  spaced_leaves s = leaves_back (spaces s) s (p (spaces s)) (spaces_end s) (h (spaces s))

after_leaves : {A : Type 0} (b : ℕ) (p : List ℕ → Got A) → ((s : List ℕ) → Leaves s (p s)) → (s : List ℕ) → Leaves s (after b p s)
after_leaves b p h s =
    leaves_then s (spaced (byte b) s) (λ _. spaced p) (spaced_leaves (byte b) (byte_leaves b) s) (λ _ t. spaced_leaves p h t)

ending_leaves : (s : List ℕ) → Leaves s (ending s)
ending_leaves = after_leaves 41 (byte 10) (byte_leaves 10)

line_leaves : (s : List ℕ) → Leaves s (line s)
unfolding line
line_leaves s =
    leaves_then s (byte 40 s) _ (byte_leaves 40 s) (λ _ a.
    leaves_then a (spaced number a) _ (spaced_leaves number number_leaves a) (λ f b.
    leaves_then b (after 44 labelled b) _ (after_leaves 44 labelled labelled_leaves b) (λ l c.
    leaves_then c (after 44 number c) _ (after_leaves 44 number number_leaves c) (λ g d.
    leaves_then d (ending d) _ (ending_leaves d) (λ _ e. whole)))))

head_leaves : (s : List ℕ) → Leaves s (head s)
unfolding head
head_leaves s =
    leaves_then s (word (100 ∷ 101 ∷ 115 ∷ []) s) _ (word_leaves (100 ∷ 101 ∷ 115 ∷ []) s) (λ _ a.
    leaves_then a (after 40 number a) _ (after_leaves 40 number number_leaves a) (λ z b.
    leaves_then b (after 44 number b) _ (after_leaves 44 number number_leaves b) (λ t c.
    leaves_then c (after 44 number c) _ (after_leaves 44 number number_leaves c) (λ n d.
    leaves_then d (ending d) _ (ending_leaves d) (λ _ e. whole)))))

pub line_end : (s t : List ℕ) (l : Line) → line s ≡ got l t → IsEnd t s
line_end s t l e = end_of t s (subst (Leaves s) e (line_leaves s))

pub head_end : (s t : List ℕ) (h : Head) → head s ≡ got h t → IsEnd t s
head_end s t h e = end_of t s (subst (Leaves s) e (head_leaves s))
