-- Reading a written number gives it back.
use Rattle.std.specs.Prelude.{◌≡◌, refl, List, [], ◌∷◌, ◌++◌, Bool, true, false, ℕ, zero, suc, ◌+◌, ◌-◌, ◌*◌, ◌/◌, ◌%◌, ◌<◌, ◌≤◌, ltb}
use Rattle.std.proofs.Common.{ap, ◌∙◌, append_assoc, sub-one, arith, ne_eqb, le-leb, ltb-true, ltb-false}
use Rattle.names.specs.If.{if}
use Rattle.tokens.specs.Parse.{got}
use Rattle.tokens.specs.Tokens.{digits, number, is_digit}
use Rattle.text.specs.Spelling.{decimal_of, decimal, tens}

-- the next byte is a digit d
digit-more : (j v d : ℕ) (r : List ℕ) → 0 < j → d < 10 → digits j v ((48 + d) ∷ r) ≡ digits (j - 1) (v * 10 + d) r
unfolding digits
digit-more zero v d r p h = absurd (omega arith)
digit-more (suc j) v d r p h =
    let e : 48 + d - 48 ≡ d = omega arith in
    rw (le-leb 48 (48 + d) (omega arith), le-leb (48 + d) 57 (omega arith), sub-one, e)

digit-first : (d : ℕ) (r : List ℕ) → 0 < d → d < 10 → number ((48 + d) ∷ r) ≡ digits 4 d r
unfolding number
digit-first d r p h =
    let e : 48 + d - 48 ≡ d = omega arith in
    rw (ne_eqb (48 + d) 48 (omega arith), le-leb 48 (48 + d) (omega arith), le-leb (48 + d) 57 (omega arith), e)

-- the digits of n are read, and j more may follow
Read : ℕ → ℕ → List ℕ → Type 0
Read f n r = (j : ℕ) × (4 ≤ j + f) × (number (decimal_of f n ++ r) ≡ digits j n r)

dec_step : (f n : ℕ) (r : List ℕ) → f < 4 → 0 < n → n < tens f * 10 → ((m : ℕ) (s : List ℕ) → 0 < m → m < tens f → Read f m s)
    → (t : Bool) → ltb n 10 ≡ t → (j : ℕ) × (4 ≤ j + suc f) × (number (if t ((48 + n) ∷ []) (decimal_of f (n / 10) ++ ((48 + n % 10) ∷ [])) ++ r) ≡ digits j n r)
unfolding Read
dec_step f n r q p h i true e = (4, omega arith, digit-first n r p (ltb-true n 10 e))
dec_step f n r q p h i false e =
    let b : 10 ≤ n = ltb-false n 10 e in
    let k = i (n / 10) ((48 + n % 10) ∷ r) (omega arith) (omega arith) in
    let v : n / 10 * 10 + n % 10 ≡ n = omega arith in (
      k.0 - 1,
      omega (arith, k.1),
      rw append_assoc (k.2 ∙ digit-more k.0 (n / 10) (n % 10) r (omega (arith, k.1)) (omega arith) ∙ ap (λ (x : ℕ). digits (k.0 - 1) x r) v),
    )

dec_read : (f n : ℕ) (r : List ℕ) → f ≤ 4 → 0 < n → n < tens f → Read f n r
unfolding decimal_of tens Read
dec_read zero n r q p h = (4, omega arith, digit-first n r p h)
dec_read (suc f) n r q p h = dec_step f n r (omega arith) p h (λ m s a b. dec_read f m s (omega arith) a b) (ltb n 10) refl

-- what follows a number does not begin with a digit
pub data Apart : List ℕ → Type 0 where
  end : Apart []
  other : {c : ℕ} {r : List ℕ} → is_digit c ≡ false → Apart (c ∷ r)

digits-apart : (j n : ℕ) (r : List ℕ) → Apart r → digits j n r ≡ got n r
unfolding digits
digits-apart zero n r a = refl
digits-apart (suc j) n [] a = refl
digits-apart (suc j) n (c ∷ r) (other e) = rw e

pub number-back : (n : ℕ) (r : List ℕ) → n < 100000 → Apart r → number (decimal n ++ r) ≡ got n r
unfolding number decimal_of tens Read
number-back zero r h a = refl
number-back (suc n) r h a = let k = dec_read 4 (suc n) r (omega arith) (omega arith) h in k.2 ∙ digits-apart k.0 (suc n) r a
