-- The definition `digits` at a list by its first byte, and a number's bound.
use Rattle.std.proofs.Common.{◌≡◌, refl, true, false, List, [], ◌∷◌, ℕ, zero, suc, ◌+◌, ◌*◌, ◌-◌, ◌/◌, ◌<◌, ◌≤◌, length, arith}
use Rattle.std.proofs.Math.Numerals.{sub-one}
use Rattle.tokens.specs.Parse.{got, off}
use Rattle.tokens.specs.Tokens.{is_digit, digits, number}

-- what a number's beginning is below where k digits more may follow
unfoldable pub cap : ℕ → ℕ
cap zero = 100000
cap (suc k) = cap k / 10

pub cap-all : (k : ℕ) → cap k ≤ 100000
unfolding cap
cap-all zero = omega arith
cap-all (suc k) = omega (arith, cap-all k)

pub cap-more : (k v d : ℕ) → 0 < k → v < cap k → d < 10 → v * 10 + d < cap (k - 1)
unfolding cap
cap-more zero v d p h e = absurd (omega arith)
cap-more (suc k) v d p h e = rw sub-one (omega arith)

pub digits-zero : (k v : ℕ) (s : List ℕ) → k ≡ 0 → digits k v s ≡ got v s
unfolding digits
digits-zero k v s h = rw h

pub digits-end : (k v : ℕ) (s : List ℕ) → length s ≡ 0 → digits k v s ≡ got v s
unfolding digits
digits-end zero v s h = refl
digits-end (suc k) v [] h = refl
digits-end (suc k) v (b ∷ s) h = absurd (omega arith)

pub digits-stop : (k v b : ℕ) (s t : List ℕ) → s ≡ b ∷ t → is_digit b ≡ false → digits k v s ≡ got v s
unfolding digits
digits-stop zero v b s t e h = refl
digits-stop (suc k) v b s t e h = rw e (rw h)

pub digits-more : (k v b : ℕ) (s t : List ℕ) → s ≡ b ∷ t → is_digit b ≡ true → 0 < k → digits k v s ≡ digits (k - 1) (v * 10 + (b - 48)) t
unfolding digits
digits-more zero v b s t e h p = absurd (omega arith)
digits-more (suc k) v b s t e h p = rw e (rw (h, sub-one))

pub number-end : (s : List ℕ) → length s ≡ 0 → number s ≡ off
unfolding number
number-end [] h = refl
number-end (b ∷ s) h = absurd (omega arith)
