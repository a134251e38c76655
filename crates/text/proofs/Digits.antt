-- Decimal digits, by the tests that the code makes.
use Rattle.std.proofs.Common.{◌≡◌, refl, [], ◌∷◌, ◌++◌, ℕ, zero, suc, ◌+◌, ◌-◌, ◌/◌, ◌%◌, ◌<◌, ◌≤◌, arith, lt-ltb, le-ltb}
use native.Mathlib.Numerals.{sub-one}
use Rattle.text.specs.Spelling.{decimal_of, tens}

pub decimal-small : (k n : ℕ) → n < 10 → (48 + n % 10) ∷ [] ≡ decimal_of k n
unfolding decimal_of
decimal-small zero n h = let e : n % 10 ≡ n = omega arith in rw e refl
decimal-small (suc k) n h = let e : n % 10 ≡ n = omega arith in rw (lt-ltb n 10 h, e) refl

pub decimal-large : (k n : ℕ) → 10 ≤ n → 0 < k → decimal_of k n ≡ decimal_of (k - 1) (n / 10) ++ ((48 + n % 10) ∷ [])
unfolding decimal_of
decimal-large zero n h p = absurd (omega arith)
decimal-large (suc k) n h p = rw (le-ltb n 10 h, sub-one)

-- a number with digits before its last
pub tens-more : (k n : ℕ) → 10 ≤ n → n < tens k → (0 < k) × (n / 10 < tens (k - 1))
unfolding tens
tens-more zero n h l = absurd (omega arith)
tens-more (suc k) n h l = rw sub-one (omega arith, omega arith)
