-- A name's bytes and its number, as the library has them.
use Rattle.std.proofs.Common.{◌≡◌, sym, List, [], ◌∷◌, ℕ, ◌/◌, length, arith}
use Rattle.std.specs.Int.{w64, from_be_bytes, to_be_bytes}
use Rattle.packing.specs.Value.{bytes_of, number_of}

pub name_bytes : (n : ℕ) → to_be_bytes w64 n ≡ bytes_of 8 n
unfolding bytes_of
name_bytes n =
    let e2 : n / 256 / 256 ≡ n / 65536 = omega arith in
    let e3 : n / 65536 / 256 ≡ n / 16777216 = omega arith in
    let e4 : n / 16777216 / 256 ≡ n / 4294967296 = omega arith in
    let e5 : n / 4294967296 / 256 ≡ n / 1099511627776 = omega arith in
    let e6 : n / 1099511627776 / 256 ≡ n / 281474976710656 = omega arith in
    let e7 : n / 281474976710656 / 256 ≡ n / 72057594037927936 = omega arith in
    rw (e2, e3, e4, e5, e6, e7)

eight : (s : List ℕ) → length s ≡ 8 → number_of 8 0 s ≡ from_be_bytes w64 s
unfolding number_of
eight (a ∷ b ∷ c ∷ d ∷ e ∷ f ∷ g ∷ h ∷ []) l = omega arith
eight [] l = absurd (omega arith)
eight (a ∷ []) l = absurd (omega arith)
eight (a ∷ b ∷ []) l = absurd (omega arith)
eight (a ∷ b ∷ c ∷ []) l = absurd (omega arith)
eight (a ∷ b ∷ c ∷ d ∷ []) l = absurd (omega arith)
eight (a ∷ b ∷ c ∷ d ∷ e ∷ []) l = absurd (omega arith)
eight (a ∷ b ∷ c ∷ d ∷ e ∷ f ∷ []) l = absurd (omega arith)
eight (a ∷ b ∷ c ∷ d ∷ e ∷ f ∷ g ∷ []) l = absurd (omega arith)
eight (a ∷ b ∷ c ∷ d ∷ e ∷ f ∷ g ∷ h ∷ x ∷ s) l = absurd (omega arith)

pub name_number : (s : List ℕ) → length s ≡ 8 → from_be_bytes w64 s ≡ number_of 8 0 s
name_number s h = sym (eight s h)
