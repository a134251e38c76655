-- The bytes of a name's number, zeros among them, and those of its text.
use Rattle.std.specs.Prelude.{not, eqb, cond, filter}
use Rattle.std.specs.Int.{byte_at, bytes_high_first}
use Rattle.std.proofs.Common.{◌≡◌, refl, sym, ap, ◌∙◌, List, [], ◌∷◌, ◌++◌, ℕ, zero, suc, ◌+◌, ◌/◌, ◌%◌, ◌^◌, ◌<◌, Bool, true, false, get_or, take, length, eq-eqb, ne_eqb}
use Rattle.std.proofs.Math.Nat.{div-div-eq-div-mul, pow-succ'}
use Rattle.std.proofs.lemmas.List.{append-nil}
use Rattle.std.proofs.lemmas.List.Elements.{filter-append}
use native.Mathlib.Numerals.{add-one}
use lib.Seq.{take-suc}
use Rattle.names.specs.If.{if}
use Rattle.names.specs.Names.{name_text}

-- those that are not zero
abbrev pub kept : List ℕ → List ℕ
kept w = filter (λ c. not (eqb c 0)) w

byte-above : (k n : ℕ) → byte_at (suc k) n ≡ byte_at k (n / 256)
byte-above zero n = refl
byte-above (suc k) n = rw (pow-succ' 256 (suc k), div-div-eq-div-mul n 256 (256 ^ suc k)) refl

-- the lowest of k + 1 bytes is the last
high-last : (k n : ℕ) → bytes_high_first (suc k) n ≡ bytes_high_first k (n / 256) ++ ((n % 256) ∷ [])
high-last zero n = refl
high-last (suc k) n = ap (λ (x : ℕ). x ∷ bytes_high_first (suc k) n) (byte-above k n) ∙ ap (λ (x : List ℕ). byte_at k (n / 256) ∷ x) (high-last k n)

kept-last : (w : List ℕ) (c : ℕ) → kept (w ++ (c ∷ [])) ≡ kept w ++ kept (c ∷ [])
kept-last w c = filter-append (λ (x : ℕ). not (eqb x 0)) w (c ∷ [])

-- the text of the number n is its bytes that are not zero
pub name-kept : (k n : ℕ) → name_text k n ≡ kept (bytes_high_first k n)
unfolding name_text
name-kept zero n = refl
name-kept (suc k) n = go (eqb (n % 256) 0) ∙ ap (λ (x : List ℕ). x ++ kept ((n % 256) ∷ [])) (name-kept k (n / 256)) ∙ sym (kept-last (bytes_high_first k (n / 256)) (n % 256)) ∙ sym (ap kept (high-last k n))
  where
    go : (t : Bool) → if t (name_text k (n / 256)) (name_text k (n / 256) ++ ((n % 256) ∷ [])) ≡ name_text k (n / 256) ++ cond (not t) ((n % 256) ∷ []) []
    go true = sym (append-nil (name_text k (n / 256)))
    go false = refl

-- one byte more of w
module _ (w : List ℕ) (j : ℕ) (h : j < length w) where
  kept-more : kept (take (j + 1) w) ≡ kept (take j w) ++ kept (get_or w j 0 ∷ [])
  kept-more = rw (add-one j, take-suc w j 0 h) (kept-last (take j w) (get_or w j 0))

  pub kept-byte : (get_or w j 0 ≡ 0 → ⊥) → kept (take j w) ++ (get_or w j 0 ∷ []) ≡ kept (take (j + 1) w)
  kept-byte z = sym (rw (ne_eqb (get_or w j 0) 0 z) at kept-more)

  pub kept-zero : get_or w j 0 ≡ 0 → kept (take j w) ≡ kept (take (j + 1) w)
  kept-zero z = sym (append-nil (kept (take j w))) ∙ sym (rw (eq-eqb (get_or w j 0) 0 z) at kept-more)
