-- Names as lists of bytes, and their byte order.
use Rattle.std.specs.Prelude.{◌≡◌, List, [], ◌∷◌, Bool, true, false, ◌&&◌, ◌||◌, ℕ, ◌≤◌, ltb, eqb, length}
use Rattle.names.specs.Names.{name_bytes, is_name_byte}

unfoldable pub all_name_bytes : List ℕ → Bool
all_name_bytes [] = true
all_name_bytes (c ∷ s) = is_name_byte c && all_name_bytes s

-- "A name is 1 to 8 bytes of a–z and 0–9"
pub record Name (s : List ℕ) : Type 0 where
  pub spelt : all_name_bytes s ≡ true
  pub some : 1 ≤ length s
  pub short : length s ≤ name_bytes

-- "in byte order (a shorter name before a longer one that begins with it)": s comes before t
unfoldable pub in_byte_order : List ℕ → List ℕ → Bool
in_byte_order s [] = false
in_byte_order [] (d ∷ t) = true
in_byte_order (c ∷ s) (d ∷ t) = ltb c d || (eqb c d && in_byte_order s t)
