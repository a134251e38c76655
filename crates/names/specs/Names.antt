-- What a name is, and the number that stands for it.
use Rattle.std.specs.Prelude.{List, [], ◌∷◌, ◌++◌, Bool, false, ◌&&◌, ◌||◌, ℕ, zero, suc, ◌+◌, ◌*◌, ◌/◌, ◌%◌, leb, eqb}
use Rattle.names.specs.If.{if}

-- "A name is 1 to 8 bytes"
abbrev pub name_bytes : ℕ
name_bytes = 8

-- "of a–z and 0–9"
abbrev pub is_name_byte : ℕ → Bool
is_name_byte c = (leb 97 c && leb c 122) || (leb 48 c && leb c 57)

-- up to k bytes more of a name, after its beginning v: one number, the first byte highest, zeros behind; 0 if they are no name
unfoldable pub name : ℕ → ℕ → List ℕ → ℕ
name zero v [] = v
name zero v (c ∷ s) = 0
name (suc k) v [] = name k (v * 256) []
name (suc k) v (c ∷ s) = if (is_name_byte c) (name k (v * 256 + c) s) 0

-- the number of a name; 0 if the bytes are no name
abbrev pub name_number : List ℕ → ℕ
name_number = name name_bytes 0

-- n is made of k bytes of a name
unfoldable pub full : ℕ → ℕ → Bool
full zero n = eqb n 0
full (suc k) n = is_name_byte (n % 256) && full k (n / 256)

-- n is made of 1 to k bytes of a name, zeros behind
unfoldable pub padded : ℕ → ℕ → Bool
padded zero n = false
padded (suc k) n = if (eqb (n % 256) 0) (padded k (n / 256)) (full (suc k) n)

-- n is the number of a name
abbrev pub is_name : ℕ → Bool
is_name = padded name_bytes

-- the bytes of a name of at most k bytes
unfoldable pub name_text : ℕ → ℕ → List ℕ
name_text zero n = []
name_text (suc k) n = if (eqb (n % 256) 0) (name_text k (n / 256)) (name_text k (n / 256) ++ ((n % 256) ∷ []))

-- the bytes of the name that has the number n
abbrev pub text_of : ℕ → List ℕ
text_of = name_text name_bytes
