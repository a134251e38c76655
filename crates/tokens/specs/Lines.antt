-- The two kinds of line. Any number of spaces may stand before each token but a line's first.
use Rattle.std.specs.Prelude.{List, [], ◌∷◌, ℕ}
use Rattle.tokens.specs.declared.Line.{Line}
use Rattle.tokens.specs.declared.Head.{Head}
use Rattle.tokens.specs.Parse.{Got, got, Nothing, ◌>>=◌, ◌>>◌}
use Rattle.tokens.specs.Tokens.{spaces, byte, number, word, labelled}

abbrev pub spaced : {A : Type 0} → (List ℕ → Got A) → List ℕ → Got A
spaced p s = p (spaces s)

-- the byte b and then p
abbrev pub after : {A : Type 0} → ℕ → (List ℕ → Got A) → List ℕ → Got A
after b p = spaced (byte b) >> spaced p

-- `)` and LF
abbrev pub ending : List ℕ → Got Nothing
ending = after 41 (byte 10)

-- (F,"L",G) and LF
unfoldable pub line : List ℕ → Got Line
line = do
  byte 40
  f ← spaced number
  l ← after 44 labelled
  g ← after 44 number
  ending
  got (record { from = f; label = l; to = g })

-- des (Z,T,S) and LF
unfoldable pub head : List ℕ → Got Head
head = do
  word (100 ∷ 101 ∷ 115 ∷ [])
  z ← after 40 number
  t ← after 44 number
  n ← after 44 number
  ending
  got (record { start = z; lines = t; states = n })
