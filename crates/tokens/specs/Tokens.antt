-- The tokens of a description file, over the bytes that are left.
use Rattle.std.specs.Prelude.{List, [], ◌∷◌, Bool, ◌&&◌, ℕ, zero, suc, ◌+◌, ◌*◌, ◌-◌, leb, eqb}
use Rattle.names.specs.If.{if}
use Rattle.names.specs.Names.{name_number}
use Rattle.tokens.specs.declared.Label.{Label}
use Rattle.tokens.specs.declared.Label.TheVariants.{Mark, Take, Send, Other}
use Rattle.tokens.specs.Parse.{Got, got, off, Nothing, nothing, ◌>>=◌, ◌>>◌}

-- any number of spaces, passed over
unfoldable pub spaces : List ℕ → List ℕ
spaces [] = []
spaces (c ∷ s) = if (eqb c 32) (spaces s) (c ∷ s)

-- the byte b
unfoldable pub byte : ℕ → List ℕ → Got Nothing
byte b [] = off
byte b (c ∷ s) = if (eqb c b) (got nothing s) off

abbrev pub is_digit : ℕ → Bool
is_digit c = leb 48 c && leb c 57

-- up to k digits more, after a number's beginning v
unfoldable pub digits : ℕ → ℕ → List ℕ → Got ℕ
digits zero v s = got v s
digits (suc k) v [] = got v []
digits (suc k) v (c ∷ s) = if (is_digit c) (digits k (v * 10 + (c - 48)) s) (got v (c ∷ s))

-- a number: 0, or one to five digits not beginning with 0
unfoldable pub number : List ℕ → Got ℕ
number [] = off
number (c ∷ s) = if (eqb c 48) (got 0 s) (if (is_digit c) (digits 4 (c - 48) s) off)

-- the bytes w, one after the other
unfoldable pub word : List ℕ → List ℕ → Got Nothing
word [] = got nothing
word (c ∷ w) = byte c >> word w

-- b comes first, c then
abbrev pub prepend : ℕ → Got (List ℕ) → Got (List ℕ)
prepend c (got b s) = got (c ∷ b) s
prepend c off = off

-- bytes, none of them a quote or LF, up to a quote
unfoldable pub text : List ℕ → Got (List ℕ)
text [] = off
text (c ∷ s) = if (eqb c 34) (got [] s) (if (eqb c 10) off (prepend c (text s)))

abbrev pub some : List ℕ → List ℕ → Got (List ℕ)
some [] s = off
some (c ∷ b) s = got (c ∷ b) s

-- a quoted label: one or more bytes, none of them a quote or LF
unfoldable pub quoted : List ℕ → Got (List ℕ)
quoted = byte 34 >> text >>= some

abbrev pub taken : ℕ → Label
taken n = if (eqb n 0) Other (Take n)

abbrev pub sent : ℕ → Label
sent n = if (eqb n 0) Other (Send n)

abbrev pub marked : Got Nothing → Label
marked (got _ []) = Mark
marked (got _ (c ∷ s)) = Other
marked off = Other

-- ?name, !name, ckp, or another
unfoldable pub label : List ℕ → Label
label [] = Other
label (c ∷ s) =
    if (eqb c 63) (taken (name_number s))
    (if (eqb c 33) (sent (name_number s))
    (marked (word (99 ∷ 107 ∷ 112 ∷ []) (c ∷ s))))

-- what a quoted label says
abbrev pub labelled : List ℕ → Got Label
labelled = quoted >>= (λ b. got (label b))
