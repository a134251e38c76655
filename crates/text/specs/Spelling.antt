-- How the AUT writers spell numbers, labels and lines: "no space but the one after `des`".
use Rattle.std.specs.Prelude.{List, [], ◌∷◌, ◌++◌, ℕ, zero, suc, ◌+◌, ◌*◌, ◌/◌, ◌%◌, eqb, ltb}
use Rattle.names.specs.If.{if}
use Rattle.names.specs.Names.{text_of}
use Rattle.tokens.specs.declared.Label.{Label}
use Rattle.tokens.specs.declared.Label.TheVariants.{Mark, Take, Send, Other}
use Rattle.tokens.specs.declared.Line.{Line}

-- n in decimal, with at most k digits before its last
unfoldable pub decimal_of : ℕ → ℕ → List ℕ
decimal_of zero n = (48 + n) ∷ []
decimal_of (suc k) n = if (ltb n 10) ((48 + n) ∷ []) (decimal_of k (n / 10) ++ ((48 + n % 10) ∷ []))

-- what has at most k digits before its last is below this
unfoldable pub tens : ℕ → ℕ
tens zero = 10
tens (suc k) = tens k * 10

-- "A number is 0, or one to five digits not beginning with 0"
abbrev pub decimal : ℕ → List ℕ
decimal = decimal_of 4

-- the fixed strings `des` and `ckp`
abbrev pub des : List ℕ
des = 100 ∷ 101 ∷ 115 ∷ []

abbrev pub ckp : List ℕ
ckp = 99 ∷ 107 ∷ 112 ∷ []

-- "`?name` (takes a message), `!name` (sends one), `ckp` (the state is marked)"
abbrev pub label_text : Label → List ℕ
label_text Mark = ckp
label_text (Take n) = 63 ∷ text_of n
label_text (Send n) = 33 ∷ text_of n
label_text Other = []

-- a message at a state that takes (sign 1) or sends (sign 2)
abbrev pub message_label : ℕ → ℕ → Label
message_label g n = if (eqb g 1) (Take n) (Send n)

-- `(F,"`
unfoldable pub opening : ℕ → List ℕ
opening f = 40 ∷ decimal f ++ (44 ∷ 34 ∷ [])

-- `",G)` and LF
unfoldable pub closing : ℕ → List ℕ
closing g = 34 ∷ 44 ∷ decimal g ++ (41 ∷ 10 ∷ [])

-- "`(F,"L",G)`, each ended by LF"
unfoldable pub line_text : Line → List ℕ
line_text l = opening l.from ++ (label_text l.label ++ closing l.to)

-- "A line `des (0,T,S)`"
unfoldable pub head_text : ℕ → ℕ → List ℕ
head_text t s = des ++ (32 ∷ 40 ∷ 48 ∷ 44 ∷ decimal t ++ (44 ∷ decimal s ++ (41 ∷ 10 ∷ [])))
