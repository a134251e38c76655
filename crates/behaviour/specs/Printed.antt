-- What `{}` writes of a refusal; and that a text written twice is one text.
use Rattle.std.specs.Prelude.{◌≡◌, List, ◌++◌, ℕ, codes, decimal}
use Rattle.std.specs.Fmt.{WritesInCalls}
use Rattle.std.proofs.lemmas.Fmt.{contents_after_writes}
use Rattle.names.specs.OneAnswer.{one_answer}
use Rattle.behaviour.specs.declared.Refusal.{Refusal}
use Rattle.behaviour.specs.Refusals.{row_number}

-- its number, a space and its place, both in decimal
abbrev pub refusal_text : Refusal → List ℕ
refusal_text f = decimal (row_number f.reason) ++ (codes " " ++ decimal f.place)

-- a writer that keeps what it takes holds the same bytes, however a text is written to it
pub printed_once : {W : Type 0} (took : W → List ℕ → W → Type 0) (kept : W → List ℕ) → ((w : W) (bs : List ℕ) (v : W) → took w bs v → kept v ≡ kept w ++ bs)
    → (w : W) (text : List ℕ) (u v : W) → WritesInCalls took w text u → WritesInCalls took w text v → kept u ≡ kept v
printed_once took kept appends w text u v p q =
    one_answer (contents_after_writes took kept appends w text u p) (contents_after_writes took kept appends w text v q)
