-- The definition `label`, by the tests that the code makes.
use Rattle.std.proofs.Common.{◌≡◌, ◌≢◌, refl, sym, ap, ◌∙◌, List, [], ◌∷◌, ◌++◌, ℕ, Bool, true, false, ⊎_elim, eqb, length, arith}
use Rattle.std.specs.Prelude.{Option, Some, None}
use Rattle.names.specs.If.{if}
use Rattle.names.specs.Names.{name_number}
use Rattle.tokens.specs.declared.Label.{Label}
use Rattle.tokens.specs.declared.Label.TheVariants.{Mark, Take, Send, Other}
use Rattle.tokens.specs.Parse.{got, nothing}
use Rattle.tokens.specs.Tokens.{word, byte, marked, label}
use Rattle.tokens.proofs.Laws.{word-found_or_off}

abbrev pub ckp : List ℕ
ckp = 99 ∷ 107 ∷ 112 ∷ []

pub label-none : (s : List ℕ) → length s ≡ 0 → label s ≡ Other
unfolding label
label-none [] h = refl
label-none (c ∷ s) h = absurd (omega arith)

pub label-ckp : (s : List ℕ) → s ≡ ckp → label s ≡ Mark
unfolding label word byte
label-ckp s e = rw e

marked-more : (s t : List ℕ) → s ≢ ckp → s ≡ ckp ++ t → marked (got nothing t) ≡ Other
marked-more s [] h e = absurd (h e)
marked-more s (c ∷ t) h e = refl

-- the word `ckp` and more, or another beginning
marked-other : (s : List ℕ) → s ≢ ckp → marked (word ckp s) ≡ Other
marked-other s h =
    ⊎_elim (λ f. ap marked f.2 ∙ marked-more s f.0 h f.1) (λ e. ap marked e) (word-found_or_off ckp s)

-- what a sign and a name say: p and q tell which sign it is
abbrev pub spoken : Bool → Bool → Option ℕ → Label
spoken p q None = Other
spoken p q (Some n) = if p (Take n) (if q (Send n) Other)

-- as `label` says it, by the name's number
by_number : (p q b : Bool) (n : ℕ) → if p (if b Other (Take n)) (if q (if b Other (Send n)) Other) ≡ spoken p q (if b None (Some n))
by_number true q true n = refl
by_number true q false n = refl
by_number false true true n = refl
by_number false true false n = refl
by_number false false true n = refl
by_number false false false n = refl

-- by the first byte, and the name after it
pub label-sign : (s t : List ℕ) (c : ℕ) (o : Option ℕ) → s ≡ c ∷ t → o ≡ if (eqb (name_number t) 0) None (Some (name_number t)) → s ≢ ckp
    → label s ≡ spoken (eqb c 63) (eqb c 33) o
unfolding label
label-sign s t c o e f h =
    let w : marked (word ckp (c ∷ t)) ≡ Other = ap (λ (l : List ℕ). marked (word ckp l)) (sym e) ∙ marked-other s h in
    rw (e, f) (rw w (by_number (eqb c 63) (eqb c 33) (eqb (name_number t) 0) (name_number t)))
