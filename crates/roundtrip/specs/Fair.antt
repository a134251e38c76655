-- A label that is read is allowed, or is none of the three.
use Rattle.std.specs.Prelude.{◌≡◌, List, [], ◌∷◌, Bool, true, false, ◌⊎◌, ℕ, eqb}
use Rattle.std.proofs.Common.{inl, inr, eq-eqb}
use Rattle.names.specs.If.{if}
use Rattle.names.specs.Names.{name_number, is_name}
use Rattle.names.specs.Laws.{zero_or_name}
use Rattle.tokens.specs.Parse.{Got, got, off, and_then, Nothing}
use Rattle.tokens.specs.Tokens.{spaces, byte, number, quoted, labelled, label, taken, sent, marked, word}
use Rattle.tokens.specs.Lines.{line, after, ending}
use Rattle.tokens.specs.declared.Label.{Label}
use Rattle.tokens.specs.declared.Label.TheVariants.{Mark, Take, Send, Other}
use Rattle.tokens.specs.declared.Line.{Line}

-- allowed, or none of the three
abbrev pub LabelFair : Label → Type 0
LabelFair Mark = Unit {0}
LabelFair (Take n) = is_name n ≡ true
LabelFair (Send n) = is_name n ≡ true
LabelFair Other = Unit {0}

signed-fair : (n : ℕ) → (n ≡ 0) ⊎ (is_name n ≡ true) → LabelFair (taken n) × LabelFair (sent n)
signed-fair n (inl z) = rw (eq-eqb n 0 z) (tt, tt)
signed-fair n (inr h) = go (eqb n 0)
  where
    go : (t : Bool) → LabelFair (if t Other (Take n)) × LabelFair (if t Other (Send n))
    go true = (tt, tt)
    go false = (h, h)

marked-fair : (g : Got Nothing) → LabelFair (marked g)
marked-fair (got x []) = tt
marked-fair (got x (c ∷ s)) = tt
marked-fair off = tt

label-fair : (b : List ℕ) → LabelFair (label b)
unfolding label
label-fair [] = tt
label-fair (c ∷ s) = go (eqb c 63) (eqb c 33) (signed-fair (name_number s) (zero_or_name s)) (marked-fair (word (99 ∷ 107 ∷ 112 ∷ []) (c ∷ s)))
  where
    go : (t u : Bool) → LabelFair (taken (name_number s)) × LabelFair (sent (name_number s)) → LabelFair (marked (word (99 ∷ 107 ∷ 112 ∷ []) (c ∷ s)))
        → LabelFair (if t (taken (name_number s)) (if u (sent (name_number s)) (marked (word (99 ∷ 107 ∷ 112 ∷ []) (c ∷ s)))))
    go true u h m = h.0
    go false true h m = h.1
    go false false h m = m

-- what holds of the value that was read
abbrev pub All : {A : Type 0} → (A → Type 0) → Got A → Type 0
All P (got a s) = P a
All P off = Unit {0}

any : {A : Type 0} (m : Got A) → All (λ _. Unit {0}) m
any (got a s) = tt
any off = tt

all_then : {A B : Type 0} (P : A → Type 0) (Q : B → Type 0) (m : Got A) (f : A → List ℕ → Got B) → All P m → ((a : A) (s : List ℕ) → P a → All Q (f a s)) → All Q (and_then m f)
all_then P Q (got a s) f h k = k a s h
all_then P Q off f h k = tt

labelled-fair : (s : List ℕ) → All LabelFair (labelled s)
labelled-fair s = all_then (λ _. Unit {0}) LabelFair (quoted s) (λ b. got (label b)) (any (quoted s)) (λ b r _. label-fair b)

pub line-fair : (s : List ℕ) → All (λ (l : Line). LabelFair l.label) (line s)
unfolding line
line-fair s =
    all_then (λ _. Unit {0}) _ (byte 40 s) _ (any (byte 40 s)) (λ _ a _.
    all_then (λ _. Unit {0}) _ (number (spaces a)) _ (any (number (spaces a))) (λ f b _.
    all_then LabelFair _ (after 44 labelled b) _ (after-fair b) (λ l c h.
    all_then (λ _. Unit {0}) _ (after 44 number c) _ (any (after 44 number c)) (λ g d _.
    all_then (λ _. Unit {0}) _ (ending d) _ (any (ending d)) (λ _ e _. h)))))
  where
    after-fair : (b : List ℕ) → All LabelFair (after 44 labelled b)
    after-fair b = all_then (λ _. Unit {0}) LabelFair (byte 44 (spaces b)) _ (any (byte 44 (spaces b))) (λ _ c _. labelled-fair (spaces c))
