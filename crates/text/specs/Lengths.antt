-- How long numbers, names, labels and lines are at most.
use Rattle.std.specs.Prelude.{List, [], ◌∷◌, ◌++◌, Bool, true, false, ℕ, zero, suc, ◌+◌, ◌/◌, ◌%◌, ◌≤◌, eqb, ltb, length}
use Rattle.std.proofs.Common.{arith, length-append}
use Rattle.names.specs.If.{if}
use Rattle.names.specs.Names.{name_bytes, name_text}
use Rattle.tokens.specs.declared.Label.{Label}
use Rattle.tokens.specs.declared.Label.TheVariants.{Mark, Take, Send, Other}
use Rattle.tokens.specs.declared.Line.{Line}
use Rattle.text.specs.Spelling.{decimal_of, label_text, opening, closing, line_text, head_text}

pub decimal-length : (k n : ℕ) → length (decimal_of k n) ≤ k + 1
unfolding decimal_of
decimal-length zero n = omega arith
decimal-length (suc k) n = go (ltb n 10) (decimal-length k (n / 10))
  where
    go : (t : Bool) → length (decimal_of k (n / 10)) ≤ k + 1 → length (if t ((48 + n) ∷ []) (decimal_of k (n / 10) ++ ((48 + n % 10) ∷ []))) ≤ suc k + 1
    go true h = omega arith
    go false h = rw length-append (omega arith)

pub name-length : (k n : ℕ) → length (name_text k n) ≤ k
unfolding name_text
name-length zero n = omega arith
name-length (suc k) n = go (eqb (n % 256) 0) (name-length k (n / 256))
  where
    go : (t : Bool) → length (name_text k (n / 256)) ≤ k → length (if t (name_text k (n / 256)) (name_text k (n / 256) ++ ((n % 256) ∷ []))) ≤ suc k
    go true h = omega arith
    go false h = rw length-append (omega arith)

pub label-length : (l : Label) → length (label_text l) ≤ 9
label-length Mark = omega arith
label-length (Take n) = omega (arith, name-length name_bytes n)
label-length (Send n) = omega (arith, name-length name_bytes n)
label-length Other = omega arith

-- a line from f to g with the label w
pub labelled-length : (f : ℕ) (w : List ℕ) (g : ℕ) → length (opening f ++ (w ++ closing g)) ≤ length w + 17
unfolding opening closing
labelled-length f w g = let x = decimal-length 4 f in let y = decimal-length 4 g in simp length-append (omega arith)

pub line-length : (l : Line) → length (line_text l) ≤ 26
unfolding line_text
line-length l = omega (arith, labelled-length l.from (label_text l.label) l.to, label-length l.label)

pub head-length : (t s : ℕ) → length (head_text t s) ≤ 20
unfolding head_text
head-length t s = let f = decimal-length 4 t in let g = decimal-length 4 s in simp length-append (omega arith)
