-- Two answers that the promise of `read_line`, or of `read_head`, allows for the same bytes are the same answer.
use Rattle.std.specs.Prelude.{◌≡◌, List, ℕ, Option, Some, None}
use Rattle.std.proofs.Common.{sym, ◌∙◌, arith}
use denote.Bor.{Bor}
use Rattle.tokens.specs.Parse.{Got, got, off, Gives}
use Rattle.tokens.specs.Lines.{line, head}
use Rattle.tokens.specs.declared.Line.{Line}
use Rattle.tokens.specs.declared.Head.{Head}

pub off-not-got : {A : Type 0} {a : A} {s : List ℕ} → off ≡ got a s → ⊥
off-not-got e = let z : ◌≡◌ {A = ℕ} 0 1 = cc in omega arith

-- both are None, or they have the same value and the same bytes left
abbrev pub Same : {A : Type 0} → Option (A × Bor (List ℕ)) → Option (A × Bor (List ℕ)) → Type 0
Same None None = Unit {0}
Same None (Some q) = ⊥
Same (Some r) None = ⊥
Same (Some r) (Some q) = (r.0 ≡ q.0) × (r.1.now ≡ q.1.now)

one_reading : {A : Type 0} (g : Got A) (a b : Option (A × Bor (List ℕ))) → Gives a g → Gives b g → Same a b
one_reading g None None p q = tt
one_reading g None (Some y) p q = off-not-got (sym p ∙ q)
one_reading g (Some x) None p q = off-not-got (sym q ∙ p)
one_reading g (Some x) (Some y) p q = let e : got x.0 x.1.now ≡ got y.0 y.1.now = sym p ∙ q in (cc, cc)

pub one_line : (s : List ℕ) (a b : Option (Line × Bor (List ℕ))) → Gives a (line s) → Gives b (line s) → Same a b
one_line s = one_reading (line s)

pub one_head : (s : List ℕ) (a b : Option (Head × Bor (List ℕ))) → Gives a (head s) → Gives b (head s) → Same a b
one_head s = one_reading (head s)
