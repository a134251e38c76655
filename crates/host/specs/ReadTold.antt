-- What a host takes from the answer to a refused read is the refusal of the file: its place is below 2^16.
use Rattle.std.specs.Prelude.{◌≡◌, refl, Result, Ok, Err, ⊤, Bool, true, false, ◌&&◌, List, [], ◌∷◌, ℕ, zero, suc, ◌+◌, ◌≤◌, ◌<◌, leb, ltb, eqb, length}
use Rattle.std.proofs.Common.{◌∙◌, ap, subst, arith, ltb-true, leb-true}
use Rattle.names.specs.If.{if}
use Rattle.tokens.specs.Parse.{Got, got, off}
use Rattle.tokens.specs.Lines.{line, head}
use Rattle.tokens.specs.declared.Line.{Line}
use Rattle.tokens.specs.declared.Head.{Head}
use Rattle.behaviour.specs.declared.Reason.{Reason}
use Rattle.behaviour.specs.declared.Reason.TheVariants as reason
use Rattle.behaviour.specs.declared.Behaviour.{Behaviour}
use Rattle.behaviour.specs.declared.Refusal.{Refusal}
use Rattle.behaviour.specs.Refusals.{row_number}
use Rattle.behaviour.specs.Limits.{most_states, most_lines, most_bytes}
use Rattle.names.specs.Tests.{both}
use Rattle.aut.specs.Adding.{bare, add, check}
use Rattle.aut.specs.File.{Read, refuse, accept, if_passed, marked_finished, finish, next, lines, begin, file}
use Rattle.host.specs.Numbers.{refused_number}
use Rattle.host.specs.Calls.{Reads}
use Rattle.host.specs.Parts.{refusal_in, value_in, refused-back}

abbrev Low : Read → Type 0
Low (Ok b) = Unit {0}
Low (Err f) = f.place < 65536

either : (t : Bool) (a b : Read) → (t ≡ true → Low a) → (t ≡ false → Low b) → Low (if t a b)
either true a b p q = p refl
either false a b p q = q refl

-- a state
low-finish : (b : Behaviour) → Low (finish b)
low-finish b =
    either (ltb (marked_finished 0 b.marks b.signs) most_states) (refuse reason.FinishedMarked (marked_finished 0 b.marks b.signs)) (accept b)
    (λ e. omega (arith, ltb-true (marked_finished 0 b.marks b.signs) most_states e)) (λ _. tt)

-- a line, of at most 96 after the first and one behind them
low-next : (p : ℕ) (b : Behaviour) (g : Got Line) (k : Behaviour → List ℕ → Read) → p < 65536 → ((b : Behaviour) (s : List ℕ) → Low (k b s)) → Low (next p b g k)
low-next p b off k l h = l
low-next p b (got n s) k l h = go (check b n)
  where
    go : (c : Result ⊤ Reason) → Low (if_passed p c (k (add b n) s))
    go (Ok _) = h (add b n) s
    go (Err x) = l

low-lines : (t p : ℕ) (b : Behaviour) (s : List ℕ) → p + t < 65536 → Low (lines t p b s)
unfolding lines
low-lines zero p b [] l = low-finish b
low-lines zero p b (c ∷ s) l = omega arith
low-lines (suc t) p b s l = low-next p b (line s) (lines t (p + 1)) (omega arith) (λ d r. low-lines t (p + 1) d r (omega arith))

low-begin : (g : Got Head) → Low (begin g)
low-begin off = omega arith
low-begin (got h s) =
    either (eqb h.start 0) _ _
    (λ _. either (leb 1 h.states && leb h.states most_states && leb h.lines most_lines) _ _
    (λ e. low-lines h.lines 2 (bare h.states) s (omega (arith, few e))) (λ _. omega arith))
    (λ _. omega arith)
  where
    few : (leb 1 h.states && leb h.states most_states && leb h.lines most_lines) ≡ true → h.lines ≤ most_lines
    few e = leb-true h.lines most_lines (both (leb 1 h.states && leb h.states most_states) (leb h.lines most_lines) e).1

low-file : (s : List ℕ) → Low (file s)
unfolding file
low-file s = either (leb (length s) most_bytes) (begin (head s)) (refuse reason.FileTooLong 0) (λ _. low-begin (head s)) (λ _. omega arith)

pub read_told : (text out : List ℕ) (r : ℕ) (left : List ℕ) → Reads text out r left → (f : Refusal) → file text ≡ Err f
    → (refusal_in r ≡ row_number f.reason) × (value_in r ≡ f.place)
read_told text out r left a f n =
    let e : r ≡ refused_number f = a.says ∙ rw n in
    let b = refused-back f (subst Low n (low-file text)) in
    (ap refusal_in e ∙ b.0, ap value_in e ∙ b.1)
