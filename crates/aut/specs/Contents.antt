-- What stands in a file: its first line and its lines, each as it is read. The refusals 5 to 11 of a file are those of its lines.
use Rattle.std.specs.Prelude.{◌≡◌, IsOk, Result, Ok, Err, ⊤, Bool, true, false, ◌&&◌, ℕ, zero, suc, ◌+◌, ◌≤◌, eqb, leb, length}
use Rattle.std.proofs.Math.Path.{refl}
use Rattle.std.proofs.Common.{ap, ◌∙◌, eqb-true, eq-eqb, le-leb, leb-true}
use mathlib.Core.List.{List, [], ◌∷◌}
use Rattle.std.proofs.lemmas.Bool.{false≢true}
use Rattle.names.specs.If.{if}
use Rattle.tokens.specs.Parse.{Got, got, off, and_then, ◌>>=◌}
use Rattle.tokens.specs.OneAnswer.{off-not-got}
use Rattle.tokens.specs.Lines.{line, head}
use Rattle.tokens.specs.declared.Line.{Line}
use Rattle.tokens.specs.declared.Head.{Head}
use Rattle.behaviour.specs.declared.Reason.TheVariants as reason
use Rattle.behaviour.specs.declared.Reason.{Reason}
use Rattle.behaviour.specs.declared.Behaviour.{Behaviour}
use Rattle.behaviour.specs.Limits.{most_states, most_lines, most_bytes}
use Rattle.aut.specs.Adding.{bare, add, check}
use Rattle.aut.specs.File.{Read, value_of, accept, refuse, if_passed, finish, next, lines, begin, file}

-- the file is taken
abbrev pub Accepted : Read → Type 0
Accepted r = IsOk r

pub accepted-value : (r : Read) → Accepted r → r ≡ accept (value_of r)
accepted-value (Ok b) a = refl
accepted-value (Err f) a = absurd (false≢true a)

-- t lines one after the other, whatever they say
unfoldable pub lines_read : ℕ → List ℕ → Got (List Line)
lines_read zero = got []
lines_read (suc t) = do
  l ← line
  ls ← lines_read t
  got (l ∷ ls)

-- the file s has this first line and these lines, and nothing after
pub record Contents (s : List ℕ) : Type 0 where
  pub first : Head
  pub others : List Line
  pub rest : List ℕ
  pub first_read : head s ≡ got first rest
  pub others-read : lines_read first.lines rest ≡ got others []

-- "line by line, on each line 5 to 10 in order .. then 11", over lines that are read
unfoldable pub judged : ℕ → Behaviour → List Line → Read
judged p b [] = finish b
judged p b (l ∷ ls) = if_passed p (check b l) (judged (p + 1) (add b l) ls)

-- no line is refused
abbrev pub AllTaken : Behaviour → List Line → Type 0
AllTaken b [] = Unit {0}
AllTaken b (l ∷ ls) = (check b l ≡ Ok tt) × AllTaken (add b l) ls

-- the value with all the lines in it
unfoldable pub add_all : Behaviour → List Line → Behaviour
add_all b [] = b
add_all b (l ∷ ls) = add_all (add b l) ls

-- the file's definition reads and judges a line at a time; reading all the lines first comes to the same
module _ (p : ℕ) (b : Behaviour) (t : ℕ) (again : (c : Behaviour) (r : List ℕ) (ms : List Line) → lines_read t r ≡ got ms [] → lines t (p + 1) c r ≡ judged (p + 1) c ms) where
  judged-step : (g : Got Line) (ls : List Line)
      → and_then g (λ l r. and_then (lines_read t r) (λ ms. got (l ∷ ms))) ≡ got ls [] → next p b g (lines t (p + 1)) ≡ judged p b ls
  unfolding judged
  judged-step off ls e = absurd (off-not-got e)
  judged-step (got l r) ls e = go (lines_read t r) ls refl e
    where
      go : (h : Got (List Line)) (ks : List Line) → lines_read t r ≡ h → and_then h (λ ms. got (l ∷ ms)) ≡ got ks []
          → if_passed p (check b l) (lines t (p + 1) (add b l) r) ≡ judged p b ks
      go off ks f i = absurd (off-not-got i)
      go (got ms u) ks f i =
          let x : ks ≡ l ∷ ms = cc in
          let y : lines_read t r ≡ got ms [] = cc in
          rw (x, again (add b l) r ms y)

nothing_left : (s : List ℕ) (ls : List Line) → got [] s ≡ got ls [] → (s ≡ []) × (ls ≡ [])
nothing_left s ls e = (cc, cc)

pub lines-judged : (t p : ℕ) (b : Behaviour) (s : List ℕ) (ls : List Line) → lines_read t s ≡ got ls [] → lines t p b s ≡ judged p b ls
unfolding lines_read lines judged
lines-judged zero p b s ls e = let n = nothing_left s ls e in rw (n.0, n.1)
lines-judged (suc t) p b s ls e = judged-step p b t (λ c r ms h. lines-judged t (p + 1) c r ms h) (line s) ls e

-- lines that are taken are judged by what they add
pub taken-judged : (p : ℕ) (b : Behaviour) (ls : List Line) → AllTaken b ls → judged p b ls ≡ finish (add_all b ls)
unfolding judged add_all
taken-judged p b [] a = refl
taken-judged p b (l ∷ ls) a = rw a.0 (taken-judged (p + 1) (add b l) ls a.1)

pub judged-taken : (p : ℕ) (b : Behaviour) (ls : List Line) → Accepted (judged p b ls) → AllTaken b ls
unfolding judged
judged-taken p b [] a = tt
judged-taken p b (l ∷ ls) a = go (check b l) refl (λ h. judged-taken (p + 1) (add b l) ls h) a
  where
    go : (k : Result ⊤ Reason) → check b l ≡ k → (Accepted (judged (p + 1) (add b l) ls) → AllTaken (add b l) ls)
        → Accepted (if_passed p k (judged (p + 1) (add b l) ls)) → (check b l ≡ Ok tt) × AllTaken (add b l) ls
    go (Ok _) e i h = (e, i h)
    go (Err k) e i h = absurd (false≢true h)

-- the first line of an accepted file meets none of 2 to 4
pub record Ranges (h : Head) : Type 0 where
  pub start-zero : h.start ≡ 0
  pub some_states : 1 ≤ h.states
  pub few_states : h.states ≤ most_states
  pub few-lines : h.lines ≤ most_lines

pub begin_ranges : (h : Head) (r : List ℕ) → Accepted (begin (got h r)) → Ranges h
begin_ranges h r a = go (eqb h.start 0) (leb 1 h.states) (leb h.states most_states) (leb h.lines most_lines) refl refl refl refl a
  where
    go : (s t u v : Bool) → eqb h.start 0 ≡ s → leb 1 h.states ≡ t → leb h.states most_states ≡ u → leb h.lines most_lines ≡ v
        → Accepted (if s (if (t && u && v) (lines h.lines 2 (bare h.states) r) (refuse reason.SizeOutsideRange 1)) (refuse reason.StartNotZero 1)) → Ranges h
    go true true true true p q x y z =
        record { start-zero = eqb-true h.start 0 p; some_states = leb-true 1 h.states q; few_states = leb-true h.states most_states x; few-lines = leb-true h.lines most_lines y }
    go true true true false p q x y z = absurd (false≢true z)
    go true true false v p q x y z = absurd (false≢true z)
    go true false u v p q x y z = absurd (false≢true z)
    go false t u v p q x y z = absurd (false≢true z)

pub begin-lines : (h : Head) (r : List ℕ) → Ranges h → begin (got h r) ≡ lines h.lines 2 (bare h.states) r
begin-lines h r a =
    rw (eq-eqb h.start 0 a.start-zero, le-leb 1 h.states a.some_states, le-leb h.states most_states a.few_states, le-leb h.lines most_lines a.few-lines)

pub file-short : (s : List ℕ) → Accepted (file s) → length s ≤ most_bytes
unfolding file
file-short s a = go (leb (length s) most_bytes) refl a
  where
    go : (t : Bool) → leb (length s) most_bytes ≡ t → Accepted (if t (begin (head s)) (refuse reason.FileTooLong 0)) → length s ≤ most_bytes
    go true e h = leb-true (length s) most_bytes e
    go false e h = absurd (false≢true h)

module _ (s : List ℕ) (c : Contents s) where
  opened : length s ≤ most_bytes → file s ≡ begin (got c.first c.rest)
  unfolding file
  opened h = rw (le-leb (length s) most_bytes h, c.first_read)

  pub accepted_ranges : Accepted (file s) → Ranges c.first
  accepted_ranges a = begin_ranges c.first c.rest (rw (opened (file-short s a)) at a)

  pub file-judged : length s ≤ most_bytes → Ranges c.first → file s ≡ judged 2 (bare c.first.states) c.others
  file-judged h r =
      opened h ∙ begin-lines c.first c.rest r ∙ lines-judged c.first.lines 2 (bare c.first.states) c.rest c.others c.others-read

-- T lines are T lines
module _ (t : ℕ) (again : (r : List ℕ) (ms : List Line) (u : List ℕ) → lines_read t r ≡ got ms u → length ms ≡ t) where
  count-step : (g : Got Line) (ls : List Line) (u : List ℕ)
      → and_then g (λ l r. and_then (lines_read t r) (λ ms. got (l ∷ ms))) ≡ got ls u → length ls ≡ suc t
  count-step off ls u e = absurd (off-not-got e)
  count-step (got l r) ls u e = go (lines_read t r) refl e
    where
      go : (h : Got (List Line)) → lines_read t r ≡ h → and_then h (λ ms. got (l ∷ ms)) ≡ got ls u → length ls ≡ suc t
      go off f i = absurd (off-not-got i)
      go (got ms v) f i = let x : ls ≡ l ∷ ms = cc in rw x (ap suc (again r ms v f))

lines-count : (t : ℕ) (s : List ℕ) (ls : List Line) (u : List ℕ) → lines_read t s ≡ got ls u → length ls ≡ t
unfolding lines_read
lines-count zero s ls u e = let x : ls ≡ [] = cc in rw x
lines-count (suc t) s ls u e = count-step t (λ r ms v h. lines-count t r ms v h) (line s) ls u e

pub as_many : (s : List ℕ) (c : Contents s) → length c.others ≡ c.first.lines
as_many s c = lines-count c.first.lines c.rest c.others [] c.others-read
