-- Every file is taken, or refused by a number of the table with a value of zero states.
use Rattle.std.specs.Prelude.{◌≡◌, refl, Result, Ok, Err, ⊤, Bool, true, false, ◌&&◌, List, [], ◌∷◌, ℕ, zero, suc, ◌+◌, ◌≤◌, leb, ltb, eqb, length, get_or}
use Rattle.std.proofs.Common.{arith, ltb-true, leb-true}
use Rattle.names.specs.If.{if}
use Rattle.names.specs.Tests.{both}
use Rattle.tokens.specs.Parse.{Got, got, off}
use Rattle.tokens.specs.Lines.{line, head}
use Rattle.tokens.specs.declared.Label.{Label}
use Rattle.tokens.specs.declared.Label.TheVariants.{Mark, Take, Send, Other}
use Rattle.tokens.specs.declared.Line as tokens
use Rattle.tokens.specs.declared.Head.{Head}
use Rattle.behaviour.specs.declared.Reason.{Reason}
use Rattle.behaviour.specs.declared.Reason.TheVariants as reason
use Rattle.behaviour.specs.declared.Behaviour.{Behaviour}
use Rattle.behaviour.specs.Limits.{most_states, most_lines, most_bytes}
use Rattle.behaviour.specs.Refusals.{row_number}
use Rattle.behaviour.specs.Sound.{messages}
use Rattle.aut.specs.Adding.{bare, add, has, check, check_label}
use Rattle.aut.specs.File.{Read, refuse, accept, if_passed, marked_finished, finish, next, lines, begin, file}
use Rattle.promises.specs.Table
use Rattle.promises.specs.Reading.{Reading, taken, refused}

either : (t : Bool) (a b : Read) → (t ≡ true → Reading a) → (t ≡ false → Reading b) → Reading (if t a b)
either true a b p q = p refl
either false a b p q = q refl

by-finish : (b : Behaviour) → Reading (finish b)
by-finish b =
    let k = marked_finished 0 b.marks b.signs in
    either (ltb k most_states) (refuse reason.FinishedMarked k) (accept b) (λ e. refused _ refl (Table.finished-marked (ltb-true k most_states e)) refl) (λ _. taken b refl)

-- what a line meets: nothing, or a row of the table
abbrev Met : Result ⊤ Reason → ℕ → Type 0
Met (Ok _) p = ⊤
Met (Err k) p = Table.Table (row_number k) p

by-message : (t u : Bool) (p : ℕ) → Table.Line p → Met (if t (Err reason.TakingAndSending) (if u (Err reason.SameNameAgain) (Ok tt))) p
by-message true u p l = Table.taking_and_sending l
by-message false true p l = Table.same-name_again l
by-message false false p l = tt

by-mark : (t u : Bool) (p : ℕ) → Table.Line p → Met (if t (if u (Ok tt) (Err reason.MisplacedMark)) (Err reason.MisplacedMark)) p
by-mark true true p l = tt
by-mark true false p l = Table.mark_elsewhere l
by-mark false u p l = Table.mark_elsewhere l

by-label : (b : Behaviour) (f g : ℕ) (l : Label) (p : ℕ) → Table.Line p → Met (check_label b f g l) p
by-label b f g Mark p h = by-mark (eqb f g) (eqb (get_or b.marks f 0) 0) p h
by-label b f g (Take n) p h = by-message (eqb (get_or b.signs f 0) 2) (has f n (messages b)) p h
by-label b f g (Send n) p h = by-message (eqb (get_or b.signs f 0) 1) (has f n (messages b)) p h
by-label b f g Other p h = Table.label-not_one_of_the_three h

by-check : (b : Behaviour) (l : tokens.Line) (p : ℕ) → Table.Line p → Met (check b l) p
unfolding check
by-check b l p h = go (ltb l.from b.states && ltb l.to b.states)
  where
    go : (t : Bool) → Met (if t (check_label b l.from l.to l.label) (Err reason.StateTooHigh)) p
    go true = by-label b l.from l.to l.label p h
    go false = Table.state-not-below h

by_next : (p : ℕ) (b : Behaviour) (g : Got tokens.Line) (k : Behaviour → List ℕ → Read) → Table.Line p → ((b : Behaviour) (s : List ℕ) → Reading (k b s)) → Reading (next p b g k)
by_next p b off k h f = refused _ refl (Table.line-not_of_the_shape h) refl
by_next p b (got l s) k h f = go (check b l) (by-check b l p h)
  where
    go : (c : Result ⊤ Reason) → Met c p → Reading (if_passed p c (k (add b l) s))
    go (Ok _) m = f (add b l) s
    go (Err x) t = refused _ refl t refl

by_lines : (t p : ℕ) (b : Behaviour) (s : List ℕ) → 2 ≤ p → p + t ≤ most_lines + 2 → Reading (lines t p b s)
unfolding lines
by_lines zero p b [] h k = by-finish b
by_lines zero p b (c ∷ s) h k = refused _ refl (Table.line-not_of_the_shape (record { after_first = h; before-end = omega arith })) refl
by_lines (suc t) p b s h k =
    by_next p b (line s) (lines t (p + 1)) (record { after_first = h; before-end = omega arith }) (λ b s. by_lines t (p + 1) b s (omega arith) (omega arith))

by-begin : (g : Got Head) → Reading (begin g)
by-begin off = refused _ refl Table.first-line-not_of_the_shape refl
by-begin (got h s) =
    either (eqb h.start 0) _ _ (λ _. either (leb 1 h.states && leb h.states most_states && leb h.lines most_lines) _ _
    (λ e. let l = leb-true h.lines most_lines (both (leb 1 h.states && leb h.states most_states) (leb h.lines most_lines) e).1 in by_lines h.lines 2 (bare h.states) s (omega arith) (omega arith)) (λ _. refused _ refl Table.outside_its_range refl))
    (λ _. refused _ refl Table.start-state-not_0 refl)

pub reading : (s : List ℕ) → Reading (file s)
unfolding file
reading s = either (leb (length s) most_bytes) (begin (head s)) (refuse reason.FileTooLong 0) (λ _. by-begin (head s)) (λ _. refused _ refl Table.file-over refl)
