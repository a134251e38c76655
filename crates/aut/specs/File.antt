-- What a description file gives: "The description file" of 01, and its refusals 1 to 11 in their order with their places.
use Rattle.std.specs.Prelude.{List, [], ◌∷◌, ◌&&◌, ℕ, zero, suc, ◌+◌, leb, ltb, eqb, length, Result, Ok, Err, ⊤}
use Rattle.names.specs.If.{if}
use Rattle.tokens.specs.Parse.{Got, got, off}
use Rattle.tokens.specs.Lines.{line, head}
use Rattle.tokens.specs.declared.Line.{Line}
use Rattle.tokens.specs.declared.Head.{Head}
use Rattle.behaviour.specs.declared.Reason.TheVariants as reason
use Rattle.behaviour.specs.declared.Behaviour.{Behaviour}
use Rattle.behaviour.specs.Limits.{most_states, most_lines, most_bytes}
use Rattle.behaviour.specs.declared.Refusal.{Refusal}
use Rattle.behaviour.specs.declared.Reason.{Reason}
use Rattle.behaviour.specs.Refusals.{refusal}
use Rattle.aut.specs.Adding.{bare, add, check}

-- what reading gives: a behaviour, or a refusal
abbrev pub Read : Type 0
Read = Result Behaviour Refusal

-- "A refused read gives a behaviour of zero states"
abbrev pub value_of : Read → Behaviour
value_of (Ok b) = b
value_of (Err r) = bare 0

abbrev pub refuse : Reason → ℕ → Read
refuse k p = Err (refusal k p)

-- a file that is taken
abbrev pub accept : Behaviour → Read
accept b = Ok b

-- the lowest state from k on that is marked and finished, or the number after the last state
unfoldable pub marked_finished : ℕ → List ℕ → List ℕ → ℕ
marked_finished k [] g = k
marked_finished k (m ∷ ms) [] = k
marked_finished k (m ∷ ms) (g ∷ gs) = if (eqb m 1 && eqb g 0) k (marked_finished (k + 1) ms gs)

-- 11 "a finished state is marked", at the "lowest such state"; or the behaviour
abbrev pub finish : Behaviour → Read
finish b = if (ltb (marked_finished 0 b.marks b.signs) most_states) (refuse reason.FinishedMarked (marked_finished 0 b.marks b.signs)) (accept b)

-- a reading goes on where a check refuses nothing; else it is refused, at p
abbrev pub if_passed : ℕ → Result ⊤ Reason → Read → Read
if_passed p (Ok _) r = r
if_passed p (Err k) r = refuse k p

-- "on each line 5 to 10 in order", at "that line" p; or on with the bytes that are left
abbrev pub next : ℕ → Behaviour → Got Line → (Behaviour → List ℕ → Read) → Read
next p b off k = refuse reason.LineShape p
next p b (got l s) k = if_passed p (check b l) (k (add b l) s)

-- "then T lines", t of them from line p on, "nothing after"; "then 5 for what follows the last line; then 11"
unfoldable pub lines : ℕ → ℕ → Behaviour → List ℕ → Read
lines zero p b [] = finish b
lines zero p b (c ∷ s) = refuse reason.LineShape p
lines (suc t) p b s = next p b (line s) (lines t (p + 1))

-- 2 "first line not of the shape", 3 "start state not 0", 4 "S or T outside its range"; or the lines
abbrev pub begin : Got Head → Read
begin off = refuse reason.FirstLineShape 1
begin (got h s) =
    if (eqb h.start 0)
    (if (leb 1 h.states && leb h.states most_states && leb h.lines most_lines) (lines h.lines 2 (bare h.states) s) (refuse reason.SizeOutsideRange 1))
    (refuse reason.StartNotZero 1)

-- 1 "file over 4,096 bytes"; or what its first line begins
unfoldable pub file : List ℕ → Read
file s = if (leb (length s) most_bytes) (begin (head s)) (refuse reason.FileTooLong 0)
