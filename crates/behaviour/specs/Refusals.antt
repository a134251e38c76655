-- A refusal: its reason, a row of 01's table "Refusal numbers", and its place.
use Rattle.std.specs.Prelude.{◌≡◌, refl, ⊤, ◌+◌, List, [], ◌∷◌, ℕ, zero, suc, Option, None, Some, slice_get}
use Rattle.std.proofs.Common.{sym, ap, ◌∙◌, arith}
use Rattle.behaviour.specs.declared.Reason.{Reason}
use Rattle.behaviour.specs.declared.Reason.TheVariants as reason
use Rattle.behaviour.specs.declared.Refusal.{Refusal}

abbrev pub refusal : Reason → ℕ → Refusal
refusal r p = record { reason = r; place = p }

-- "No.": the number of each row
abbrev pub row_number : Reason → ℕ
row_number reason.FileTooLong = 1
row_number reason.FirstLineShape = 2
row_number reason.StartNotZero = 3
row_number reason.SizeOutsideRange = 4
row_number reason.LineShape = 5
row_number reason.StateTooHigh = 6
row_number reason.OtherLabel = 7
row_number reason.MisplacedMark = 8
row_number reason.TakingAndSending = 9
row_number reason.SameNameAgain = 10
row_number reason.FinishedMarked = 11
row_number reason.LongerThanLent = 12
row_number reason.NoFileGivesIt = 13
row_number reason.NotCompliant = 14
row_number reason.NoStand = 15
row_number reason.MessageNotPossible = 16
row_number reason.RollbackNotPossible = 17

-- the rows in the table's order
abbrev pub rows : List Reason
rows =
    reason.FileTooLong ∷
    reason.FirstLineShape ∷
    reason.StartNotZero ∷
    reason.SizeOutsideRange ∷
    reason.LineShape ∷
    reason.StateTooHigh ∷
    reason.OtherLabel ∷
    reason.MisplacedMark ∷
    reason.TakingAndSending ∷
    reason.SameNameAgain ∷
    reason.FinishedMarked ∷
    reason.LongerThanLent ∷
    reason.NoFileGivesIt ∷
    reason.NotCompliant ∷
    reason.NoStand ∷
    reason.MessageNotPossible ∷
    reason.RollbackNotPossible ∷
    []

-- the row of each number from 1 on
unfoldable pub reason_of : ℕ → Option Reason
reason_of zero = None
reason_of (suc i) = slice_get rows i

pub reason-back : (r : Reason) → reason_of (row_number r) ≡ Some r
unfolding reason_of
reason-back reason.FileTooLong = refl
reason-back reason.FirstLineShape = refl
reason-back reason.StartNotZero = refl
reason-back reason.SizeOutsideRange = refl
reason-back reason.LineShape = refl
reason-back reason.StateTooHigh = refl
reason-back reason.OtherLabel = refl
reason-back reason.MisplacedMark = refl
reason-back reason.TakingAndSending = refl
reason-back reason.SameNameAgain = refl
reason-back reason.FinishedMarked = refl
reason-back reason.LongerThanLent = refl
reason-back reason.NoFileGivesIt = refl
reason-back reason.NotCompliant = refl
reason-back reason.NoStand = refl
reason-back reason.MessageNotPossible = refl
reason-back reason.RollbackNotPossible = refl

-- the rows l have the numbers from k on
abbrev Numbered : ℕ → List Reason → Type 0
Numbered k [] = ⊤
Numbered k (r ∷ l) = (row_number r ≡ k) × Numbered (suc k) l

at_number : (l : List Reason) (k i : ℕ) (r : Reason) → Numbered k l → slice_get l i ≡ Some r → row_number r ≡ k + i
at_number [] k i r h e = absurd cc
at_number (x ∷ l) k zero r h e = let f : x ≡ r = cc in rw (← f, h.0) (omega arith)
at_number (x ∷ l) k (suc i) r h e = at_number l (suc k) i r h.1 e ∙ omega arith

numbered : Numbered 1 rows
numbered = (refl, (refl, (refl, (refl, (refl, (refl, (refl, (refl, (refl, (refl, (refl, (refl, (refl, (refl, (refl, (refl, (refl, tt)))))))))))))))))

pub number-back : (n : ℕ) (r : Reason) → reason_of n ≡ Some r → row_number r ≡ n
unfolding reason_of
number-back zero r e = absurd cc
number-back (suc i) r e = at_number rows 1 i r numbered e ∙ omega arith

-- each row has a number of its own
pub one_reason : (r s : Reason) → row_number r ≡ row_number s → r ≡ s
one_reason r s e = let i : Some r ≡ Some s = sym (reason-back r) ∙ ap reason_of e ∙ reason-back s in cc
