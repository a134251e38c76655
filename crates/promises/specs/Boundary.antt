-- Calls from C: what every answer is, and that a refusal is above every grant.
use Rattle.std.specs.Prelude.{◌≡◌, refl, List, ℕ, ◌<◌, ◌≤◌, Ok, Err}
use Rattle.std.proofs.Common.{arith}
use Rattle.behaviour.specs.declared.Behaviour.{Behaviour}
use Rattle.behaviour.specs.declared.Refusal.{Refusal}
use Rattle.behaviour.specs.SoundLaws.{parts}
use Rattle.writer.specs.Said.{Written}
use Rattle.writer.specs.Lengths as lengths
use Rattle.writer.specs.Written as writer
use Rattle.stands.specs.declared.Stand.{Stand}
use Rattle.compliance.specs.SoundStand.{Sound}
use Rattle.verdict.specs.Answer.{BothSound}
use Rattle.packing.specs.Back.{unpacked-sized}
use Rattle.packing.specs.BackStand.{packed-below}
use Rattle.packing.specs.Numbers.{packed_stand}
use Rattle.packing.specs.Value.{unpacked}
use Rattle.host.specs.Numbers.{refused_number, written_number}
use Rattle.host.specs.Sessions as kept
use Rattle.host.specs.Calls.{Writes}
use Rattle.promises.specs.Table
use Rattle.promises.specs.Table.{Table as Row, InTable}
use Rattle.promises.specs.Values as values
use Rattle.promises.specs.Values.{Writing, writing, judge-refused, report-granted, report-refused}

-- Kept: what is lent is as it was
pub data Answered (r : ℕ) (Kept : Type 0) : Type 0 where
  granted : r < 4294967296 → Answered r Kept
  refused : (f : Refusal) → r ≡ refused_number f → InTable f → Kept → Answered r Kept

-- no number of the table is 0
pub some_number : {n p : ℕ} → Row n p → 1 ≤ n
some_number Table.file-over = omega arith
some_number Table.first-line-not_of_the_shape = omega arith
some_number Table.start-state-not_0 = omega arith
some_number Table.outside_its_range = omega arith
some_number (Table.line-not_of_the_shape l) = omega arith
some_number (Table.state-not-below l) = omega arith
some_number (Table.label-not_one_of_the_three l) = omega arith
some_number (Table.mark_elsewhere l) = omega arith
some_number (Table.taking_and_sending l) = omega arith
some_number (Table.same-name_again l) = omega arith
some_number (Table.finished-marked h) = omega arith
some_number Table.longer_than_lent = omega arith
some_number Table.no-file_gives_it = omega arith
some_number Table.not-compliant = omega arith
some_number Table.no-stand = omega arith
some_number Table.message-not-possible = omega arith
some_number Table.rollback-not-possible = omega arith

-- so an answer is not both
pub refused-above : (f : Refusal) → InTable f → 4294967296 ≤ refused_number f
refused-above f t = omega (arith, some_number t)

by-writing : (b : Behaviour) (out left : List ℕ) (r : ℕ) (w : Written) → Writing b out w left → r ≡ written_number w → Answered r (left ≡ out)
by-writing b out left r (Ok n) (values.granted e l) i = granted (omega (arith, i, lengths.text-few b (parts b e).most-lines))
by-writing b out left r (Err f) w i = let t = values.writing-refused w in refused f i t.0 t.1

pub c_write : (value out left : List ℕ) (r : ℕ) → Writes value out r left → Answered r (left ≡ out)
c_write value out left r h =
    by-writing (unpacked value) out left r (writer.written (unpacked value) out)
    (writing (unpacked value) out (writer.written (unpacked value) out) left (refl, h.leaves)) h.says

-- a stand with states in range and return points marked is below 2^32
module _ (c s : List ℕ) (k : BothSound (unpacked c) (unpacked s)) where
  abbrev C : Behaviour
  C = unpacked c

  abbrev S : Behaviour
  S = unpacked s

  pub small : (p : Stand) → Sound C S p → packed_stand p < 4294967296
  small p o = packed-below p (kept.small C S (unpacked-sized c) (unpacked-sized s) k p o)
