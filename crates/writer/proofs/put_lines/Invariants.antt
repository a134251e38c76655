-- `writer::put_lines` meets its contract. The loop's invariant: the lines that are to come are those of the states whose marks and signs are left.
use Rattle.std.proofs.Common.{◌≡◌, ◌+◌, length}
use Rattle.std.specs.Slice.Iter.{iter_rest}
use Rattle.text.proofs.Puts.{Onward}
use Rattle.writer.specs.Text.{lines_from, lines_text}
use Rattle.writer.proofs.put_lines.Given as goal

abbrev pub invariant-loop-k : goal.invariant-loop-k
invariant-loop-k l =
    (goal.iterator-loop-k).can_next l.k-iterator × (goal.iterator-loop-k).is_finite l.k-iterator
    × Onward l.initial.out (lines_text (lines_from 0 l.marks l.signs l.a)) l.out (lines_text (lines_from l.k-iterator.count (iter_rest l.k-iterator.iter.a) (iter_rest l.k-iterator.iter.b) l.rest))
    × (l.k-iterator.count + length (iter_rest l.k-iterator.iter.a) ≡ 10)
