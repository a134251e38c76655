-- `writer::put_messages` meets its contract. The loop's invariant: the lines that are to come are those of what is left.
use Rattle.std.proofs.Common.{◌≡◌, length}
use Rattle.text.proofs.Puts.{Onward}
use Rattle.writer.specs.Text.{message_lines, after_state, lines_text}
use Rattle.writer.proofs.put_messages.Given as goal

abbrev pub invariant-loop-m : goal.invariant-loop-m
invariant-loop-m l =
    Onward l.initial.out (lines_text (message_lines l.k l.g l.a)) l.out (lines_text (message_lines l.k l.g l.rest))
    × (after_state l.k l.a ≡ after_state l.k l.rest)

abbrev pub decreases-loop-m : goal.decreases-loop-m
decreases-loop-m l = length l.rest
