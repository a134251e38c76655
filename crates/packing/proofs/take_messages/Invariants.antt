-- `packing::take_messages` meets its contract: the first messages are read.
use Rattle.std.proofs.Common.{◌≡◌, length, take, map}
use Rattle.behaviour.specs.Limits.{most_lines}
use Rattle.packing.specs.Value.{unpacked_message}
use Rattle.packing.proofs.take_messages.Given as goal

abbrev pub invariant-loop-i : goal.invariant-loop-i
invariant-loop-i l = (length l.a ≡ most_lines) × (take l.i l.a ≡ map unpacked_message (take l.i l.messages))
