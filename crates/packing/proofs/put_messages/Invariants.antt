-- `packing::put_messages` meets its contract: the first messages stand at the front.
use Rattle.std.proofs.Common.{◌≡◌, ◌*◌, take}
use Rattle.packing.specs.Value.{message_bytes, packed_messages}
use Rattle.packing.proofs.put_messages.Given as goal

abbrev pub invariant-loop-i : goal.invariant-loop-i
invariant-loop-i l = take (l.i * message_bytes) l.out ≡ packed_messages (take l.i l.a)
