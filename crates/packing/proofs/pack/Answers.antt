-- `packing::pack` meets its contract: what is written, part after part, is the value (Values).
use Rattle.std.proofs.Common.{le-leb, length, arith}
use Rattle.behaviour.proofs.Lengths.{sized}
use Rattle.packing.specs.Value.{value_bytes, left}
use Rattle.packing.proofs.Values.{all_parts}
use Rattle.packing.proofs.pack.Goals as goal

pub returns-clause-leaves : goal.returns-clause-leaves
unfolding left
returns-clause-leaves c =
    let e = le-leb value_bytes (length c.args.out.now) c.if-out-lt-VALUE_BYTES.false in
    let z = sized c.args.b _ c.well_formed.0 in
    rw (e, c.copy_from_slice.ensures.after, c.copy_from_slice-2.ensures.after, c.put_messages.ensures) (all_parts c.args.b c.args.out.now (omega arith) z.marks z.signs)
