-- `packing::put_messages` meets its contract.
use Rattle.std.proofs.Common.{refl, ◌∙◌, arith}
use Rattle.packing.specs.Value.{packed_messages}
use Rattle.packing.proofs.Values.{packed_more}
use Rattle.packing.proofs.put_messages.Goals as goal

pub loop-i-init : goal.loop-i-init
unfolding packed_messages
loop-i-init c = refl

pub loop-i-preserved : goal.loop-i-preserved
loop-i-preserved c =
    let l = c.loop-i in
    packed_more c.args.a.now l.out l.i _ c.copy_from_slice.new.self (omega arith) (omega arith) (c.copy_from_slice.ensures.after ∙ c.message_bytes.ensures) l.invariant
