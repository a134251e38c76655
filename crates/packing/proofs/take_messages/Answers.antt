-- `packing::take_messages` meets its contract.
use Rattle.std.proofs.Common.{refl, ◌∙◌, length-set, arith}
use Rattle.packing.proofs.Values.{unpacked_more, read_all}
use Rattle.packing.proofs.take_messages.Goals as goal

pub loop-i-init : goal.loop-i-init
loop-i-init c = (c.told-a, refl)

pub loop-i-preserved : goal.loop-i-preserved
loop-i-preserved c =
    let l = c.loop-i in
    let f = c.as_chunks.ensures.front_len in
    (length-set _ _ _ ∙ l.invariant.0, unpacked_more l.a c.as_chunks.result.0.now l.i c.message_of.result _ (omega (arith, f, l.invariant.0)) (omega arith) c.message_of.ensures l.invariant.1)

pub returns : goal.returns
returns c =
    let l = c.loop-i in
    let f = c.as_chunks.ensures.front_len in
    read_all l.a c.as_chunks.result.0.now c.args.s.now l.i _ (omega (arith, f, l.invariant.0)) (omega arith) c.as_chunks.ensures.front (omega arith) l.invariant.1
