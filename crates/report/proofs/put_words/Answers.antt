-- `report::put_words` meets its contract.
use Rattle.std.proofs.Common.{arith, ap, drop_of_length-le}
use Rattle.names.specs.Places.{here}
use Rattle.text.specs.Spelling.{tens}
use Rattle.text.proofs.Puts.{puts_then, onward-step, onward-last}
use Rattle.report.specs.Output.{numbers_text}
use Rattle.report.proofs.put_words.Goals as goal

pub put_decimal-requires : goal.put_decimal-requires
unfolding tens
put_decimal-requires c = omega (arith, c.from.ensures, c.type_inv.n.fits)

pub loop-n-preserved : goal.loop-n-preserved
loop-n-preserved c = onward-step c.loop-n.invariant (ap numbers_text (here 0 c.args.numbers.now c.loop-n.n-index c.loop-n-test.true)) (rw c.from.ensures at (puts_then c.put.ensures c.put_decimal.ensures))

pub returns : goal.returns
returns c = puts_then c.put_bytes.ensures (onward-last c.loop-n.invariant (ap numbers_text (drop_of_length-le c.args.numbers.now c.loop-n-test.false)) c.put-2.ensures)
