-- `Text::put_bytes` meets its contract.
use Rattle.text.proofs.Puts.{puts-next}
use Rattle.text.proofs.Text.put_bytes.Goals as goal

pub loop-b-preserved : goal.loop-b-preserved
loop-b-preserved c = puts-next c.args.w.now c.loop-b.b-index c.loop-b-test.true c.loop-b.invariant c.put.ensures
