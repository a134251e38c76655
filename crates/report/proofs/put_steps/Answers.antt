-- `report::put_steps` meets its contract.
use Rattle.text.proofs.Puts.{onward-step, onward-end}
use Rattle.report.proofs.Going.{no_steps, more-steps}
use Rattle.report.proofs.put_steps.Goals as goal

pub loop-k-preserved : goal.loop-k-preserved
loop-k-preserved c = rw c.step.ensures (onward-step c.loop-k.invariant (more-steps _ _ _ _ _ c.args.run.now c.loop-k.k c.loop-k-test.true) c.put_step.ensures)

pub returns : goal.returns
returns c = onward-end c.loop-k.invariant (no_steps _ _ _ _ _ c.args.run.now c.loop-k.k c.loop-k-test.false)
