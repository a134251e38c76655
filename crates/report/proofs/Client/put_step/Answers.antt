-- `Client::put_step` meets its contract.
use Rattle.std.proofs.Common.{arith, ne_eqb}
use Rattle.text.specs.Spelling.{tens}
use Rattle.text.proofs.Puts.{puts_then}
use Rattle.report.proofs.Client.put_step.Goals as goal
use Rattle.report.proofs.Client.put_step.Goals.{then-b-eq-ROLLBACK, else-b-eq-ROLLBACK}

pub put_opening-requires : goal.put_opening-requires
unfolding tens
put_opening-requires c = omega (arith, c.requires)

pub put_closing-requires : goal.put_closing-requires
unfolding tens
put_closing-requires c = omega (arith, c.requires)

pub returns : goal.returns
returns c = elim c.if-b-eq-ROLLBACK.branch [
  | then-b-eq-ROLLBACK w ↦ rw w.if-b-eq-ROLLBACK.true (puts_then c.put_opening.ensures (puts_then (rw (← w.out-is) at w.put_bytes.ensures) c.put_closing.ensures))
  | else-b-eq-ROLLBACK w ↦ rw (ne_eqb c.args.b 255 w.if-b-eq-ROLLBACK.false, ← w.entry-sign.ensures, ← w.name.ensures, ← w.label_of.ensures) (puts_then c.put_opening.ensures (puts_then (rw (← w.out-is) at w.put_label.ensures) c.put_closing.ensures))
]
