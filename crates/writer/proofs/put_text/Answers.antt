-- `writer::put_text` meets its contract.
use Rattle.std.proofs.Common.{arith}
use Rattle.text.specs.Spelling.{tens}
use Rattle.text.proofs.Puts.{puts_as, puts_then}
use Rattle.writer.proofs.Whole.{whole}
use Rattle.writer.proofs.put_text.Goals as goal

pub put_head-requires-clause-t_bound : goal.put_head-requires-clause-t_bound
unfolding tens
put_head-requires-clause-t_bound c = omega (arith, c.requires.few)

pub put_head-requires-clause-s_bound : goal.put_head-requires-clause-s_bound
unfolding tens
put_head-requires-clause-s_bound c = omega (arith, c.from.ensures)

pub returns : goal.returns
returns c = puts_as (whole c.args.b.now c.requires.count c.from.ensures c.used_messages.ensures) (puts_then c.put_head.ensures c.put_lines.ensures)
