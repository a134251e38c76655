-- `writer::put_message` meets its contract.
use Rattle.std.proofs.Common.{arith}
use Rattle.text.specs.Spelling.{tens}
use Rattle.writer.proofs.put_message.Goals as goal

pub put_line-requires-clause-from_bound : goal.put_line-requires-clause-from_bound
unfolding tens
put_line-requires-clause-from_bound c = omega (arith, c.from.ensures)

pub put_line-requires-clause-to_bound : goal.put_line-requires-clause-to_bound
unfolding tens
put_line-requires-clause-to_bound c = omega (arith, c.from-2.ensures)
