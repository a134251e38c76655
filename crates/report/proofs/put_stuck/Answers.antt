-- `report::put_stuck` meets its contract: the first line, the run's first line, the run's lines.
use Rattle.std.proofs.Common.{arith}
use Rattle.text.specs.Spelling.{tens}
use Rattle.text.proofs.Puts.{puts_then}
use Rattle.report.specs.Followed.{stuck_text}
use Rattle.report.proofs.put_stuck.Goals as goal

pub put_head-requires-clause-t_bound : goal.put_head-requires-clause-t_bound
unfolding tens
put_head-requires-clause-t_bound c = omega (arith, c.requires)

pub put_head-requires-clause-s_bound : goal.put_head-requires-clause-s_bound
unfolding tens
put_head-requires-clause-s_bound c = omega (arith, c.requires)

pub returns : goal.returns
unfolding stuck_text
returns c = puts_then (rw c.from.ensures at c.put_words.ensures) (puts_then c.put_head.ensures c.put_steps.ensures)
