-- `writer::put_mark` meets its contract.
use Rattle.std.proofs.Common.{sym}
use Rattle.text.proofs.Puts.{puts-nothing, puts_as}
use Rattle.writer.proofs.States.{mark-none, mark-some}
use Rattle.writer.proofs.put_mark.Goals as goal

pub returns-then-m-eq1 : goal.returns-then-m-eq1
returns-then-m-eq1 c = puts_as (sym (mark-some c.args.k c.args.m c.if-m-eq1.true)) c.put_line.ensures

pub returns-else-m-eq1 : goal.returns-else-m-eq1
returns-else-m-eq1 c = puts_as (mark-none c.args.k c.args.m c.if-m-eq1.false) puts-nothing
