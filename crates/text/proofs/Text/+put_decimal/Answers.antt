-- `Text::put_decimal` meets its contract: the digits before the last, with one fewer to come, and the last.
use Rattle.std.proofs.Common.{sym, arith}
use Rattle.text.proofs.Puts.{puts_as, puts_then}
use Rattle.text.proofs.Digits.{tens-more, decimal-small, decimal-large}
use Rattle.text.proofs.Text.+put_decimal.Goals as goal
use Rattle.text.proofs.Text.+put_decimal.Goals.{then-n-ge10, else-n-ge10}

pub overflow_sub-k : goal.overflow_sub-k
overflow_sub-k t c = (tens-more c.args.k c.args.n c.if-n-ge10.true c.requires).0

pub put_decimal-requires : goal.put_decimal-requires
put_decimal-requires t c = let m = tens-more c.args.k c.args.n c.if-n-ge10.true c.requires in (omega arith, m.1)

pub returns : goal.returns
returns t c = elim c.if-n-ge10.branch [
  | then-n-ge10 w ↦ puts_as (sym (decimal-large c.args.k c.args.n w.if-n-ge10.true (tens-more c.args.k c.args.n w.if-n-ge10.true c.requires).0)) (puts_then w.put_decimal.ensures (rw w.self-is at c.put.ensures))
  | else-n-ge10 w ↦ puts_as (decimal-small c.args.k c.args.n w.if-n-ge10.false) (rw w.self-is at c.put.ensures)
]
