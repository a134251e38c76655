-- `Text::put_closing` meets its contract.
use Rattle.text.specs.Spelling.{closing}
use Rattle.text.proofs.Puts.{puts_then}
use Rattle.text.proofs.Text.put_closing.Goals as goal

pub returns : goal.returns
unfolding closing
returns c = puts_then c.put_bytes.ensures (puts_then c.put_decimal.ensures c.put_bytes-2.ensures)
