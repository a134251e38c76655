-- `Text::put_opening` meets its contract.
use Rattle.text.specs.Spelling.{opening}
use Rattle.text.proofs.Puts.{puts_then}
use Rattle.text.proofs.Text.put_opening.Goals as goal

pub returns : goal.returns
unfolding opening
returns c = puts_then c.put.ensures (puts_then c.put_decimal.ensures c.put_bytes.ensures)
