-- `Text::put_head` meets its contract.
use Rattle.text.specs.Spelling.{head_text}
use Rattle.text.proofs.Puts.{puts_then}
use Rattle.text.proofs.Text.put_head.Goals as goal

pub returns : goal.returns
unfolding head_text
returns c = puts_then c.put_bytes.ensures (puts_then c.put_decimal.ensures (puts_then c.put.ensures (puts_then c.put_decimal-2.ensures c.put_bytes-2.ensures)))
