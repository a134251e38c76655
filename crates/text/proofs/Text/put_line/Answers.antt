-- `Text::put_line` meets its contract.
use Rattle.text.specs.Spelling.{line_text}
use Rattle.text.proofs.Puts.{puts_then}
use Rattle.text.proofs.Text.put_line.Goals as goal

pub returns : goal.returns
unfolding line_text
returns c = puts_then c.put_opening.ensures (puts_then c.put_label.ensures c.put_closing.ensures)
