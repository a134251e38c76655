-- What `writer::write` puts at the front is the text of its value.
use Rattle.writer.specs.Text.{text}
use Rattle.writer.specs.contracts.fn.write.put_front as closure
use Rattle.writer.proofs.write.Given as goal

abbrev pub ghost-put_front : goal.ghost-put_front
ghost-put_front a = text (closure.captures a.put).b
