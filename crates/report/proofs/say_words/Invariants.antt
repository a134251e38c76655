-- What `report::say_words` says.
use Rattle.report.specs.Output.{words_line}
use Rattle.report.specs.contracts.fn.say_words.put_front as closure
use Rattle.report.proofs.say_words.Given as goal

abbrev pub ghost-put_front : goal.ghost-put_front
ghost-put_front a = words_line (closure.captures a.put).word.now (closure.captures a.put).numbers.now
