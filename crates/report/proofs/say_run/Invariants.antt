-- What `report::say_run` says.
use Rattle.report.specs.Followed.{stuck_text}
use Rattle.report.specs.contracts.fn.say_run.put_front as closure
use Rattle.report.proofs.say_run.Given as goal

abbrev pub ghost-put_front : goal.ghost-put_front
ghost-put_front a = stuck_text (closure.captures a.put).c.now (closure.captures a.put).names.now (closure.captures a.put).cause (closure.captures a.put).run.now
