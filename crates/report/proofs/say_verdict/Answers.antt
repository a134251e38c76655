-- `report::say_verdict` meets its contract.
use Rattle.std.proofs.Common.{◌∙◌, ap, Ok, arith}
use Rattle.behaviour.specs.SoundLaws.{parts}
use Rattle.stands.specs.Cases.{bytes}
use Rattle.report.proofs.Judging.{judges_compliant, run-within, run-counts, run_short, judges_stuck, judges_all}
use Rattle.report.proofs.say_verdict.Goals as goal

pub slice_bounds-say_stuck-end : goal.slice_bounds-say_stuck-end
slice_bounds-say_stuck-end c = rw c.from.ensures (run-within c.args.c c.args.s c.args.run.now c.judge.new.run c.judge.result c.judge.ensures (c.in_ok-judged.was ∙ ap Ok c.in-Stuck.is))

pub slice_bounds-say_stuck-end-in-Stuck : goal.slice_bounds-say_stuck-end-in-Stuck
slice_bounds-say_stuck-end-in-Stuck c = rw c.from.ensures (run-counts c.args.c c.args.s c.args.run.now c.judge.new.run c.judge.result c.judge.ensures (c.in_ok-judged.was ∙ ap Ok c.in-Stuck.is))

pub say_stuck-requires : goal.say_stuck-requires
say_stuck-requires c = rw c.from.ensures (omega (arith, (parts c.args.c c.requires.sounds.client).most-lines), omega (arith, (parts c.args.s c.requires.sounds.server).most-lines), run_short c.args.c c.args.s c.args.run.now c.judge.new.run c.judge.result c.judge.ensures (c.in_ok-judged.was ∙ ap Ok c.in-Stuck.is) c.requires.room)

pub returns-in-Compliant : goal.returns-in-Compliant
unfolding bytes
returns-in-Compliant c = judges_compliant c.args.c c.args.s c.args.run.now c.judge.new.run c.judge.result c.judge.ensures (c.in_ok-judged.was ∙ ap Ok c.in-Compliant.is) c.say_words.ensures

pub returns-in-Stuck : goal.returns-in-Stuck
returns-in-Stuck c = judges_stuck c.args.c c.args.s c.args.run.now c.judge.new.run c.judge.result c.judge.ensures (c.in_ok-judged.was ∙ ap Ok c.in-Stuck.is) (rw c.from.ensures at c.say_stuck.ensures)

pub returns-in_err-judged : goal.returns-in_err-judged
returns-in_err-judged c = judges_all c.args.c c.args.s c.args.run.now c.judge.new.run c.judge.result c.judge.ensures c.requires c.in_err-judged.was
