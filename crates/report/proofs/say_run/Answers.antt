-- `report::say_run` meets its contract.
use Rattle.std.proofs.Common.{arith, rules}
use borrow.Author.Rules.{in_lives}
use Rattle.text.specs.Fronts.{fronts-length}
use Rattle.report.proofs.Sizes.{stuck-short}
use Rattle.report.proofs.say_run.Goals as goal

pub put_front-requires : goal.put_front-requires
put_front-requires c κs within =
    let s = stuck-short c.args.c.now c.args.names.now c.args.cause c.args.run.now c.requires in
    (simp (in_lives, within.0, within.1.0, within.1.1.0, within.1.1.1.0) (search rules), search rules)

pub overflow_cast-result : goal.overflow_cast-result
overflow_cast-result c =
    let s = stuck-short c.args.c.now c.args.names.now c.args.cause c.args.run.now c.requires in
    record { fits = omega (arith, fronts-length {n = c.in_ok-n.n} c.put_front.ensures (grind arith), s.ends) }
