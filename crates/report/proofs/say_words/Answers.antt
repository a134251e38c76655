-- `report::say_words` meets its contract.
use Rattle.std.proofs.Common.{arith, rules}
use Rattle.text.specs.Fronts.{fronts-length}
use Rattle.report.proofs.Sizes.{words-short}
use Rattle.report.proofs.say_words.Goals as goal

pub put_front-requires : goal.put_front-requires
put_front-requires c κs within = let s = words-short c.args.word.now c.args.numbers.now c.requires.0 c.requires.1 in search rules

pub overflow_cast-result : goal.overflow_cast-result
overflow_cast-result c =
    let s = words-short c.args.word.now c.args.numbers.now c.requires.0 c.requires.1 in
    record { fits = omega (arith, fronts-length {n = c.in_ok-n.n} c.put_front.ensures (grind arith), s.ends) }
