-- `report::put_words` meets its contract. The loop's invariant: what is to come are the numbers from its place on.
use Rattle.std.proofs.Common.{drop}
use Rattle.text.proofs.Puts.{Onward}
use Rattle.report.specs.Output.{numbers_text}
use Rattle.report.proofs.put_words.Given as goal

abbrev pub invariant-loop-n : goal.invariant-loop-n
invariant-loop-n l = Onward l.initial.out (numbers_text l.numbers) l.out (numbers_text (drop l.n-index l.numbers))
