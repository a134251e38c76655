-- `report::put_steps` meets its contract. The loop's invariant: the lines to come are those of the steps from `k` on.
use Rattle.std.proofs.Common.{drop}
use Rattle.text.proofs.Puts.{Onward}
use Rattle.report.specs.Followed.{followed}
use Rattle.report.proofs.put_steps.Given as goal

abbrev pub invariant-loop-k : goal.invariant-loop-k
invariant-loop-k l = Onward l.initial.out (followed l.c l.names 0 0 0 l.run) l.out (followed l.client.value.now l.client.names.now l.k l.client.state l.client.home (drop l.k l.run))
