-- `behaviour::is_sound` meets its contract.
use Rattle.behaviour.proofs.Walking.{Walking}
use Rattle.behaviour.proofs.is_sound.Given as goal

abbrev pub invariant-loop-m : goal.invariant-loop-m
invariant-loop-m l = Walking l.fn.b l.used l.speaking l.last l.m-index
