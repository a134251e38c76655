use Rattle.std.proofs.Common.{rules, ◌∙◌, eqb, tests}
use Rattle.std.proofs.lemmas.Iterator.{YieldsList-from_slice}
use Rattle.std.proofs.lemmas.Iterator.Consumers.{count_from_yields_List, YieldsList-from_filter}
use Rattle.behaviour.proofs.Loops.{marked}
use Rattle.behaviour.proofs.marked_count.Goals as goal

pub returns : goal.returns
returns c =
    count_from_yields_List _ _ c.count.ensures.ran (YieldsList-from_filter _ (λ m. eqb m 1) (YieldsList-from_slice c.args.marks cc) c.filter.ensures.closure (λ x r q k. search (rules, tests)))
    ∙ marked c.args.marks
