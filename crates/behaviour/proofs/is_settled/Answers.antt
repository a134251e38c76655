use Rattle.std.proofs.Common.{rules, ◌∙◌, tests}
use Rattle.std.proofs.lemmas.Iterator.{YieldsList-from_slice, YieldsList-from_zip}
use Rattle.std.proofs.lemmas.Iterator.Search.{all_from_yields_List}
use Rattle.behaviour.proofs.Loops.{state, states}
use Rattle.behaviour.proofs.is_settled.Goals as goal

pub returns : goal.returns
returns c =
    all_from_yields_List state c.all.new.self _ c.all.result c.all.ensures.ran
    (YieldsList-from_zip (YieldsList-from_zip (YieldsList-from_slice c.args.marks cc) (YieldsList-from_slice c.args.signs cc)) (YieldsList-from_slice c.args.speaking cc))
    (λ x b q k. search (rules, tests))
    ∙ states c.args.marks c.args.signs c.args.speaking
