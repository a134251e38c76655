-- `aut::is_known` meets its contract.
use Rattle.std.proofs.Common.{◌∙◌, rules, tests}
use Rattle.std.proofs.lemmas.Iterator.{YieldsList-from_slice}
use Rattle.std.proofs.lemmas.Iterator.Search.{any_from_yields_List}
use Rattle.behaviour.specs.Pick.{is}
use Rattle.aut.proofs.Places.{has-any}
use Rattle.aut.proofs.is_known.Goals as goal

pub returns : goal.returns
returns c =
    any_from_yields_List (is c.args.f c.args.n) _ _ _ c.any.ensures.ran (YieldsList-from_slice c.args.a.now cc) (λ x b q k. search (rules, tests))
    ∙ has-any c.args.f c.args.n c.args.a.now
