-- `tokens::literal` meets its contract.
use Rattle.std.proofs.lemmas.Slice.Eq.{strip_prefix_is}
use Rattle.std.proofs.lemmas.Bool.Decides.{Decides-eqb}
use Rattle.tokens.proofs.Laws.{word_found}
use Rattle.tokens.proofs.literal.Goals as goal

pub returns : goal.returns
returns c = word_found _ _ _ (strip_prefix_is Decides-eqb c.args.rest.now c.args.w.now _ c.strip_prefix.ensures.cases)
