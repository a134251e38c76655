-- Two outcomes, each with the record that it leaves, that the statements allow for one lent call are equal.
use Rattle.std.specs.Prelude.{◌≡◌}
use Rattle.std.proofs.Common.{sym, ◌∙◌, ap}
use Rattle.behaviour.specs.declared.Behaviour.{Behaviour}
use Rattle.session.specs.declared.Session.{Session}
use Rattle.session.specs.Said.{Answer}
use Rattle.session.specs.OneAnswer.{opens_one}
use Rattle.lines.specs.Lent.{Kept, kept_of, OpensInto}

-- a: what the call by value answers on the record
pub lent_one : (line : Session) (a : Answer) (k j : Kept) → kept_of line a ≡ k → kept_of line a ≡ j → k ≡ j
lent_one line a k j p q = sym p ∙ q

-- of an opening into a record
pub open_one : (c s : Behaviour) (line : Session) (k j : Kept) → OpensInto c s line k → OpensInto c s line j → k ≡ j
open_one c s line k j p q = p.kept ∙ ap (kept_of line) (opens_one c s p.answer q.answer p.opens q.opens) ∙ sym q.kept
