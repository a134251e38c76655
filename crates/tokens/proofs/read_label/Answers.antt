-- `tokens::read_label` meets its contract.
use Rattle.std.proofs.Common.{◌≡◌, ◌∙◌, sym, eqb, arith}
use Rattle.std.proofs.lemmas.Bool.{false≢true}
use Rattle.std.proofs.lemmas.Slice.Eq.{slice_eq-Decides}
use Rattle.std.proofs.lemmas.Bool.Decides.{Decides-eqb, nat_tests}
use Rattle.std.proofs.lemmas.Grind.{common_steps}
use Rattle.tokens.specs.Tokens.{label}
use Rattle.tokens.proofs.Labels.{label-none, label-ckp, label-sign, spoken}
use Rattle.tokens.proofs.read_label.Goals.{After-name_of}
use Rattle.tokens.proofs.read_label.Goals as goal

pub returns-then-eq : goal.returns-then-eq
returns-then-eq c =
    let e = (slice_eq-Decides Decides-eqb c.args.b.now c.as_slice.result.now _ c.eq.ensures).0 c.if-eq.true in
    sym (label-ckp _ (e ∙ c.as_slice.ensures))

pub returns-in_default : goal.returns-in_default
returns-in_default c = sym (label-none _ c.in_default.ensures.cases)

-- another label than `ckp`
by_sign : (c : After-name_of) → label c.args.b.now ≡ spoken (eqb c.in-Some.field-0-0.now 63) (eqb c.in-Some.field-0-0.now 33) c.name_of.result
by_sign c =
    let same = slice_eq-Decides Decides-eqb c.args.b.now c.as_slice.result.now _ c.eq.ensures in
    label-sign _ _ _ _ c.in-Some.ensures.cases.0 c.name_of.ensures
    (λ e. absurd (false≢true (sym c.if-eq.false ∙ same.1 (e ∙ sym c.as_slice.ensures))))

pub returns-in_default-name_of : goal.returns-in_default-name_of
returns-in_default-name_of c = sym (rw c.in_default-name_of.is at (by_sign (goal.at.returns-in_default-name_of c).After-name_of))

pub returns-in-63 : goal.returns-in-63
returns-in-63 c = let e = rw c.in-Some-name_of.is at (by_sign (goal.at.returns-in-63 c).After-name_of) in grind (arith, nat_tests, common_steps)

pub returns-in-33 : goal.returns-in-33
returns-in-33 c = let e = rw c.in-Some-name_of.is at (by_sign (goal.at.returns-in-33 c).After-name_of) in grind (arith, nat_tests, common_steps)

pub returns-in_default-sign : goal.returns-in_default-sign
returns-in_default-sign c = let e = rw c.in-Some-name_of.is at (by_sign (goal.at.returns-in_default-sign c).After-name_of) in grind (arith, nat_tests, common_steps)
