-- `tokens::read_digits` meets its contract.
use Rattle.std.proofs.Common.{◌≡◌, ◌-◌, ◌+◌, ◌∙◌, sym, refl, arith}
use Rattle.tokens.proofs.Digits.{cap, cap-all, cap-more, digits-zero, digits-end, digits-stop, digits-more}
use Rattle.tokens.proofs.read_digits.Goals as goal

pub loop-init : goal.loop-init
unfolding cap
loop-init c = (refl, c.requires)

pub returns-in_default : goal.returns-in_default
returns-in_default c = c.loop.invariant.0 ∙ digits-end _ _ _ c.in_default.ensures.cases

pub returns-then-not-is_ascii_digit : goal.returns-then-not-is_ascii_digit
returns-then-not-is_ascii_digit c =
    c.loop.invariant.0 ∙ digits-stop _ _ _ _ _ c.in-Some.ensures.cases.0 (sym c.if-not-is_ascii_digit.ensures.value)

pub overflow_mul-v : goal.overflow_mul-v
overflow_mul-v c = omega (arith, cap-all (4 - c.loop.counter))

pub overflow_add-v : goal.overflow_add-v
overflow_add-v c = omega (arith, cap-all (4 - c.loop.counter))

pub loop-preserved : goal.loop-preserved
loop-preserved c =
    let l = c.loop in
    let e : 4 - l.counter - 1 ≡ 4 - (l.counter + 1) = omega arith in
    let d = c.if-not-is_ascii_digit.ensures in
    rw (sym e, c.from.ensures) (
      l.invariant.0 ∙ digits-more _ _ _ _ _ c.in-Some.ensures.cases.0 (sym d.value) (omega arith),
      cap-more _ _ _ (omega arith) l.invariant.1 (let r = d.cases in omega arith),
    )

pub returns : goal.returns
returns c = c.loop.invariant.0 ∙ digits-zero _ _ _ (omega arith)
