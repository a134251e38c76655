-- `behaviour::is_sound` meets its contract.
use Rattle.std.proofs.Common.{◌≡◌, sym, ap, ◌∙◌, arith, rules, tests, drop}
use Rattle.std.proofs.lemmas.Iterator.{YieldsList-from_slice}
use Rattle.std.proofs.lemmas.Iterator.Search.{all_from_yields_List}
use Rattle.behaviour.specs.Sound.{blank, all_blank}
use Rattle.behaviour.proofs.Loops.{blanks}
use Rattle.behaviour.proofs.Walking.{out_of_range, walking_start, walking_no, walking_next, walking_end}
use Rattle.behaviour.proofs.is_sound.Goals as goal

pub returns-then-not-is_in_range : goal.returns-then-not-is_in_range
returns-then-not-is_in_range c = out_of_range c.args.b.now (sym c.is_in_range.ensures ∙ c.if-not-is_in_range.true)

pub loop-m-init : goal.loop-m-init
loop-m-init c =
    walking_start c.args.b.now c.split_at.result.0.now (search rules) (sym c.is_in_range.ensures ∙ c.if-not-is_in_range.false)

pub returns-then-not-is_next : goal.returns-then-not-is_next
returns-then-not-is_next c = walking_no c.loop-m.invariant (omega arith) (sym c.is_next.ensures ∙ c.if-not-is_next.true)

pub loop-m-preserved : goal.loop-m-preserved
loop-m-preserved c =
    rw c.from-in-loop-m.ensures (walking_next c.loop-m.invariant (omega arith) (sym c.is_next.ensures ∙ c.if-not-is_next.false))

pub returns-then-all : goal.returns-then-all
returns-then-all c =
    let b = c.args.b.now in
    let rest = c.split_at.result.1.now in
    let r = all_from_yields_List blank _ _ c.all.result c.all.ensures.ran (YieldsList-from_slice rest cc) (λ x b q k. search (rules, tests)) in
    let e : all_blank (drop b.count b.messages) ≡ c.all.result = ap all_blank (search rules) ∙ sym (blanks rest) ∙ sym r in
    c.is_settled.ensures ∙ rw (e, c.if-all.true) at (walking_end c.loop-m.invariant (omega arith) (search rules))

pub returns-else-all : goal.returns-else-all
returns-else-all c =
    let b = c.args.b.now in
    let rest = c.split_at.result.1.now in
    let r = all_from_yields_List blank _ _ c.all.result c.all.ensures.ran (YieldsList-from_slice rest cc) (λ x b q k. search (rules, tests)) in
    let e : all_blank (drop b.count b.messages) ≡ c.all.result = ap all_blank (search rules) ∙ sym (blanks rest) ∙ sym r in
    c.if-all.false ∙ rw (e, c.if-all.false) at (walking_end c.loop-m.invariant (omega arith) (search rules))
