-- `aut::insert` meets its contract.
use Rattle.std.proofs.Common.{◌∙◌, ◌≡◌, sym, ap, ◌++◌, ◌+◌, ◌<◌, drop, length, arith}
use Rattle.std.proofs.lemmas.List.{length-take-le, set-get_or}
use Rattle.behaviour.specs.Pick.{unused}
use Rattle.aut.proofs.Inserting.{insert_in, insert-by, insert-end}
use Rattle.aut.proofs.insert.Goals as goal
use Rattle.aut.proofs.insert.Goals.{then-comes_before, else-comes_before}

pub loop-place-preserved : goal.loop-place-preserved
loop-place-preserved c =
    let l = c.loop-place in
    let h : l.place-index < length l.place-items = omega (arith, c.loop-place-test.true, l.auto.place-items) in
    elim c.if-comes_before.branch [
      | then-comes_before w ↦ rw (w.place-items-is, w.held-is) (l.invariant ∙ insert_in _ _ _ h (sym c.comes_before.ensures ∙ w.if-comes_before.true))
      | else-comes_before w ↦ rw (w.place-items-is, w.held-is, set-get_or l.place-items l.place-index unused) (l.invariant ∙ insert-by _ _ _ h (sym c.comes_before.ensures ∙ w.if-comes_before.false))
    ]

pub returns : goal.returns
returns c =
    let l = c.loop-place in
    let n : length l.place-items ≡ c.args.n = omega (arith, l.auto.place-items, length-take-le c.args.n c.args.a.now (omega (arith, c.requires, c.told-a))) in
    sym (ap (λ r. r ++ drop (c.args.n + 1) c.args.a.now) l.invariant ∙ insert-end _ _ _ _ _ (omega (arith, n, c.loop-place-test.false, l.auto.place-items)) n (omega (arith, c.requires, c.told-a)))
