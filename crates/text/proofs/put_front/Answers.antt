-- `text::put_front` meets its contract.
use Rattle.std.proofs.Common.{refl, rules}
use Rattle.text.proofs.Fronts.{fronts-none, fronts-some}
use Rattle.text.proofs.put_front.Goals as goal

pub returns-then-out-n : goal.returns-then-out-n
returns-then-out-n g c = fronts-none (c.requires.1.1.0 _ _ c.put.ensures) refl c.requires.1.1.1 c.if-out-n.true

pub returns : goal.returns
returns g c =
    let p = c.requires.1.1.0 _ _ c.put.ensures in
    let q = c.requires.1.1.0 _ _ c.put-2.ensures in
    fronts-some p refl q refl c.requires.1.1.1 c.if-out-n.false (let s = q.same in search rules)
