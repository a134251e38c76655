-- `Text::put_name` meets its contract.
use Rattle.std.proofs.Common.{sym, ◌∙◌, ap, ◌<◌, length}
use Rattle.std.proofs.lemmas.List.{take_all}
use Rattle.text.proofs.Puts.{puts-nothing, puts_as, puts_then}
use Rattle.text.proofs.Names.{kept, name-kept, kept-byte, kept-zero}
use Rattle.text.proofs.Text.put_name.Goals as goal
use Rattle.text.proofs.Text.put_name.Goals.{then-b-ne0, else-b-ne0}

pub loop-b-init : goal.loop-b-init
loop-b-init c = puts-nothing

pub loop-b-preserved : goal.loop-b-preserved
loop-b-preserved c = let e = c.to_be_bytes-b-items.ensures in let h : c.loop-b.b-index < length c.to_be_bytes-b-items.result = rw e c.loop-b-test.true in elim c.if-b-ne0.branch [
  | then-b-ne0 w ↦ puts_as (kept-byte c.to_be_bytes-b-items.result c.loop-b.b-index h w.if-b-ne0.true) (puts_then c.loop-b.invariant (rw (← w.self-is) at w.put.ensures))
  | else-b-ne0 w ↦ puts_as (kept-zero c.to_be_bytes-b-items.result c.loop-b.b-index h w.if-b-ne0.false) (rw (← w.self-is) at c.loop-b.invariant)
]

pub returns : goal.returns
returns c =
    let e = c.to_be_bytes-b-items.ensures in
    puts_as (ap kept (take_all c.loop-b.b-index c.to_be_bytes-b-items.result (rw e c.loop-b-test.false) ∙ e) ∙ sym (name-kept 8 c.args.n)) c.loop-b.invariant
