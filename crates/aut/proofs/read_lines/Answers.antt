-- `aut::read_lines` meets its contract.
use Rattle.std.proofs.Common.{◌≡◌, ◌∙◌, sym, ap, ◌<◌, ◌+◌, ◌-◌, length, rules, arith, Ok, Err}
use Rattle.tokens.specs.Parse.{got, off}
use Rattle.tokens.specs.Lines.{line}
use Rattle.behaviour.specs.declared.Reason.TheVariants as reason
use Rattle.behaviour.specs.Refusals.{refusal}
use Rattle.aut.specs.Accepting.{low}
use Rattle.aut.specs.Adding.{check}
use Rattle.aut.specs.File.{refuse}
use Rattle.aut.proofs.Reading.{lines-short, lines-bad, lines_more, lines_extra, lines-done, add-keeps}
use Rattle.aut.proofs.read_lines.Goals as goal

pub returns-in_err-line : goal.returns-in_err-line
returns-in_err-line c =
    let v = c.loop-p in
    let e : line v.left.now ≡ off = search rules in
    let f : c.from_residual.result ≡ refuse reason.LineShape v.p-counter = search rules in
    f ∙ sym (v.invariant.0 ∙ lines-short _ _ _ _ (omega arith) e)

pub returns-in_err-map_err : goal.returns-in_err-map_err
returns-in_err-map_err c =
    let v = c.loop-p in
    let e : line v.left.now ≡ got c.in_ok-line.line c.in_ok-line.after.now = search rules in
    let k = c.in_err-map_err.field-0.0.reason in
    let n : check v.b c.in_ok-line.line ≡ Err k = search rules in
    let f : c.from_residual-in_err-map_err.result ≡ refuse k v.p-counter = search rules in
    f ∙ sym (v.invariant.0 ∙ lines-bad _ _ _ _ _ _ k (omega arith) e n)

pub add-requires : goal.add-requires
add-requires c =
    let v = c.loop-p in
    let n : check v.b c.in_ok-line.line ≡ Ok tt = search rules in
    let f = low v.b c.in_ok-line.line n in
    omega arith

pub loop-p-preserved : goal.loop-p-preserved
loop-p-preserved c =
    let v = c.loop-p in
    let e : line v.left.now ≡ got c.in_ok-line.line c.in_ok-line.after.now = search rules in
    let n : check v.b c.in_ok-line.line ≡ Ok tt = search rules in
    let k = add-keeps v.b c.in_ok-line.line in
    let s : c.args.count + 2 - v.p-counter - 1 ≡ c.args.count + 2 - (v.p-counter + 1) = omega arith in
    rw (c.add.ensures, sym s) (v.invariant.0 ∙ lines_more _ _ _ _ _ _ (omega arith) e n, omega arith, omega arith)

pub returns-then-not-is_empty : goal.returns-then-not-is_empty
returns-then-not-is_empty c =
    let v = c.loop-p in
    let h : 0 < length v.left.now = search rules in
    let p : c.args.count + 2 ≡ v.p-counter = omega arith in
    ap Err (c.at-then-not-is_empty.ensures ∙ ap (refusal reason.LineShape) p) ∙ sym (v.invariant.0 ∙ lines_extra _ _ _ _ (omega arith) h)

pub returns : goal.returns
returns c =
    let v = c.loop-p in
    let h : length v.left.now ≡ 0 = search rules in
    c.finished.ensures ∙ sym (v.invariant.0 ∙ lines-done _ _ _ _ (omega arith) h)
