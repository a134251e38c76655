-- `writer::put_lines` meets its contract.
use Rattle.std.proofs.Common.{rules, arith, refl, ap, sym, length}
use mathlib.Core.Logic.{inl, inr}
use Rattle.text.specs.Spelling.{tens}
use Rattle.text.proofs.Puts.{onward-step, onward-end}
use Rattle.writer.proofs.States.{state-here, no-mark-left, no-sign-left}
use Rattle.writer.proofs.put_lines.Goals as goal

pub put_mark-requires : goal.put_mark-requires
unfolding tens
put_mark-requires c =
    let s = c.in-Some.ensures.steps in
    omega (arith, c.loop-k.invariant.3, s.1, ap length s.0.0)

pub loop-k-preserved : goal.loop-k-preserved
loop-k-preserved c =
    let s = c.in-Some.ensures.steps in
    let i = c.loop-k.invariant in (
      search rules,
      tt,
      rw (c.put_messages-rest.ensures.rest, s.2, sym s.1) (onward-step (onward-step i.2 (rw (sym s.1) (state-here _ _ _ _ s.0.0 s.0.1)) c.put_mark.ensures) refl c.put_messages-rest.ensures.put),
      omega (arith, i.3, s.2, ap length s.0.0),
    )

pub returns : goal.returns
returns c =
    onward-end c.loop-k.invariant.2 (elim c.in-None.ensures.steps.0 [
      | inl h ↦ no-mark-left _ _ _ _ h.1.0
      | inr h ↦ no-sign-left _ _ _ _ h.1.0
    ])
