-- `writer::put_messages` meets its contract.
use Rattle.std.proofs.Common.{sym, ◌∙◌}
use Rattle.text.proofs.Puts.{onward-step, onward-end}
use Rattle.writer.proofs.States.{message-here, after-here, message-none, after_none, message-end, after-end}
use Rattle.writer.proofs.put_messages.Goals as goal

pub returns-then-from-k-clause-put : goal.returns-then-from-k-clause-put
returns-then-from-k-clause-put c = onward-end c.loop-m.invariant.0 (message-none _ c.in-Some.ensures.cases.0 (λ e. c.if-from-k.true (c.from.ensures ∙ e)) _)

pub returns-then-from-k-clause-rest : goal.returns-then-from-k-clause-rest
returns-then-from-k-clause-rest c = sym (c.loop-m.invariant.1 ∙ after_none _ c.in-Some.ensures.cases.0 (λ e. c.if-from-k.true (c.from.ensures ∙ e)))

pub loop-m-preserved : goal.loop-m-preserved
loop-m-preserved c =
    let f = sym c.from.ensures ∙ c.if-from-k.false in
    (onward-step c.loop-m.invariant.0 (message-here _ c.in-Some.ensures.cases.0 f _) c.put_message.ensures, c.loop-m.invariant.1 ∙ after-here _ c.in-Some.ensures.cases.0 f)

pub returns-clause-put : goal.returns-clause-put
returns-clause-put c = onward-end c.loop-m.invariant.0 (message-end _ _ c.in_default.ensures.cases _)

pub returns-clause-rest : goal.returns-clause-rest
returns-clause-rest c = sym (c.loop-m.invariant.1 ∙ after-end _ _ c.in_default.ensures.cases)
