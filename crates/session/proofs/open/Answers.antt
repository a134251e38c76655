-- `session::open` meets its contract: each case of the verdict's answer, with what it says of the pair (Opened).
use Rattle.std.proofs.Common.{◌∙◌, ap, Ok}
use Rattle.session.proofs.Opened.{begun, stuck, kept_out}
use Rattle.session.proofs.open.Goals as goal

pub returns-in-Ok-Compliant : goal.returns-in-Ok-Compliant
returns-in-Ok-Compliant c = begun _ _ _ _ _ _ c.judge.ensures (c.in-Ok-Compliant.is ∙ ap Ok c.in-Ok-Compliant.field-0-is)

pub returns-in-Ok-Stuck : goal.returns-in-Ok-Stuck
returns-in-Ok-Stuck c = rw c.into.ensures (stuck _ _ _ _ _ _ _ c.judge.ensures (c.in-Ok-Stuck.is ∙ ap Ok c.in-Ok-Stuck.field-0-is))

pub returns-in-Err : goal.returns-in-Err
returns-in-Err c = rw c.refused_open.ensures (kept_out _ _ _ _ _ _ c.judge.ensures c.in-Err.is)
