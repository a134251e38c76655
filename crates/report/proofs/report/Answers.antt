-- `report::report` meets its contract.
use Rattle.report.proofs.report.Goals as goal

pub returns : goal.returns
returns c = c.report_in.ensures
