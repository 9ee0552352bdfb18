-- `reads_late` meets its contract.
-- Assumes nothing.
use Rattle.pass_views.proofs.reads_late.Goals as goal

pub returns-in-Of1978 : goal.returns-in-Of1978
returns-in-Of1978 c = rw c.in-Of1978.is c.reads_late.ensures

pub returns-in-Old : goal.returns-in-Old
returns-in-Old c = rw c.in-Old.is c.reads_late-in-Old.ensures
