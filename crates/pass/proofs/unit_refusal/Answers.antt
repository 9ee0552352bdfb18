-- `unit_refusal` meets its contract.
-- Assumes nothing.
use mathlib.Core.Path.{refl}
use Rattle.base_questions.specs.Questions.{asked}
use Rattle.pass.proofs.unit_refusal.Goals as goal

pub returns-in-Of1978 : goal.returns-in-Of1978
returns-in-Of1978 c = rw c.in-Of1978.is c.delay_refusal.ensures

pub returns-in-Old : goal.returns-in-Old
unfolding asked
returns-in-Old c = rw c.in-Old.is refl
