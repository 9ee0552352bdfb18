-- `speed::Bank::generator_at` meets its contract: a generator that was loaded is within its widths.
-- Assumes nothing.
use Rattle.generator.proofs.Registers.{ranged}
use Rattle.speed.proofs.Bank.generator_at.Goals as goal

pub returns : goal.returns
returns c = rw c.load.ensures (ranged _)
