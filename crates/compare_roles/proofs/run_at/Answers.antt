-- `compare_roles::run_at` meets its contract: the run has it.
-- Assumes nothing.
use native.Mathlib.Omega.{arith}
use Rattle.compare_roles.proofs.run_at.Goals as goal

pub returns : goal.returns
returns c = c.requires.runs_of.at c.args.g c.requires.g_bound.0

pub overflow_cast-result : goal.overflow_cast-result
overflow_cast-result c = omega (arith, c.requires.runs_of.low c.args.g c.requires.g_bound.0)
