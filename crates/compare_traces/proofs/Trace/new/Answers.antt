-- `compare_traces::Trace::new` meets its contract: the arrays are zeros.
-- Assumes nothing.
use mathlib.Core.Path.{refl}
use Rattle.base_lists.specs.Lists.{zeros}
use Rattle.compare_traces.specs.AsCoded.{untraced}
use Rattle.compare_traces.proofs.Trace.new.Goals as goal

pub returns : goal.returns
unfolding zeros untraced
returns c = refl
