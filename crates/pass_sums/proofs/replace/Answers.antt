-- `pass_sums::replace` meets its contract: the store is the definition's.
-- Assumes nothing.
use mathlib.Core.Path.{refl}
use native.Mathlib.Omega.{arith}
use Rattle.pass_sums.proofs.Memory.{put-code}
use Rattle.pass_sums.proofs.replace.Goals as goal

pub returns : goal.returns
returns c = put-code _ _ _ (omega arith) refl
