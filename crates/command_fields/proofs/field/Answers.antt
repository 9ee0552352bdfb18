-- `command_fields::field` meets its contract: a shift is a division by a power of two.
-- Assumes nothing.
use native.Mathlib.Omega.{arith}
use Rattle.command_fields.proofs.Shifts.{one-shifted-positive, field-code}
use Rattle.command_fields.proofs.field.Goals as goal

pub nonzero_rem-result : goal.nonzero_rem-result
nonzero_rem-result c = one-shifted-positive _ (omega arith)

pub returns : goal.returns
returns c = field-code _ _ _ _ _ (omega arith) (omega arith) (omega arith)
