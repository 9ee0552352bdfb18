-- `generator_turn::dac` meets its contract by the text.
use mathlib.Core.Path.{refl}
use native.Mathlib.Omega.{arith}
use Rattle.generator_turn.proofs.dac.Goals as goal

pub returns-in-Of1978 : goal.returns-in-Of1978
returns-in-Of1978 c = (rw c.in-Of1978.is refl, omega arith)

pub returns-in-Old : goal.returns-in-Old
returns-in-Old c = (rw c.in-Old.is refl, omega arith)
