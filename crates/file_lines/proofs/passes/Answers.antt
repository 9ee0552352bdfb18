-- `file_lines::passes` meets its contract.
-- Assumes nothing.
use mathlib.Core.Path.{refl}
use Rattle.file_lines.specs.declared.Line.TheVariants.{Passes}
use Rattle.file_lines.proofs.LineKinds as kinds
use Rattle.file_lines.proofs.passes.Goals as goal

pub returns-in-Some : goal.returns-in-Some
returns-in-Some c = kinds.by_number (λ n. Passes n) c.in-Some.ensures refl

pub returns-in-None : goal.returns-in-None
returns-in-None c = kinds.by-none (λ n. Passes n) c.in-None.ensures refl
