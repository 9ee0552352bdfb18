-- `file_lines::command` meets its contract.
-- Assumes nothing.
use mathlib.Core.Path.{refl}
use Rattle.file_lines.specs.declared.Line.TheVariants.{Command}
use Rattle.file_lines.proofs.LineKinds as kinds
use Rattle.file_lines.proofs.command.Goals as goal

pub returns-in-Some : goal.returns-in-Some
returns-in-Some c = kinds.by_number (λ n. Command n) c.in-Some.ensures refl

pub returns-in-None : goal.returns-in-None
returns-in-None c = kinds.by-none (λ n. Command n) c.in-None.ensures refl
