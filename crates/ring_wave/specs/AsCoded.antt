-- What making a file answers, as the code has it.
-- Assumes nothing.
use Rattle.std.specs.Prelude.{ℕ, Result, Ok, Err}
use Rattle.ring_begin.specs.declared.line.Line.{Line}

-- The length of the file; what is refused has none.
abbrev pub length_of : Result ℕ Line → ℕ
length_of (Ok length) = length
length_of (Err _) = 0
