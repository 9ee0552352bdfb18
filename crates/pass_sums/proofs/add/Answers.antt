-- `pass_sums::add` meets its contract: the word's sum, stored, is the definition, and so is whether it leaves its range.
-- Assumes nothing.
use native.Mathlib.Omega.{arith}
use Rattle.pass_sums.proofs.Memory.{add-code, leaves-code}
use Rattle.pass_sums.proofs.add.Goals as goal

pub returns : goal.returns
returns c =
    let word = c.quadrant_word-word.ensures.is in
    (add-code _ _ _ (omega arith) word c.add-sum.ensures.as_signed, leaves-code _ _ _ (omega arith) word c.leaves_range.ensures)
