-- `delay_questions::memory_good` meets its contract: the length, and the or of the words.
-- Assumes nothing.
use mathlib.Core.Path.{sym, ◌∙◌}
use borrow.Author.Tests.{eq-eqb, ne_eqb}
use Rattle.delay_questions.proofs.Memory.{other_length, right-length}
use Rattle.delay_questions.proofs.memory_good.Goals as goal

pub returns-then-memory-eq-MEMORY_WORDS : goal.returns-then-memory-eq-MEMORY_WORDS
returns-then-memory-eq-MEMORY_WORDS c = rw c.ored.ensures (sym (right-length _ (eq-eqb _ _ c.if-memory-eq-MEMORY_WORDS.true)))

pub returns-else-memory-eq-MEMORY_WORDS : goal.returns-else-memory-eq-MEMORY_WORDS
returns-else-memory-eq-MEMORY_WORDS c =
    let other = ne_eqb _ _ c.if-memory-eq-MEMORY_WORDS.false in
    other ∙ sym (other_length _ other)
