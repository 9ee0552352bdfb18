-- `sorted_lines::put_difference` meets its contract: a word or a written item.
-- Assumes nothing.
use Rattle.sorted_lines.proofs.put_difference.Goals as goal

pub returns-in-Word : goal.returns-in-Word
returns-in-Word c = rw c.in-Word.is (record { value = c.put_named.ensures.value; line_after = c.put_named.ensures.line_after })

pub returns-in-Written : goal.returns-in-Written
returns-in-Written c = rw c.in-Written.is (record { value = c.put_named-in-Written.ensures.value; line_after = c.put_named-in-Written.ensures.line_after })
