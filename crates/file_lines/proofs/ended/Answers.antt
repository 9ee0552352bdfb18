-- `file_lines::ended` meets its contract.
-- Assumes nothing.
use Rattle.file_lines.proofs.FileLines as file-lines
use Rattle.file_lines.proofs.ended.Goals as goal

pub returns-then-n-gt-FILE_BYTES : goal.returns-then-n-gt-FILE_BYTES
returns-then-n-gt-FILE_BYTES c = file-lines.ended-long c.args.file.now c.if-n-gt-FILE_BYTES.true

pub returns-then-n-eq0 : goal.returns-then-n-eq0
returns-then-n-eq0 c = file-lines.ended-empty c.args.file.now c.if-n-gt-FILE_BYTES.false c.if-n-eq0.true

pub returns : goal.returns
returns c = file-lines.ended_by c.args.file.now c.if-n-gt-FILE_BYTES.false c.if-n-eq0.false
