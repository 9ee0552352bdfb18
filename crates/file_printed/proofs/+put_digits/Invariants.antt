-- `file_printed::put_digits` ends: k falls at each call.
-- Assumes nothing.
use Rattle.file_printed.proofs.+put_digits.Given as goal

abbrev pub decreases-put_digits : goal.decreases-put_digits
decreases-put_digits l = l.k
