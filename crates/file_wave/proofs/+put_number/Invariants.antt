-- `file_wave::put_number` ends: k falls at each call.
-- Assumes nothing.
use Rattle.file_wave.proofs.+put_number.Given as goal

abbrev pub decreases-put_number : goal.decreases-put_number
decreases-put_number l = l.k
