-- `file_wave::put_data_head` meets its contract: a text and a number.
-- Assumes nothing.
use Rattle.file_bytes.proofs.Puts.{done}
use Rattle.file_wave.proofs.Numbers as numbers
use Rattle.file_wave.proofs.put_data_head.Goals as goal

pub returns : goal.returns
returns c =
    let a = c.args in
    numbers.put-data-head a.out.now 36 a.bytes (done (c.put-a.ensures.value, c.put-a.ensures.out_after)) (numbers.number_put 4 _ (c.put_number.ensures.value, c.put_number.ensures.out_after))
