-- `file_wave::put_riff` meets its contract: three texts, one after another.
-- Assumes nothing.
use Rattle.file_bytes.proofs.Puts.{done}
use Rattle.file_wave.proofs.Numbers as numbers
use Rattle.file_wave.proofs.put_riff.Goals as goal

pub returns : goal.returns
returns c =
    let a = c.args in
    numbers.put-riff a.out.now a.bytes (done (c.put-a.ensures.value, c.put-a.ensures.out_after)) (numbers.number_put 4 _ (c.put_number-b.ensures.value, c.put_number-b.ensures.out_after)) (done (c.put.ensures.value, c.put.ensures.out_after))
