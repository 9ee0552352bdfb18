-- `file_wave::put_format_kind` meets its contract: four texts, one after another.
-- Assumes nothing.
use Rattle.file_bytes.proofs.Puts.{done}
use Rattle.file_wave.proofs.Numbers as numbers
use Rattle.file_wave.proofs.put_format_kind.Goals as goal

pub returns : goal.returns
returns c =
    let a = c.args in
    numbers.put-kind a.out.now 12 (done (c.put-a.ensures.value, c.put-a.ensures.out_after)) (numbers.number_put 4 16 (c.put_number-b.ensures.value, c.put_number-b.ensures.out_after)) (numbers.number_put 2 1 (c.put_number-c.ensures.value, c.put_number-c.ensures.out_after)) (numbers.number_put 2 2 (c.put_number.ensures.value, c.put_number.ensures.out_after))
