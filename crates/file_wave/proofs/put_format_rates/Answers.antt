-- `file_wave::put_format_rates` meets its contract: four numbers, one after another.
-- Assumes nothing.
use Rattle.file_wave.proofs.Numbers as numbers
use Rattle.file_wave.proofs.put_format_rates.Goals as goal

pub returns : goal.returns
returns c =
    let a = c.args in
    numbers.put-rates a.out.now 24 a.rate (numbers.number_put 4 _ (c.put_number-a.ensures.value, c.put_number-a.ensures.out_after)) (numbers.number_put 4 _ (c.put_number-b.ensures.value, c.put_number-b.ensures.out_after)) (numbers.number_put 2 6 (c.put_number-c.ensures.value, c.put_number-c.ensures.out_after)) (numbers.number_put 2 24 (c.put_number.ensures.value, c.put_number.ensures.out_after))
