-- `file_wave::put_frame` meets its contract: two samples, one after another.
-- Assumes nothing.
use Rattle.file_wave.proofs.Numbers as numbers
use Rattle.file_wave.proofs.put_frame.Goals as goal

pub returns : goal.returns
returns c =
    let a = c.args in
    let r = numbers.put-frame a.out.now a.left a.right (numbers.number_put 3 _ (c.put_number-middle.ensures.value, c.put_number-middle.ensures.out_after)) (numbers.number_put 3 _ (c.put_number.ensures.value, c.put_number.ensures.out_after)) in
    record { value = r.0; out_after = r.1 }
