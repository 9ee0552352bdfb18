-- `file_wave::put_number` meets its contract; k falls at each call.
-- Assumes nothing.
use Rattle.file_wave.proofs.Numbers as numbers
use Rattle.file_wave.proofs.+put_number.Goals as goal

pub returns-then-k-eq0 : goal.returns-then-k-eq0
returns-then-k-eq0 t c =
    let a = c.args in
    let r = numbers.put-none a.out.now a.at a.k a.x c.if-k-eq0.true in
    record { value = r.0; out_after = r.1 }

pub returns : goal.returns
returns t c =
    let a = c.args in
    let e = c.put_number.ensures in
    let r = numbers.put_one a.out.now a.at a.k a.x c.if-k-eq0.false (e.value, e.out_after) in
    record { value = r.0; out_after = r.1 }
