-- `file_printed::put_signed` meets its contract: the digits alone, or a minus sign and then digits.
-- Assumes nothing.
use Rattle.file_bytes.proofs.Puts.{done}
use Rattle.file_printed.proofs.Lines as lines
use Rattle.file_printed.proofs.put_signed.Goals as goal

pub returns-then-n-lt524288 : goal.returns-then-n-lt524288
returns-then-n-lt524288 c =
    let a = c.args in
    let r = lines.put-positive a.line.now a.at a.n c.if-n-lt524288.true (c.put_digits.ensures.value, c.put_digits.ensures.line_after) in
    record { value = r.0; line_after = r.1 }

pub returns : goal.returns
returns c =
    let a = c.args in
    let r = lines.put-negative a.line.now a.at a.n c.if-n-lt524288.false
    (done (c.put-next.ensures.value, c.put-next.ensures.out_after))
    (done (c.put_digits-2.ensures.value, c.put_digits-2.ensures.line_after)) in
    record { value = r.0; line_after = r.1 }
