-- `file_printed::put_named` meets its contract: the name, then the digits.
-- Assumes nothing.
use Rattle.file_bytes.proofs.Puts.{done}
use Rattle.file_printed.proofs.Lines as lines
use Rattle.file_printed.proofs.put_named.Goals as goal

pub returns : goal.returns
returns c =
    let a = c.args in
    let r = lines.put-named a.line.now a.at a.name.now a.n
    (done (c.put-next.ensures.value, c.put-next.ensures.out_after))
    (done (c.put_digits.ensures.value, c.put_digits.ensures.line_after)) in
    record { value = r.0; line_after = r.1 }
