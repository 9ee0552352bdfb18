-- `file_printed::order_refusal_line` meets its contract: two texts, one after another.
-- Assumes nothing.
use native.Mathlib.Omega.{arith}
use Rattle.file_bytes.proofs.Puts.{done}
use Rattle.file_printed.proofs.Lines as lines
use Rattle.file_printed.proofs.order_refusal_line.Goals as goal

pub put-requires : goal.put-requires
put-requires c = omega (arith, lines.named_end _ _ _ c.put_named-a.ensures.value)

pub returns : goal.returns
returns c =
    let a = c.args in
    let r = lines.put-order-refusal a.line.now a.n
    (done (c.put_named-a.ensures.value, c.put_named-a.ensures.line_after))
    (done (c.put.ensures.value, c.put.ensures.out_after)) in
    record { value = r.0; line_after = r.1 }
