-- `file_printed::pass_line` meets its contract: six texts, one after another.
-- Assumes nothing.
use native.Mathlib.Omega.{arith}
use Rattle.file_bytes.proofs.Puts.{done}
use Rattle.file_printed.proofs.Lines as lines
use Rattle.file_printed.proofs.pass_line.Goals as goal

pub put-b-requires : goal.put-b-requires
put-b-requires c = omega (arith, lines.named_end _ _ _ c.put_named-a.ensures.value)

pub put_signed-c-requires : goal.put_signed-c-requires
put_signed-c-requires c = omega (arith, lines.named_end _ _ _ c.put_named-a.ensures.value)

pub put-d-requires : goal.put-d-requires
put-d-requires c = omega (arith, lines.named_end _ _ _ c.put_named-a.ensures.value, lines.signed-end _ _ c.put_signed-c.ensures.value)

pub put_signed-e-requires : goal.put_signed-e-requires
put_signed-e-requires c = omega (arith, lines.named_end _ _ _ c.put_named-a.ensures.value, lines.signed-end _ _ c.put_signed-c.ensures.value)

pub put-requires : goal.put-requires
put-requires c =
    omega (arith, lines.named_end _ _ _ c.put_named-a.ensures.value, lines.signed-end _ _ c.put_signed-c.ensures.value, lines.signed-end _ _ c.put_signed-e.ensures.value)

pub returns : goal.returns
returns c =
    let a = c.args in
    let r = lines.put-pass a.line.now a.counter a.left a.right
    (done (c.put_named-a.ensures.value, c.put_named-a.ensures.line_after))
    (done (c.put-b.ensures.value, c.put-b.ensures.out_after))
    (done (c.put_signed-c.ensures.value, c.put_signed-c.ensures.line_after))
    (done (c.put-d.ensures.value, c.put-d.ensures.out_after))
    (done (c.put_signed-e.ensures.value, c.put_signed-e.ensures.line_after))
    (done (c.put.ensures.value, c.put.ensures.out_after)) in
    record { value = r.0; line_after = r.1 }
