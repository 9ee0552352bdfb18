-- `sorted_lines::entry_line` meets its contract: two texts, one after another.
-- Assumes nothing.
use native.Mathlib.Omega.{arith}
use Rattle.file_bytes.proofs.Puts.{done}
use Rattle.file_printed.proofs.Lines.{named_end}
use Rattle.sorted_lines.proofs.Lines.{put-entry}
use Rattle.sorted_lines.proofs.entry_line.Goals as goal

pub put-requires : goal.put-requires
put-requires c = omega (arith, named_end _ _ _ c.put_named-a.ensures.value)

pub returns : goal.returns
returns c =
    let a = c.args in
    let r = put-entry a.line.now a.g
    (done (c.put_named-a.ensures.value, c.put_named-a.ensures.line_after))
    (done (c.put.ensures.value, c.put.ensures.out_after)) in
    record { value = r.0; line_after = r.1 }
