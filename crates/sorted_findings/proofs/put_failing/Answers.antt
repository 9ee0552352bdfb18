-- `sorted_findings::put_failing` meets its contract: the line is the first part of its own buffer.
-- Assumes nothing.
use native.Mathlib.Omega.{arith}
use Rattle.sorted_lines.specs.SortedLines.{failing_line}
use Rattle.sorted_lines.proofs.Lines.{failing-line-length}
use Rattle.sorted_lines.proofs.Parts.{part-within, part-fits, part-put}
use Rattle.sorted_findings.proofs.put_failing.Goals as goal

pub slice_bounds-put-end-2 : goal.slice_bounds-put-end-2
slice_bounds-put-end-2 c =
    let a = c.args in
    let file = failing_line a.parted.point a.parted.place a.difference in
    let short = failing-line-length a.parted.point a.parted.place a.difference in
    part-within file _ (omega (arith, short)) (c.failing_line-size.ensures.value, c.failing_line-size.ensures.line_after)

pub put-requires : goal.put-requires
put-requires c =
    let a = c.args in
    let file = failing_line a.parted.point a.parted.place a.difference in
    let short = failing-line-length a.parted.point a.parted.place a.difference in
    part-fits file _ (omega (arith, short)) (c.failing_line-size.ensures.value, c.failing_line-size.ensures.line_after) a.at _ (omega (arith, c.requires.line_bytes_bound, short))

pub returns : goal.returns
returns c =
    let a = c.args in
    let file = failing_line a.parted.point a.parted.place a.difference in
    let short = failing-line-length a.parted.point a.parted.place a.difference in let both = part-put file _ (omega (arith, short)) (c.failing_line-size.ensures.value, c.failing_line-size.ensures.line_after) a.at a.out.now (c.put.ensures.value, c.put.ensures.out_after) in record { value = both.0; out_after = both.1 }
