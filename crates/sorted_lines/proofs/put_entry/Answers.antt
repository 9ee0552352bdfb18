-- `sorted_lines::put_entry` meets its contract: the line is the first part of its own buffer.
-- Assumes nothing.
use native.Mathlib.Omega.{arith}
use Rattle.sorted_lines.specs.SortedLines.{entry_line}
use Rattle.sorted_lines.proofs.Lines.{entry-line-length}
use Rattle.sorted_lines.proofs.Parts.{part-within, part-fits, part-put}
use Rattle.sorted_lines.proofs.put_entry.Goals as goal

pub slice_bounds-put-end : goal.slice_bounds-put-end
slice_bounds-put-end c =
    let g = c.args.g in
    part-within (entry_line g) _ (omega (arith, entry-line-length g)) (c.entry_line-size.ensures.value, c.entry_line-size.ensures.line_after)

pub put-requires : goal.put-requires
put-requires c =
    let g = c.args.g in
    part-fits (entry_line g) _ (omega (arith, entry-line-length g)) (c.entry_line-size.ensures.value, c.entry_line-size.ensures.line_after)
    c.args.at _ (omega (arith, c.requires, entry-line-length g))

pub returns : goal.returns
returns c =
    let a = c.args in
    let r = part-put (entry_line a.g) _ (omega (arith, entry-line-length a.g)) (c.entry_line-size.ensures.value, c.entry_line-size.ensures.line_after) a.at a.out.now
    (c.put.ensures.value, c.put.ensures.out_after) in
    record { value = r.0; out_after = r.1 }
