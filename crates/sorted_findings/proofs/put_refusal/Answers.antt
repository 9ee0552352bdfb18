-- `sorted_findings::put_refusal` meets its contract: the line is the first part of its own buffer.
-- Assumes nothing.
use native.Mathlib.Omega.{arith}
use Rattle.sorted_lines.proofs.Parts.{part-within, part-fits, part-first}
use Rattle.sorted_findings.specs.Findings.{refused_line}
use Rattle.sorted_findings.proofs.Comparing.{refused-line-length}
use Rattle.sorted_findings.proofs.put_refusal.Goals as goal

pub slice_bounds-put-end-2 : goal.slice_bounds-put-end-2
slice_bounds-put-end-2 c =
    let r = c.args.refused in
    part-within (refused_line r) _ (omega (arith, refused-line-length r)) (c.refusal_line-size.ensures.value, c.refusal_line-size.ensures.line_after)

pub put-requires : goal.put-requires
put-requires c =
    let r = c.args.refused in
    part-fits (refused_line r) _ (omega (arith, refused-line-length r)) (c.refusal_line-size.ensures.value, c.refusal_line-size.ensures.line_after) 0 _ (omega (arith, refused-line-length r))

pub returns : goal.returns
returns c =
    let a = c.args in
    let both = part-first (refused_line a.refused) _ (omega (arith, refused-line-length a.refused)) (c.refusal_line-size.ensures.value, c.refusal_line-size.ensures.line_after) a.out.now (c.put.ensures.value, c.put.ensures.out_after) in
    record { value = both.0; out_after = both.1 }
