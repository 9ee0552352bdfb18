-- `sorted_lines::failing_line` meets its contract: four texts, one after another.
-- Assumes nothing.
use native.Mathlib.Omega.{arith}
use Rattle.file_bytes.proofs.Puts.{done}
use Rattle.file_printed.proofs.Lines.{named_end}
use Rattle.sorted_lines.proofs.Lines.{difference-end, put-failing}
use Rattle.sorted_lines.proofs.failing_line.Goals as goal

pub put_named-b-requires : goal.put_named-b-requires
put_named-b-requires c = omega (arith, named_end _ _ _ c.put_named-a.ensures.value)

pub put_difference-c-requires : goal.put_difference-c-requires
put_difference-c-requires c =
    record {
      at_bound = omega (arith, named_end _ _ _ c.put_named-a.ensures.value, named_end _ _ _ c.put_named-b.ensures.value);
      difference_bound = c.requires;
    }

pub put-requires : goal.put-requires
put-requires c =
    omega (
      arith,
      named_end _ _ _ c.put_named-a.ensures.value,
      named_end _ _ _ c.put_named-b.ensures.value,
      difference-end _ c.args.difference c.put_difference-c.ensures.value,
    )

pub returns : goal.returns
returns c =
    let a = c.args in
    let r = put-failing a.line.now a.point a.place a.difference
    (done (c.put_named-a.ensures.value, c.put_named-a.ensures.line_after))
    (done (c.put_named-b.ensures.value, c.put_named-b.ensures.line_after))
    (done (c.put_difference-c.ensures.value, c.put_difference-c.ensures.line_after))
    (done (c.put.ensures.value, c.put.ensures.out_after)) in
    record { value = r.0; line_after = r.1 }
