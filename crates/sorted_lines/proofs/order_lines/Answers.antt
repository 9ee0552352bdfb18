-- `sorted_lines::order_lines` meets its contract: the lines of the entries that are left, put after those that are there, make all.
-- Assumes nothing.
use native.Mathlib.Omega.{arith}
use Rattle.sorted_lines.proofs.Lines.{lining-starts, lining-room, lining-goes, lining_ends}
use Rattle.sorted_lines.proofs.order_lines.Goals as goal

pub loop-entry-init : goal.loop-entry-init
loop-entry-init c = lining-starts c.args.out.now c.args.order.now

pub put_entry-at-requires : goal.put_entry-at-requires
put_entry-at-requires c = lining-room c.args.out.now c.args.order.now c.loop-entry.invariant c.requires (omega arith)

pub loop-entry-preserved : goal.loop-entry-preserved
loop-entry-preserved c = lining-goes c.args.out.now c.args.order.now c.loop-entry.invariant (omega arith) (c.put_entry-at.ensures.value, c.put_entry-at.ensures.out_after)

pub returns : goal.returns
returns c =
    let r = lining_ends c.args.out.now c.args.order.now c.loop-entry.invariant (omega arith) in
    record { value = r.0; out_after = r.1 }

pub shape_of-out : goal.shape_of-out
shape_of-out c = c.loop-entry.invariant.room
