-- `command_load::load_adjusted` meets its contract: the shifts are those of its width.
-- Assumes nothing.
use native.Mathlib.Omega.{arith}
use lib.ListN.{get_or, length-set}
use Rattle.layout.specs.Layout.{dx_at}
use Rattle.command_fields.proofs.Shifts.{one-shifted-positive}
use Rattle.command_load.proofs.Adjusting.{left-fits, adjusted-left, adjusted-right}
use Rattle.command_load.proofs.load_adjusted.Goals as goal

pub overflow_add-m : goal.overflow_add-m
overflow_add-m c =
    let dx = get_or c.args.m.now dx_at 0 in
    omega (arith, left-fits c.args.width c.requires.at_in_bounds.1 c.requires.at_in_bounds.2 c.args.c c.field-data.ensures dx (omega (arith, c.slice_known-then-flag-1.given dx_at)))

pub returns-then-flag : goal.returns-then-flag
returns-then-flag c = adjusted-left c.args.width c.requires.at_in_bounds.1 c.requires.at_in_bounds.2 c.args.c c.field-data.ensures c.args.m.now c.args.at c.flag.ensures c.if-flag.true

pub nonzero_rem-m : goal.nonzero_rem-m
nonzero_rem-m c = one-shifted-positive _ (omega arith)

pub returns : goal.returns
returns c = adjusted-right c.args.width c.requires.at_in_bounds.1 c.requires.at_in_bounds.2 c.args.c c.field-data.ensures c.args.m.now c.args.at c.flag.ensures c.if-flag.false c.extend.ensures

pub bounds-m-4112-then-flag : goal.bounds-m-4112-then-flag
bounds-m-4112-then-flag c = simp length-set (omega arith)
