-- `command_modifier::load_mmode` meets its contract: its two parts make the word.
-- Assumes nothing.
use mathlib.Core.Path.{ap}
use Prim.Native.Nat.{ℕ}
use native.Mathlib.Omega.{arith}
use lib.ListN.{get_or, set}
use Rattle.command_modifier.proofs.Modes.{mmode-fits, mmode-is}
use Rattle.command_modifier.proofs.load_mmode.Goals as goal

pub overflow_mul-m : goal.overflow_mul-m
overflow_mul-m c =
    let mmode = get_or c.args.m.now c.args.at 0 in
    omega (arith, mmode-fits mmode c.args.c c.flag.ensures c.field.ensures c.chosen-function.ensures c.flag-2.ensures c.field-2.ensures c.chosen-scales.ensures (omega (arith, c.slice_known-2-1.given c.args.at)))

pub overflow_add-m : goal.overflow_add-m
overflow_add-m c =
    let mmode = get_or c.args.m.now c.args.at 0 in
    omega (arith, mmode-fits mmode c.args.c c.flag.ensures c.field.ensures c.chosen-function.ensures c.flag-2.ensures c.field-2.ensures c.chosen-scales.ensures (omega (arith, c.slice_known-2-1.given c.args.at)))

pub returns : goal.returns
returns c =
    let mmode = get_or c.args.m.now c.args.at 0 in
    ap (λ (v : ℕ). set c.args.m.now c.args.at v) (mmode-is mmode c.args.c c.flag.ensures c.field.ensures c.chosen-function.ensures c.flag-2.ensures c.field-2.ensures c.chosen-scales.ensures)
