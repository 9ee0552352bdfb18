-- `any_order_counts::shift_role` meets its contract: each branch moves the count of its kind, and what goes with it.
-- Assumes nothing.
use native.Mathlib.Omega.{arith}
use mathlib.Core.Path.{sym, ◌∙◌}
use Rattle.any_order_counts.proofs.Places.{adder-moved, writer-moved, feeder-moved, reader-moved, other-moved}
use Rattle.any_order_counts.proofs.shift_role.Goals as goal

pub shift_adder-requires : goal.shift_adder-requires
shift_adder-requires c = omega (arith, c.gsum.ensures, c.requires.countable.gsums c.args.g c.requires.g_lt_generators)

pub returns-then-adding : goal.returns-then-adding
returns-then-adding c =
    let a = c.args in
    adder-moved a.up a.m.now a.kept.now a.g c.run_mode-run.ensures (sym c.adding.ensures ∙ c.if-adding.true) c.gsum.ensures
    c.shift_adder.ensures

pub shift_writer-requires : goal.shift_writer-requires
shift_writer-requires c = omega (arith, c.wide.ensures, c.gfm.ensures, c.requires.countable.gfms c.args.g c.requires.g_lt_generators)

pub returns-then-run-eq-WRITE_DATA : goal.returns-then-run-eq-WRITE_DATA
returns-then-run-eq-WRITE_DATA c =
    let a = c.args in
    writer-moved a.up a.m.now a.kept.now a.g c.run_mode-run.ensures c.if-run-eq-WRITE_DATA.true (c.wide.ensures ∙ c.gfm.ensures)
    c.shift_writer.ensures

pub shift_feeder-requires : goal.shift_feeder-requires
shift_feeder-requires c = (c.dac_number-d.ensures.1, omega (arith, c.wide-then-run-eq-WRITE_DAC.ensures, c.gfm-then-run-eq-WRITE_DAC.ensures, c.requires.countable.gfms c.args.g c.requires.g_lt_generators))

pub returns-then-run-eq-WRITE_DAC : goal.returns-then-run-eq-WRITE_DAC
returns-then-run-eq-WRITE_DAC c =
    let a = c.args in
    feeder-moved a.up a.m.now a.kept.now a.g c.run_mode-run.ensures c.if-run-eq-WRITE_DAC.true c.dac_number-d.ensures.0
    (c.wide-then-run-eq-WRITE_DAC.ensures ∙ c.gfm-then-run-eq-WRITE_DAC.ensures) c.shift_feeder.ensures

pub shift_reader-requires : goal.shift_reader-requires
shift_reader-requires c = omega (arith, c.gsum-then-run-eq-READ_DATA.ensures, c.requires.countable.gsums c.args.g c.requires.g_lt_generators)

pub returns-then-run-eq-READ_DATA : goal.returns-then-run-eq-READ_DATA
returns-then-run-eq-READ_DATA c =
    let a = c.args in
    reader-moved a.up a.m.now a.kept.now a.g c.run_mode-run.ensures c.if-run-eq-READ_DATA.true c.gsum-then-run-eq-READ_DATA.ensures c.shift_reader.ensures
    c.shift.ensures.kept_after

pub returns : goal.returns
returns c =
    let a = c.args in
    other-moved a.up a.m.now a.kept.now a.g c.run_mode-run.ensures (sym c.adding.ensures ∙ c.if-adding.false) c.if-run-eq-WRITE_DATA.false
    c.if-run-eq-WRITE_DAC.false c.if-run-eq-READ_DATA.false c.awaits-awaits.ensures c.shift_other.ensures c.shift_if.ensures
