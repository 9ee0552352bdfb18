-- `machine::generators_within` meets its contract: antt computes the limits from the list of registers, and the table of built modes.
-- Assumes nothing.
use mathlib.Core.Path.{refl, ◌∙◌}
use lib.Dec.{lit<}
use Rattle.base_lists.specs.Lists.{is_one_of, tabulate}
use Rattle.base_lists.proofs.Below.{both}
use Rattle.layout.specs.Layout.{generator_words, GMODE}
use Rattle.layout_modes.specs.Modes.{built_run, built_oscillator}
use Rattle.layout_old_modes.specs.OldModes.{old_built_modes}
use Rattle.machine_sweep.proofs.Words.{table-tells, words-tested}
use Rattle.machine.specs.Questions.{built_modes, generator_registers}
use Rattle.machine.specs.AsCoded.{limits_of, repeated, modes_built, generators_within}
use Rattle.machine.proofs.Limits.{limits-swept}
use Rattle.layout_texts.specs.declared.Text.TheVariants.{Of1978, Old}
use Rattle.machine.proofs.generators_within.Goals as goal

pub returns-in-Of1978 : goal.returns-in-Of1978
unfolding generators_within modes_built repeated tabulate built_run built_oscillator is_one_of
returns-in-Of1978 c =
    let m = c.args.m.now in
    rw c.in-Of1978.is
    (c.generators_by.ensures
    ∙ both
    (limits-swept _ (repeated (limits_of (generator_registers Of1978)) 44) m 0 8 _ refl refl)
    (words-tested (tabulate built_modes 0 1024) built_modes 1024 (lit< tt) (table-tells built_modes 1024 _ refl) m GMODE generator_words 256 _ refl))

pub returns-in-Old : goal.returns-in-Old
unfolding generators_within modes_built repeated tabulate old_built_modes is_one_of
returns-in-Old c =
    let m = c.args.m.now in
    rw c.in-Old.is
    (c.generators_by-in-Old.ensures
    ∙ both
    (limits-swept _ (repeated (limits_of (generator_registers Old)) 44) m 0 8 _ refl refl)
    (words-tested (tabulate old_built_modes 0 256) old_built_modes 256 (lit< tt) (table-tells old_built_modes 256 _ refl) m GMODE generator_words 256 _ refl))
