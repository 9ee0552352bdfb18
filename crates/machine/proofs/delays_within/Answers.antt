-- `machine::delays_within` meets its contract: the flags are those of the built modes.
-- Assumes nothing.
use mathlib.Core.Path.{refl}
use Prim.Native.Nat.{◌+◌}
use lib.Dec.{lit<}
use Rattle.base_lists.specs.Lists.{is_one_of, tabulate}
use Rattle.base_lists.proofs.Below.{both}
use Rattle.layout.specs.Layout.{delay_at, delay_words, delay_p}
use Rattle.layout_codes.specs.BuiltCodes.{built_mode}
use Rattle.machine_sweep.proofs.Words.{flags-tell, words-tested}
use Rattle.machine.specs.Questions.{delay_registers}
use Rattle.machine.specs.AsCoded.{limits_of, repeated, delays_within}
use Rattle.machine.proofs.Limits.{limits-swept}
use Rattle.machine.proofs.delays_within.Goals as goal

pub returns : goal.returns
unfolding delays_within repeated tabulate built_mode is_one_of
returns c =
    let m = c.args.m.now in
    both
    (limits-swept _ (repeated (limits_of delay_registers) 28) m (delay_at 0) 1 c.swept.result refl c.swept.ensures)
    (words-tested c.flags-built.result built_mode 16 (lit< tt) (flags-tell _ 16 _ c.flags-built.ensures built_mode tt) m (delay_at 0 + delay_p) delay_words 32 c.flagged.result c.flagged.ensures)
