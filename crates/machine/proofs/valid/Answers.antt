-- `machine::valid` meets its contract: the sweep's answer is question 2's.
-- Assumes nothing.
use mathlib.Core.Path.{sym}
use Rattle.machine.proofs.Sweep.{valid-swept}
use Rattle.machine.proofs.valid.Goals as goal

pub returns : goal.returns
returns c =
    rw (
      c.generators_within.ensures,
      c.modifiers_within.ensures,
      c.words_below-sums.ensures,
      c.words_below-dacs.ensures,
      c.controls_within.ensures,
      c.delays_within.ensures,
      c.ticks_counted.ensures,
    )
    (sym (valid-swept c.args.text c.args.m.now))
