-- `join_questions::mark` meets its contract: the marks are set one after the other.
-- Assumes nothing.
use native.Mathlib.Omega.{arith}
use borrow.Author.Tests.{eq-eqb, ne_eqb}
use Rattle.join_questions.specs.AsCoded.{uses_marked}
use Rattle.join_questions.proofs.mark.Goals as goal

pub bounds-used-sum : goal.bounds-used-sum
bounds-used-sum c = omega (arith, c.gsum-sum.ensures, c.requires.usable.gsums c.args.g c.requires.g_lt_generators)

pub bounds-used-input : goal.bounds-used-input
bounds-used-input c = omega (arith, c.wide-input.ensures, c.gfm.ensures, c.requires.usable.gfms c.args.g c.requires.g_lt_generators)

pub returns-then-run-eq-WRITE_DAC : goal.returns-then-run-eq-WRITE_DAC
unfolding uses_marked
returns-then-run-eq-WRITE_DAC c = rw (c.dac_number-dac.ensures.0, c.wide-input.ensures, c.gfm.ensures, c.gsum-sum.ensures, ← c.run_mode-run.ensures, eq-eqb _ _ c.if-run-eq-WRITE_DAC.true)

pub returns-else-run-eq-WRITE_DAC : goal.returns-else-run-eq-WRITE_DAC
unfolding uses_marked
returns-else-run-eq-WRITE_DAC c = rw (c.wide-input.ensures, c.gfm.ensures, c.gsum-sum.ensures, ← c.run_mode-run.ensures, ne_eqb _ _ c.if-run-eq-WRITE_DAC.false)
