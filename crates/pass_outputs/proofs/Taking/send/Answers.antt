-- `send` meets its contract by the run mode: 0010, 0011 and all others.
use mathlib.Core.Path.{refl}
use borrow.Author.Tests.{ne_eqb}
use native.Mathlib.Numerals.{add-one}
use Rattle.pass_outputs.specs.AsCoded.{sent}
use Rattle.pass_outputs.proofs.Taking.send.Goals as goal

pub returns-then-run-eq-WRITE_DAC : goal.returns-then-run-eq-WRITE_DAC
unfolding sent
returns-then-run-eq-WRITE_DAC c = rw (← c.requires.run_value.0, c.if-run-eq-WRITE_DAC.true, ← c.sends.ensures, ← c.dac.ensures.0, c.wide-at.ensures) refl

pub returns-then-run-eq-WRITE_DATA : goal.returns-then-run-eq-WRITE_DATA
unfolding sent
returns-then-run-eq-WRITE_DATA c = rw (← c.requires.run_value.0, c.if-run-eq-WRITE_DATA.true, c.put.ensures, ← c.sends-then-run-eq-WRITE_DATA.ensures, add-one) refl

pub returns : goal.returns
unfolding sent
returns c = rw (← c.requires.run_value.0, ne_eqb _ 2 c.if-run-eq-WRITE_DAC.false, ne_eqb _ 3 c.if-run-eq-WRITE_DATA.false) refl
