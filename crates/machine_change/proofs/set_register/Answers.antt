-- `machine_change::set_register` meets its contract: each register is set at its place.
-- Assumes nothing.
use mathlib.Core.Path.{◌≡◌, ap, ◌∙◌}
use Prim.Native.Nat.{ℕ, ◌+◌, ◌*◌, ◌<◌}
use native.Mathlib.Omega.{arith}
use native.Mathlib.Nat.{add-zero}
use lib.ListN.{get_or}
use Rattle.layout_texts.specs.declared.Text.TheVariants.{Of1978}
use Rattle.machine.proofs.ValidMachine.{valid-generator}
use Rattle.machine_change.specs.Change.{register_changed}
use Rattle.machine_change.proofs.Branches.{dac-below}
use Rattle.machine_change.proofs.set_register.Goals as goal

pub returns-in-Gmode : goal.returns-in-Gmode
unfolding register_changed
returns-in-Gmode c = rw (c.in-Gmode.is, c.wide-at.ensures)

pub returns-in-Gsum : goal.returns-in-Gsum
unfolding register_changed
returns-in-Gsum c = rw (c.in-Gsum.is, c.wide-at.ensures)

pub returns-in-Gfm : goal.returns-in-Gfm
unfolding register_changed
returns-in-Gfm c = rw (c.in-Gfm.is, c.wide-at.ensures)

-- GO and a DAC number stay below the word's end.
pub overflow_add-m-in-Dac-2 : goal.overflow_add-m-in-Dac-2
overflow_add-m-in-Dac-2 c =
    let a = c.args in
    let e : 11 * c.wide-at.result + 0 ≡ 11 * a.generator = ap (λ (x : ℕ). 11 * x + 0) c.wide-at.ensures ∙ add-zero (11 * a.generator) in
    let low : get_or a.m.now (11 * c.wide-at.result + 0) 0 < 1048576 = rw e (valid-generator Of1978 a.m.now c.requires.m_len.1 a.generator c.requires.generator_lt_generators.0).go in
    omega (arith, low, dac-below a.register a.value c.in-Dac.is c.requires.generator_lt_generators.1)

pub returns-in-Dac : goal.returns-in-Dac
unfolding register_changed
returns-in-Dac c = rw (c.in-Dac.is, c.wide-at.ensures)
