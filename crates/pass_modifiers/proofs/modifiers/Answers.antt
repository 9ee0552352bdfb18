-- `modifiers` meets its contract: after k modifiers the arrays hold the lagging stage, which is the definition's.
use mathlib.Core.Path.{refl, ◌∙◌}
use native.Mathlib.Omega.{arith}
use Rattle.layout.proofs.Reach.{same-reach}
use Rattle.pass_modifiers.specs.AsCoded.{lagged}
use Rattle.pass_modifiers.proofs.Lags.{lagged-on, stage-end}
use Rattle.pass_modifiers.proofs.modifiers.Goals as goal

pub loop-k-init : goal.loop-k-init
unfolding lagged
loop-k-init c = (refl, rw c.new-lag.ensures refl)

pub step-requires : goal.step-requires
step-requires c = record { reaches = same-reach c.loop-k.invariant.0 c.requires.reaches; k_bound = omega (arith, c.requires.n_bound, c.loop-k-test.true) }

pub loop-k-preserved : goal.loop-k-preserved
loop-k-preserved c =
    let a = c.args in (
      c.step.auto.m ∙ c.loop-k.invariant.0,
      lagged-on a.text a.t (record { words = a.m.now; memory = a.memory.now }) a.s.now c.loop-k.k c.step.ensures c.loop-k.invariant.1,
    )

pub returns : goal.returns
returns c =
    let a = c.args in
    stage-end a.text a.t (record { words = a.m.now; memory = a.memory.now }) a.s.now a.n c.loop-k.k (omega (arith, c.loop-k.auto.k-end, c.loop-k-test.false)) c.loop-k.invariant.1
