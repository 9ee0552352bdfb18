-- `generator::Generator::output` meets its contract: each arm is its oscillator mode's P, by the laws of the output.
-- Assumes nothing.
use native.Mathlib.Omega.{arith}
use Rattle.generator_envelope.proofs.Levels.{level-low}
use Rattle.generator.specs.Generator.{v_of}
use Rattle.generator.proofs.Turns.{k-of-j, k-of-gk, output-shaped, output-cosines, output-sine}
use Rattle.generator.proofs.Generator.output.Goals as goal
use Rattle.generator.proofs.Generator.output.Goals.{in_default-via-then-mode-lt1, in_default-via-else-mode-lt1+else-mode-lt4}

pub sine_under-requires : goal.sine_under-requires
sine_under-requires c = (c.requires.ranged.gm-low, omega (arith, c.requires.j_bound), rw c.level-v.ensures (level-low _ _ _))

pub returns-in-8 : goal.returns-in-8
unfolding v_of
returns-in-8 c =
    output-sine _ c.args.self _ _ _ _ c.level-v.ensures (k-of-j c.args.self _ c.in-8.is) c.sine_under.ensures
    (λ e. omega (arith, c.in-8.is, e)) (λ e. omega (arith, c.in-8.is, e)) (λ e. omega (arith, c.in-8.is, e)) (λ e. omega (arith, c.in-8.is, e))

pub cosines_under-requires : goal.cosines_under-requires
cosines_under-requires c = (c.requires.ranged.gn-low, c.requires.ranged.gm-low, omega (arith, c.requires.ranged.gk-low), rw c.level-v.ensures (level-low _ _ _))

pub returns-in-4 : goal.returns-in-4
unfolding v_of
returns-in-4 c = output-cosines _ c.args.self _ _ _ _ c.level-v.ensures (k-of-gk c.args.self _ (λ e. omega (arith, c.in-4.is, e))) c.cosines_under.ensures c.in-4.is

pub enveloped-requires : goal.enveloped-requires
enveloped-requires c = (c.shaped.ensures.bit, c.shaped.ensures.low, rw c.level-v.ensures (level-low _ _ _))

pub returns-in-1-to-3 : goal.returns-in-1-to-3
unfolding v_of
returns-in-1-to-3 c = output-shaped _ c.args.self _ _ _ _ c.level-v.ensures (k-of-gk c.args.self _ (λ e. omega arith)) c.enveloped.ensures c.shaped.ensures

pub sine_under-requires-in_default : goal.sine_under-requires-in_default
sine_under-requires-in_default c = (c.requires.ranged.gm-low, omega (arith, c.requires.ranged.gk-low), rw c.level-v.ensures (level-low _ _ _))

pub returns-in_default : goal.returns-in_default
unfolding v_of
returns-in_default c =
    let sine = output-sine _ c.args.self _ _ _ _ c.level-v.ensures (k-of-gk c.args.self _ (λ e. omega arith)) c.sine_under-in_default.ensures in
    elim c.in_default.branch [
      | in_default-via-then-mode-lt1 w ↦ sine (λ e. omega arith) (λ e. omega arith) (λ e. omega arith) (λ e. omega arith)
      | in_default-via-else-mode-lt1+else-mode-lt4 w ↦ sine (λ e. omega arith) (λ e. omega arith) (λ e. omega arith) (λ e. omega arith)
    ]
