-- `generator::Generator::play` meets its contract: what the steps have computed is the turn, whether it triggers or not.
-- Assumes nothing.
use Rattle.generator.proofs.Turns.{sounded-triggers, sounded-quiet}
use Rattle.generator.proofs.Generator.play.Goals as goal

pub returns-then-sounded : goal.returns-then-sounded
returns-then-sounded c =
    sounded-triggers
    c.args.self c.args.f c.args.on c.requires.on_value.0 c.requires.on_value.1 _ _ _ _
    c.phase-exact.ensures c.low-j.ensures.is c.output-p.ensures c.advance-sounded.ensures
    c.ended.ensures c.if-sounded.true

pub returns-else-sounded : goal.returns-else-sounded
returns-else-sounded c =
    sounded-quiet
    c.args.self c.args.f c.args.on c.requires.on_value.0 c.requires.on_value.1 _ _ _ _
    c.phase-exact.ensures c.low-j.ensures.is c.output-p.ensures c.advance-sounded.ensures
    c.if-sounded.false
