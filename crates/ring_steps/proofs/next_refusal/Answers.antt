-- `ring_steps::next_refusal` meets its contract: what is known after a step.
-- Assumes nothing.
use Rattle.ring_pass.specs.Benches.{ordering_in}
use Rattle.ring_pass.proofs.Asked.{again-decides}
use Rattle.ring_steps.proofs.next_refusal.Goals as goal

pub refusal_again-requires : goal.refusal_again-requires
refusal_again-requires c = c.requires.good c.if-took.true

pub returns-then-took : goal.returns-then-took
returns-then-took c =
    let known = c.requires in
    let a = c.args in
    again-decides a.bench.text (ordering_in a.bench) a.m.now a.memory.now (known.good c.if-took.true) (known.memory-good c.if-took.true) c.refusal_again.ensures

pub returns : goal.returns
returns c = c.requires.as_before c.if-took.false
