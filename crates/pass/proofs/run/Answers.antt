-- `run` meets its contract: the promises of the stages, one after the other; each keeps the machine's length.
use mathlib.Core.Path.{◌∙◌}
use native.Mathlib.Omega.{arith}
use Rattle.base_lists.specs.Lists.{zeros}
use Rattle.layout.proofs.Reach.{same-reach}
use Rattle.pass.proofs.Runs.{ran-by}
use Rattle.pass.proofs.run.Goals as goal

pub ticks-t-requires : goal.ticks-t-requires
ticks-t-requires c = c.requires.ready.reaches

pub load-requires : goal.load-requires
load-requires c = c.requires.ready.reaches

pub generators-requires : goal.generators-requires
generators-requires c = record { ready = c.requires.ready; numbers = c.requires.numbers }

pub modifiers-requires : goal.modifiers-requires
modifiers-requires c = record { reaches = same-reach c.generators.auto.m c.requires.ready.reaches; n_bound = omega (arith, c.ticks-t.ensures, c.requires.m_bound) }

pub close-requires : goal.close-requires
close-requires c = same-reach (c.modifiers.auto.m ∙ c.generators.auto.m) c.requires.ready.reaches

pub count-requires : goal.count-requires
count-requires c = same-reach (c.close.auto.m ∙ (c.modifiers.auto.m ∙ c.generators.auto.m)) c.requires.ready.reaches

pub shape_of-m : goal.shape_of-m
shape_of-m c = c.count.auto.m ∙ (c.close.auto.m ∙ (c.modifiers.auto.m ∙ c.generators.auto.m))

pub shape_of-places : goal.shape_of-places
shape_of-places c = c.generators.auto.places

pub shape_of-memory : goal.shape_of-memory
shape_of-memory c = c.modifiers.auto.memory

pub returns : goal.returns
unfolding zeros
returns c = ran-by _ _ _ _ _ _ c.ticks-t.ensures c.load.ensures c.generators.ensures.writes_after c.generators.ensures.clipped_after c.modifiers.ensures c.close.ensures c.count.ensures
