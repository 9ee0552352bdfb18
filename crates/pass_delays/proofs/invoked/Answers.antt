-- `invoked` meets its contract: the promises of its calls, one after the other.
-- Assumes nothing.
use Rattle.layout.proofs.Reach.{same-reach}
use Rattle.delay.proofs.Low.{loaded-ranged}
use Rattle.pass_delays.proofs.Units.{word_low, taken}
use Rattle.pass_delays.proofs.invoked.Goals as goal

pub given-dm-requires : goal.given-dm-requires
given-dm-requires c = rw c.delay_at-d.ensures (loaded-ranged _)

pub unit_turn-requires : goal.unit_turn-requires
unit_turn-requires c = record { reaches = same-reach c.put_modifier_at.auto.m c.requires.reaches; n_bound = (c.unit_of-n.ensures.1, rw c.invoke_delay-turn.ensures (word_low _ _ _)); ranged_delay = rw c.delay_at-d.ensures (loaded-ranged _) }

pub returns : goal.returns
returns c =
    taken _ _ _ _ record { number = c.unit_of-n.ensures.0; unit = c.delay_at-d.ensures; runs-is = c.runs-runs.ensures } _ _ _ c.requires.k_bound c.requires.u_value.0
    c.given-dm.ensures.is c.invoke_delay-turn.ensures c.put_modifier_at.ensures c.unit_turn.ensures
