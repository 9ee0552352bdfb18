-- `any_order::holds` meets its contract: the counts that are kept are those of the generators.
-- Assumes nothing.
use mathlib.Core.Path.{refl, ap, ◌∙◌}
use Rattle.base_lists.specs.Lists.{zeros}
use Rattle.layout.specs.Machine.{ticks_of}
use Rattle.any_order_counts.specs.AsCoded.{counted_to}
use Rattle.any_order_counts.proofs.Tallies.{counted}
use Rattle.any_order_rule.specs.AsCoded.{order_free_by}
use Rattle.any_order_rule.proofs.Rule.{rule-tally}
use Rattle.any_order.proofs.holds.Goals as goal

pub count-requires : goal.count-requires
unfolding zeros
count-requires c = record { countable = c.requires; kept_value = refl }

pub returns : goal.returns
returns c =
    let m = c.args.m.now in
    c.order_free.ensures ∙ ap order_free_by c.count.ensures ∙ rule-tally m c.requires (counted_to m (ticks_of m)) (counted m c.requires (ticks_of m) c.requires.ticks)
