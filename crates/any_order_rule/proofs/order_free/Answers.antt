-- `any_order_rule::order_free` meets its contract: the five comparisons are the rule.
-- Assumes nothing.
use mathlib.Core.Path.{refl}
use Rattle.any_order_rule.specs.AsCoded.{order_free_by}
use Rattle.any_order_rule.proofs.order_free.Goals as goal

pub returns : goal.returns
unfolding order_free_by
returns c = refl
