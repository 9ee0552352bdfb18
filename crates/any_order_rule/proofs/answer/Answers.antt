-- `any_order_rule::answer` meets its contract: the answer is put as 1 or 0.
-- Assumes nothing.
use mathlib.Core.Path.{◌≡◌, refl, ap, ◌∙◌}
use mathlib.Core.Bool.{Bool, true, false, cond}
use mir.Val.{bool_byte}
use lib.ListN.{set}
use Rattle.any_order_sums.specs.Places.{order_free_at}
use Rattle.any_order_rule.specs.AsCoded.{order_free_by, answered}
use Rattle.any_order_rule.proofs.answer.Goals as goal

as_number : (b : Bool) → bool_byte b ≡ cond b 1 0
as_number true = refl
as_number false = refl

pub returns : goal.returns
unfolding answered
returns c = ap (set c.args.kept.now order_free_at) (ap bool_byte c.order_free.ensures ∙ as_number (order_free_by c.args.kept.now))
