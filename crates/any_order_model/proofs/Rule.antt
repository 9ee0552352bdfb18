-- The rule by counts holds just where its clauses do: where it fails two orders don't agree, and by the clauses all would.
-- Assumes nothing.
use mathlib.Core.Path.{◌≡◌, refl}
use mathlib.Core.Logic.{◌↔◌}
use mathlib.Core.Bool.{Bool, true, false}
use Rattle.compare_agreement.specs.Agreement.{Settings}
use Rattle.any_order_model.specs.OrderFree.{counts_in, order_free}
use Rattle.any_order_model.specs.Clauses.{Clauses}
use Rattle.any_order_model.specs.Parting.{parting_orders}
use Rattle.any_order_model.proofs.Clauses.{Separate, clauses}
use Rattle.any_order_model.proofs.EveryOrder.{every-order}
use Rattle.any_order_model.proofs.Telling.{orders-part}

pub rule-clauses : (s : Settings) → Separate s → (order_free (counts_in s) ≡ true) ↔ Clauses s
rule-clauses s separate = (clauses s separate, λ c. go c (order_free (counts_in s)) refl)
  where
    go : Clauses s → (b : Bool) → order_free (counts_in s) ≡ b → b ≡ true
    go c true e = refl
    go c false e =
        let part = orders-part s separate e in
        absurd (part.disagree (every-order s c (parting_orders s).first (parting_orders s).second part.first part.second))
