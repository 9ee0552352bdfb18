-- The claims of two orders hold, each by the law that shows it.
-- Assumes nothing.
use Rattle.layout.specs.Machine.{ticks_of}
use Rattle.pass_order.proofs.Entries.{order-passes}
use Rattle.equal_orders.proofs.Theorem.{equal-but-marks}
use Rattle.equal_any_order.proofs.AnyOrder.{any-order-rule}
use Rattle.equal_parts.proofs.Names.{parts-names, parts_none, refused-names, written-places}
use Rattle.claims.specs.OrderClaims.{OrderClaims}

pub order-claims : OrderClaims
order-claims =
    record {
      equal-but-marks = equal-but-marks;
      parts-names = parts-names;
      parts_none = parts_none;
      parts-refused = refused-names;
      written-places = λ text m o passes. written-places text m o (order-passes (ticks_of m) o passes);
      any-order-rule = any-order-rule;
    }
