-- Equal orders agree: passes by them from the contents end the same, and the four points are read off these.
-- Assumes nothing.
use mathlib.Core.Path.{◌≡◌}
use Prim.Native.Nat.{ℕ, ◌≤◌}
use native.Mathlib.Omega.{arith}
use lib.Dec.{eqb}
use lib.ListN.{length}
use Rattle.base_lists.specs.Lists.{zeros}
use Rattle.base_lists.proofs.Counts.{count-below-le}
use Rattle.base_lists.proofs.Zeros.{zeros-length, zeros-at}
use Rattle.layout.specs.Machine.{Machine, Order, Items, ticks_of}
use Rattle.layout_texts.specs.Texts.{run_mode_at}
use Rattle.layout_texts.specs.declared.Text.{Text}
use Rattle.machine.proofs.ValidMachine.{valid-controls}
use Rattle.layout_modes.specs.Modes.{read_data, write_data}
use Rattle.pass_order.specs.Order.{in_mode}
use Rattle.pass_order.proofs.Entries.{order-passes}
use Rattle.pass_model.specs.Generators.{generators_of}
use Rattle.pass_model.specs.Pass.{plain_call}
use Rattle.pass_laws.specs.Good.{Good}
use Rattle.compare_agreement.specs.Agreement.{settings_of, Agree}
use Rattle.equal_endings.specs.AsCoded.{taken_in}
use Rattle.equal_contents.proofs.Content.{Content}
use Rattle.equal_witnesses.specs.AsCoded.{SameHeard}
use Rattle.equal_witnesses.proofs.Points.{heard-agree}
use Rattle.equal_orders.specs.Equal.{Words, Enough, Equal}
use Rattle.equal_orders.proofs.Finished.{OrderPasses, pass-let, zeros-good, inactive-let, same-heard}
use Rattle.equal_orders.proofs.Texts.{content-settings, contents-of}
use Rattle.equal_orders.proofs.Settings.{follows}

-- A good machine has at most 256 generators in a run mode, so that 256 items and places are enough.
few-ticks : (text : Text) (n : Machine) → Good text n → ticks_of n ≤ 256
few-ticks text n good = (valid-controls text n good.is-valid).t_high

few-in-mode : (text : Text) (n : Machine) → Good text n → (r : ℕ) → in_mode text n r ≤ 256
unfolding in_mode
few-in-mode text n good r = omega (arith, few-ticks text n good, count-below-le (λ g. eqb (run_mode_at text n g) r) (ticks_of n))

zeros-words : Words (zeros 256)
zeros-words i h = omega (arith, zeros-at 256 i (omega (arith, zeros-length 256)))

brings-enough : (text : Text) (n : Machine) → Good text n → (order : Order) (items : Items) → length items ≡ 256 → Words items → Enough text n (plain_call order items (zeros 256))
brings-enough text n good order items long words =
    record {
      items = words;
      places = zeros-words;
      reads = omega (arith, few-in-mode text n good read_data, long);
      writes = omega (arith, few-in-mode text n good write_data, zeros-length 256);
    }

module _ (text : Text) (m : Machine) (good : Good text m) (o₁ o₂ : Order) (p₁ : OrderPasses (ticks_of m) o₁) (p₂ : OrderPasses (ticks_of m) o₂) (equal : Equal text m o₁ o₂) where
  -- From a content both orders leave the same as far as they can be told apart.
  heard : (n : Machine) → Content text m n → (items : Items) → length items ≡ 256 → Words items
      → SameHeard (taken_in (generators_of text) n items (zeros 256) o₁) (taken_in (generators_of text) n items (zeros 256) o₂)
  heard n r items long words =
      let call = plain_call o₁ items (zeros 256) in
      let e = brings-enough text n r.good o₁ items long words in
      let few = few-ticks text n r.good in
      let end = rw (
        pass-let text n o₁ call (inactive-let text n r.good few r.inactive o₁ call (rw r.ticks p₁) e.reads e.writes zeros-good),
        pass-let text n o₂ call (inactive-let text n r.good few r.inactive o₂ call (rw r.ticks p₂) e.reads e.writes zeros-good),
      )
      at (equal n r.good (content-settings text r) call e) in
      same-heard text (generators_of text) n r.good.whole few call o₁ o₂ end.machine end.written

  pub equal-agreed : Agree text m o₁ o₂
  equal-agreed =
      heard-agree (generators_of text) (settings_of text m) (Content text m) (λ n r. follows text m n (content-settings text r) good r.good) (contents-of text m good)
      o₁ o₂ (order-passes (ticks_of m) o₁ p₁) (order-passes (ticks_of m) o₂ p₂) heard
