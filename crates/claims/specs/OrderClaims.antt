-- What the papers claim of two orders beyond demand 3: what equal orders may differ in (document 02, Q-6), what the call that parts two orders names (Q-8), and the rule of the call
-- that asks of every order (Q-2).
-- Assumes nothing.
use Rattle.std.specs.Prelude.{ℕ, ◌≤◌, ◌<◌, true, ◌↔◌, ◌≢◌, ◌⊎◌, ◌≡◌, length}
use Rattle.layout.specs.Machine.{Machine, Order, Items}
use Rattle.layout_texts.specs.declared.Text.{Text}
use Rattle.layout_texts.specs.declared.Text.TheVariants.{Of1978}
use Rattle.layout_modes.specs.Modes.{write_data}
use Rattle.pass_order.specs.Order.{in_mode}
use Rattle.pass_model.specs.Pass.{Call, by, pass_of}
use Rattle.pass_laws.specs.Good.{Good}
use Rattle.compare_agreement.specs.Agreement.{settings_of}
use Rattle.any_order_model.specs.Clauses.{Clauses}
use Rattle.any_order.specs.AnyOrder.{any_order_of}
use Rattle.parts.specs.Parts.{parts_of}
use Rattle.equal_orders.specs.Equal.{SameSettings, Equal}
use Rattle.equal_orders.specs.ButMarks.{SameButMarks}
use Rattle.equal_any_order.specs.EveryOrder.{Passes}
use Rattle.equal_parts.specs.Fails.{written_sources, Fails}

pub record OrderClaims : Type 0 where
  -- "Equal orders may differ in [the marks] and in nothing else": of all that passes by them answer and leave, from every machine with these settings that passes questions 1 and 2,
  -- and whatever the call brings, the marks alone may differ: the number, the items read and written, all places, the machine and delay memory are the same.
  pub equal-but-marks : (text : Text) (m : Machine) → Good text m → (o₁ o₂ : Order) → Passes m o₁ → Passes m o₂ → Equal text m o₁ o₂
      → (n : Machine) → Good text n → SameSettings text m n → (call : Call) → SameButMarks (pass_of text n (by o₁ call)) (pass_of text n (by o₂ call))
  -- The call "names the first of the four points that fails, in document 01's order, with the lowest generator, DAC or sum word at which it fails; for written data it names the first
  -- place in the list, counted from 0": the point named fails at the place named; and of all that fails the point is a later one, or it is this one at no lower place.
  pub parts-names : (text : Text) (m : Machine) (o₁ o₂ : Order) (contents : Machine) (items : Items) → (parts_of text m o₁ o₂ contents items).number ≡ 0
      → (parts_of text m o₁ o₂ contents items).point ≢ 0
      → Fails (settings_of text m) o₁ o₂ (parts_of text m o₁ o₂ contents items).point (parts_of text m o₁ o₂ contents items).place
      × ((q p : ℕ) → Fails (settings_of text m) o₁ o₂ q p
      → ((parts_of text m o₁ o₂ contents items).point < q) ⊎ (((parts_of text m o₁ o₂ contents items).point ≡ q) × ((parts_of text m o₁ o₂ contents items).place ≤ p)))
  -- Where it names no point, none fails anywhere, and the place is 0. A refused call names no point and place 0.
  pub parts_none : (text : Text) (m : Machine) (o₁ o₂ : Order) (contents : Machine) (items : Items) → (parts_of text m o₁ o₂ contents items).number ≡ 0
      → (parts_of text m o₁ o₂ contents items).point ≡ 0 → ((parts_of text m o₁ o₂ contents items).place ≡ 0) × ((q p : ℕ) → Fails (settings_of text m) o₁ o₂ q p → ⊥)
  pub parts-refused : (text : Text) (m : Machine) (o₁ o₂ : Order) (contents : Machine) (items : Items) → (parts_of text m o₁ o₂ contents items).number ≢ 0
      → ((parts_of text m o₁ o₂ contents items).point ≡ 0) × ((parts_of text m o₁ o₂ contents items).place ≡ 0)
  -- The list of written data, of which it names a place, is as long in every order that passes 5 and 6: it has a place for each 0011 below T.
  pub written-places : (text : Text) (m : Machine) (o : Order) → Passes m o → length (written_sources (settings_of text m) o) ≡ in_mode text m write_data
  -- The call that asks whether every order leaves the same says yes, where it passes the questions, exactly by "its rule: no waiting generator has a neighbour below that can trigger; the
  -- feeders of each DAC share one GFM; all writers share one GFM; and there is at most one reader, with no adding generator on its sum word".
  pub any-order-rule : (m : Machine) → (any_order_of m).number ≡ 0 → ((any_order_of m).alike ≡ true) ↔ Clauses (settings_of Of1978 m)
