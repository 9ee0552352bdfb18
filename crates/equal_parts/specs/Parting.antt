-- What the contents for two orders are for: passes from them by the two orders part (document 02, Q-8).
-- Assumes nothing.
use Rattle.std.specs.Prelude.{ℕ, ◌≤◌, true, ◌≡◌, length, get_or}
use Rattle.layout.specs.Machine.{Machine, Order, Items, Places, Memory}
use Rattle.layout_texts.specs.declared.Text.{Text}
use Rattle.layout_modes.specs.Modes.{read_data, write_data}
use Rattle.pass_order.specs.Order.{in_mode}
use Rattle.delay_questions.specs.Questions.{memory_good}
use Rattle.pass_model.specs.Pass.{Outcome, written_data, pass_of}
use Rattle.pass_laws.specs.Good.{Good}
use Rattle.equal_orders.specs.Equal.{SameSettings}

-- Two passes both run, and leave another machine or other written data. What they leave in delay memory doesn't count.
pub record Parted (r s : Outcome) : Type 0 where
  pub first_runs : r.number ≡ 0
  pub second_runs : s.number ≡ 0
  pub apart : r.machine ≡ s.machine → written_data r ≡ written_data s → ⊥

-- Contents n and items part two orders of the generators of m: n passes questions 1 and 2 and has the settings of m, the items pass 7 and those beyond the 0111s are as they were before,
-- and passes from them by the two orders part, over the same delay memory, any that passes 10, and with places enough.
pub record PartingContents (text : Text) (m : Machine) (o₁ o₂ : Order) (before : Items) (n : Machine) (items : Items) : Type 0 where
  pub good : Good text n
  pub settings : SameSettings text m n
  pub enough : in_mode text m read_data ≤ length items
  pub as_long : length items ≡ length before
  pub beyond : (i : ℕ) → in_mode text m read_data ≤ i → get_or items i 0 ≡ get_or before i 0
  pub part : (places : Places) (memory : Memory) → in_mode text m write_data ≤ length places → memory_good memory ≡ true
      → Parted (pass_of text n (record { order = o₁; items = items; places = places; memory = memory }))
      (pass_of text n (record { order = o₂; items = items; places = places; memory = memory }))
