-- The contents for the first point that fails part the two orders: were the passes to end the same, no point would fail, by the readings that demand 3's harder direction rests on.
-- Assumes nothing.
use mathlib.Core.Path.{◌≡◌, refl, sym, ap, ◌∙◌, subst, subst⁻¹}
use mathlib.Core.Logic.{◌↔◌, ◌≢◌}
use mathlib.Core.Bool.{Bool, true, false}
use Prim.Native.Nat.{ℕ, ◌+◌, ◌*◌, ◌≤◌, ◌<◌}
use native.Mathlib.Omega.{arith}
use borrow.Author.Tests.{eqb-true, eqb-false, eq-eqb, ne_eqb}
use lib.Dec.{eqb, lit<}
use lib.ListN.{length, get_or}
use Rattle.base_lists.specs.Lists.{count_below}
use Rattle.base_lists.proofs.Choices.{of-cond}
use Rattle.base_lists.proofs.Counts.{count-below-same}
use Rattle.layout.specs.Machine.{Machine, Order, Items, Places, Memory, ticks_of}
use Rattle.layout_texts.specs.Texts.{run_mode_at}
use Rattle.layout_texts.specs.declared.Text.{Text}
use Rattle.layout_modes.specs.Modes.{read_data, write_data}
use Rattle.layout_modes.proofs.RunModes.{replaces-is}
use Rattle.base_fills.proofs.Filled.{filled-length, filled-other, filled_at}
use Rattle.machine.proofs.ValidMachine.{valid-controls}
use Rattle.pass_order.specs.Order.{in_mode}
use Rattle.pass_order.proofs.Entries.{order-passes}
use Rattle.delay_questions.specs.Questions.{memory_good}
use Rattle.pass_model.specs.Generators.{generators_of}
use Rattle.pass_model.specs.Pass.{Call, by, pass_refusal, pass_of}
use Rattle.pass_model.proofs.Asked.{is_whole, is-valid}
use Rattle.pass_laws.specs.Good.{Good}
use Rattle.pass_laws.proofs.Passing.{pass-number}
use Rattle.compare_agreement.specs.Agreement.{settings_of}
use Rattle.compare_agreement.specs.Points.{first_point}
use Rattle.compare_agreement.proofs.FirstPoint.{first-agrees}
use Rattle.parts_model.specs.Contents.{contents_for, item_for, items_for}
use Rattle.compare.specs.Compare.{compare_of}
use Rattle.compare.proofs.Answers.{compare-passes, compare-number, compare-agrees}
use Rattle.equal_endings.specs.AsCoded.{taken_in}
use Rattle.equal_contents.proofs.Content.{Content}
use Rattle.equal_witnesses.specs.AsCoded.{HasItems, SameHeard}
use Rattle.equal_witnesses.proofs.Points.{none-parted}
use Rattle.equal_orders.specs.Equal.{SameSettings, Equal}
use Rattle.equal_orders.proofs.Finished.{OrderPasses, pass-let, inactive-let, same-heard}
use Rattle.equal_orders.proofs.Texts.{run-same, content-settings, contents-of, contents-are}
use Rattle.equal_orders.proofs.Settings.{follows}
use Rattle.equal_orders.proofs.Theorem.{compare-says}
use Rattle.parts.specs.Parts.{Parting, parts_refusal, shown, parts_of}
use Rattle.parts.proofs.Answers.{PartsPassed, parts-passes, parts-number, parts-shown, parts-refused}
use Rattle.equal_parts.specs.Parting.{Parted, PartingContents}

-- As many generators are in a run mode with the same settings.
in-mode-same : (text : Text) (m n : Machine) → ticks_of m ≤ 256 → SameSettings text m n → (r : ℕ) → in_mode text n r ≡ in_mode text m r
unfolding in_mode
in-mode-same text m n few s r =
    rw (← s.ticks) (count-below-same (λ g. eqb (run_mode_at text n g) r) (λ g. eqb (run_mode_at text m g) r) (ticks_of m)
    (λ g h. ap (λ (x : ℕ). eqb x r) (sym (run-same text m n s g (omega (arith, few))))))

-- The generators that replace are those that read data.
replacing-count : (text : Text) (m : Machine) → count_below (settings_of text m).replacing (ticks_of m) ≡ in_mode text m read_data
unfolding in_mode
replacing-count text m = count-below-same (settings_of text m).replacing (λ g. eqb (run_mode_at text m g) read_data) (ticks_of m) (λ g h. replaces-is (run_mode_at text m g))

module _ (text : Text) (m : Machine) (good : Good text m) (o₁ o₂ : Order) (p₁ : OrderPasses (ticks_of m) o₁) (p₂ : OrderPasses (ticks_of m) o₂) (before : Items) (reads : in_mode text m read_data ≤ length before) where
  few : ticks_of m ≤ 256
  few = (valid-controls text m good.is-valid).t_high

  abbrev point : ℕ
  point = (first_point (settings_of text m) o₁ o₂).point

  abbrev sounding : ℕ
  sounding = (first_point (settings_of text m) o₁ o₂).sounding

  -- The contents.
  module _ (p s : ℕ) where
    contents-same : Content text m (contents_for text m p s)
    contents-same =
        subst (Content text m) (contents-are text m good p s)
        (of-cond (Content text m) (eqb p 1) (contents-of text m good).triggering-like
        (of-cond (Content text m) (eqb p 4) ((contents-of text m good).sounding-like s) (contents-of text m good).sending-like))

    -- The items.
    items-long : length (items_for text m p s before) ≡ length before
    unfolding items_for
    items-long = filled-length 0 1 (in_mode text m read_data) (item_for p s) before

    items-beyond : (i : ℕ) → in_mode text m read_data ≤ i → get_or (items_for text m p s before) i 0 ≡ get_or before i 0
    unfolding items_for
    items-beyond i h = filled-other 0 1 (in_mode text m read_data) (item_for p s) before i (λ k b e. omega arith)

    items-has : HasItems (settings_of text m) (item_for p s) (items_for text m p s before)
    unfolding items_for
    items-has i h =
        let low : i < in_mode text m read_data = rw (replacing-count text m) at h in
        let place : 0 + 1 * i ≡ i = omega arith in
        rw place at (filled_at 0 1 (in_mode text m read_data) (item_for p s) before i (lit< tt) low (omega (arith, low, reads)))

  -- Passes from them run, and part.
  module _ (fails : (first_point (settings_of text m) o₁ o₂).point ≢ 0) (places : Places) (memory : Memory) (room : in_mode text m write_data ≤ length places) (held : memory_good memory ≡ true) where
    abbrev n : Machine
    n = contents_for text m point sounding

    abbrev call : Call
    call = record { order = o₁; items = items_for text m point sounding before; places = places; memory = memory }

    same : Content text m (contents_for text m (first_point (settings_of text m) o₁ o₂).point (first_point (settings_of text m) o₁ o₂).sounding)
    same = contents-same point sounding

    settings : SameSettings text m n
    settings = content-settings text same

    few-there : ticks_of n ≤ 256
    few-there = rw (← settings.ticks) few

    runs : (o : Order) → OrderPasses (ticks_of m) o → pass_refusal text n (by o call) ≡ 0
    runs o p =
        inactive-let text n same.good few-there same.inactive o call (rw (← settings.ticks) p)
        (rw (in-mode-same text m n few settings read_data, items-long point sounding) reads) (rw (in-mode-same text m n few settings write_data) room) held

    parted : Parted (pass_of text n (by o₁ call)) (pass_of text n (by o₂ call))
    unfolding in_mode
    parted =
        record {
          first_runs = pass-number text n (by o₁ call) ∙ runs o₁ p₁;
          second_runs = pass-number text n (by o₂ call) ∙ runs o₂ p₂;
          apart = λ machine written.
              let heard = same-heard text (generators_of text) n same.good.whole few-there call o₁ o₂ (rw (pass-let text n o₁ call (runs o₁ p₁), pass-let text n o₂ call (runs o₂ p₂)) at machine)
              (rw (pass-let text n o₁ call (runs o₁ p₁), pass-let text n o₂ call (runs o₂ p₂)) at written) in
              fails
              (none-parted (generators_of text) (settings_of text m) (Content text m) (λ k r. follows text m k (content-settings text r) good r.good) (contents-of text m good) o₁ o₂
              (order-passes (ticks_of m) o₁ p₁) (order-passes (ticks_of m) o₂ p₂) call.items places room (items-has point sounding)
              (subst⁻¹ (λ (k : Machine). SameHeard (taken_in (generators_of text) k call.items places o₁) (taken_in (generators_of text) k call.items places o₂)) (contents-are text m good point sounding) heard));
        }

  parting : (first_point (settings_of text m) o₁ o₂).point ≢ 0
      → PartingContents text m o₁ o₂ before (contents_for text m (first_point (settings_of text m) o₁ o₂).point (first_point (settings_of text m) o₁ o₂).sounding)
      (items_for text m (first_point (settings_of text m) o₁ o₂).point (first_point (settings_of text m) o₁ o₂).sounding before)
  parting fails =
      let same = contents-same point sounding in
      record {
        good = same.good;
        settings = content-settings text same;
        enough = rw (items-long point sounding) reads;
        as_long = items-long point sounding;
        beyond = items-beyond point sounding;
        part = parted fails;
      }

module _ (text : Text) (m : Machine) (o₁ o₂ : Order) (contents : Machine) (items : Items) where
  none : (parts_of text m o₁ o₂ contents items).number ≡ 0 → parts_refusal text m o₁ o₂ contents items ≡ 0
  none e = sym (parts-number text m o₁ o₂ contents items) ∙ e

  answer : (parts_of text m o₁ o₂ contents items).number ≡ 0 → parts_of text m o₁ o₂ contents items ≡ shown text m (first_point (settings_of text m) o₁ o₂) contents items
  answer e = parts-shown text m o₁ o₂ contents items (none e)

  -- A call that is not refused names no point just where the orders are equal.
  pub parts-says : (parts_of text m o₁ o₂ contents items).number ≡ 0 → ((parts_of text m o₁ o₂ contents items).point ≡ 0) ↔ Equal text m o₁ o₂
  parts-says e = (λ z. says.0 (agrees ∙ eq-eqb _ 0 (sym named ∙ z)), λ q. named ∙ eqb-true _ 0 (sym agrees ∙ says.1 q))
    where
      passed : PartsPassed text m o₁ o₂ contents items
      passed = parts-passes text m o₁ o₂ contents items (none e)

      named : (parts_of text m o₁ o₂ contents items).point ≡ (first_point (settings_of text m) o₁ o₂).point
      named = ap (λ (r : Parting). r.point) (answer e)

      agrees : (compare_of text m o₁ o₂).equal ≡ eqb (first_point (settings_of text m) o₁ o₂).point 0
      agrees = compare-agrees text m o₁ o₂ passed.compared ∙ sym (first-agrees (settings_of text m) o₁ o₂)

      says : ((compare_of text m o₁ o₂).equal ≡ true) ↔ Equal text m o₁ o₂
      says = compare-says text m o₁ o₂ (compare-number text m o₁ o₂ ∙ passed.compared)

  -- Where no point is named, as in a refusal, the run and the list stay.
  pub none-shown : (parts_of text m o₁ o₂ contents items).point ≡ 0 → ((parts_of text m o₁ o₂ contents items).contents ≡ contents) × ((parts_of text m o₁ o₂ contents items).items ≡ items)
  none-shown z = go (eqb (parts_refusal text m o₁ o₂ contents items) 0) refl
    where
      go : (b : Bool) → eqb (parts_refusal text m o₁ o₂ contents items) 0 ≡ b
          → ((parts_of text m o₁ o₂ contents items).contents ≡ contents) × ((parts_of text m o₁ o₂ contents items).items ≡ items)
      go true q =
          let is = parts-shown text m o₁ o₂ contents items (eqb-true _ 0 q) in
          let zero : (first_point (settings_of text m) o₁ o₂).point ≡ 0 = sym (ap (λ (r : Parting). r.point) is) ∙ z in
          (ap (λ (r : Parting). r.contents) is ∙ rw zero, ap (λ (r : Parting). r.items) is ∙ rw zero)
      go false q =
          let is = parts-refused text m o₁ o₂ contents items (eqb-false _ 0 q) in
          (ap (λ (r : Parting). r.contents) is, ap (λ (r : Parting). r.items) is)

  -- Where a point is named, what the run and the list hold parts the orders.
  pub contents-part : (parts_of text m o₁ o₂ contents items).number ≡ 0 → (parts_of text m o₁ o₂ contents items).point ≢ 0
      → PartingContents text m o₁ o₂ items (parts_of text m o₁ o₂ contents items).contents (parts_of text m o₁ o₂ contents items).items
  contents-part e h =
      let passed = parts-passes text m o₁ o₂ contents items (none e) in
      let asked = compare-passes text m o₁ o₂ passed.compared in
      let fails : (first_point (settings_of text m) o₁ o₂).point ≢ 0 = λ z. h (ap (λ (r : Parting). r.point) (answer e) ∙ z) in
      rw (answer e, ne_eqb (first_point (settings_of text m) o₁ o₂).point 0 fails)
      (parting text m (record { whole = is_whole text m o₁ asked.machine; is-valid = is-valid text m o₁ asked.machine }) o₁ o₂ asked.first asked.second items passed.reads fails)
