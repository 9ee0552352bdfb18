-- What is named of passes from the contents for two orders is the first word, or the first written item of two equal machines, by which they differ: the contents part the orders.
-- Assumes nothing.
use mathlib.Core.Path.{◌≡◌, sym, ◌∙◌}
use mathlib.Core.Logic.{◌≢◌}
use Prim.Native.Nat.{ℕ, ◌≤◌}
use native.Mathlib.Omega.{arith}
use lib.Dec.{eqb}
use lib.ListN.{length}
use Rattle.base_lists.specs.Lists.{zeros}
use Rattle.base_lists.proofs.Counts.{count-below-le}
use Rattle.base_lists.proofs.Zeros.{zeros-length}
use Rattle.layout.specs.Layout.{generators, memory_words}
use Rattle.layout.specs.Machine.{Machine, Order, Items, ticks_of}
use Rattle.layout_texts.specs.Texts.{run_mode_at}
use Rattle.layout_texts.specs.declared.Text.{Text}
use Rattle.layout_modes.specs.Modes.{write_data}
use Rattle.pass_order.specs.Order.{in_mode}
use Rattle.pass_model.specs.Pass.{Call, plain_call, written_data, pass_of}
use Rattle.pass_laws.proofs.Passing.{pass-number}
use Rattle.pass_laws.proofs.PassCounts.{pass-counts}
use Rattle.pass_laws.proofs.PassValid.{pass-valid}
use Rattle.equal_orders.proofs.Finished.{zeros-good}
use Rattle.parts.specs.Parts.{parts_of}
use Rattle.parts.proofs.Answers.{is-ready, parts-number}
use Rattle.parts_shown.specs.Shown.{pass_by, difference_shown, Differ}
use Rattle.parts_shown.proofs.Passes.{written-length, differs}
use Rattle.equal_parts.proofs.Parts.{contents-part}

-- No more generators are in a run mode than there are.
mode-few : (text : Text) (m : Machine) → ticks_of m ≤ generators → (r : ℕ) → in_mode text m r ≤ generators
unfolding in_mode
mode-few text m few r = omega (arith, count-below-le (λ g. eqb (run_mode_at text m g) r) (ticks_of m))

-- A pass that runs writes an item for each 0011 of its machine.
written_count : (text : Text) (m : Machine) (call : Call) → (pass_of text m call).number ≡ 0 → length (written_data (pass_of text m call)) ≡ in_mode text m write_data
written_count text m call e = written-length text m call ∙ (pass-counts text m call (sym (pass-number text m call) ∙ e)).1

module _ (text : Text) (m : Machine) (o₁ o₂ : Order) (contents : Machine) (items : Items) where
  -- Where a point is named, the passes from what the run and the list hold differ by what is found.
  pub found-differs : (parts_of text m o₁ o₂ contents items).number ≡ 0 → (parts_of text m o₁ o₂ contents items).point ≢ 0
      → Differ (pass_by text (parts_of text m o₁ o₂ contents items).contents (parts_of text m o₁ o₂ contents items).items o₁)
      (pass_by text (parts_of text m o₁ o₂ contents items).contents (parts_of text m o₁ o₂ contents items).items o₂)
      (difference_shown text (parts_of text m o₁ o₂ contents items).contents (parts_of text m o₁ o₂ contents items).items o₁ o₂)
  found-differs e h =
      let c = (parts_of text m o₁ o₂ contents items).contents in
      let i = (parts_of text m o₁ o₂ contents items).items in
      let shown = contents-part text m o₁ o₂ contents items e h in
      let ready = is-ready text m o₁ o₂ contents items (sym (parts-number text m o₁ o₂ contents items) ∙ e) in
      let room : in_mode text m write_data ≤ length (zeros generators) = rw (zeros-length generators) (mode-few text m ready.traceable.ticks write_data) in
      let parted = shown.part (zeros generators) (zeros memory_words) room zeros-good in
      let first = plain_call o₁ i (zeros generators) in
      let second = plain_call o₂ i (zeros generators) in
      differs (pass_by text c i o₁) (pass_by text c i o₂) ((pass-valid text c first shown.good).whole ∙ sym (pass-valid text c second shown.good).whole)
      (written_count text c first parted.first_runs ∙ sym (written_count text c second parted.second_runs)) parted.apart
