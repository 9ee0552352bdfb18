-- The loop over an order: what is left of it, from the state that the arrays hold, is the whole; and the generators stay ready.
-- Assumes nothing.
use mathlib.Core.Path.{◌≡◌}
use mathlib.Core.Bool.{Bool, true, false, cond}
use Prim.Native.Nat.{ℕ, suc, ◌+◌, ◌<◌, ◌≤◌}
use native.Mathlib.Numerals.{add-one}
use native.Mathlib.Omega.{arith}
use lib.ListN.{length, get_or, drop, drop_of_length-le}
use lib.Seq.{drop-cons}
use Rattle.layout.specs.Machine.{Order, Items}
use Rattle.layout_texts.specs.declared.Text.{Text}
use Rattle.pass_model.specs.Generators.{generators_of, State, contribution_of, step, steps, taken_by}
use Rattle.pass_model.specs.Clipped.{Marks, marked, marked_by}
use Rattle.pass_generators.specs.AsCoded.{Ready}
use Rattle.pass_generators.proofs.Readiness.{step-ready}

-- One step further.
pub steps_on : (text : Text) (items : Items) (order : Order) (s : State) (i g : ℕ) {t : State} → i < length order → g ≡ get_or order i 0 → t ≡ step (generators_of text) items s g →
    steps (generators_of text) items t (drop (i + 1) order) ≡ steps (generators_of text) items s (drop i order)
unfolding steps
steps_on text items order s i g h eg e = rw (e, eg, add-one, drop-cons order i 0 h)

-- Nothing is left: what the arrays hold is what the generators leave.
pub steps-end : (text : Text) (items : Items) (order : Order) (s₀ s : State) (i : ℕ) → length order ≤ i → steps (generators_of text) items s (drop i order) ≡ steps (generators_of text) items s₀ order →
    record { words = s.words; sums = s.sums; places = s.places; reads = s.reads; writes = s.writes } ≡ taken_by (generators_of text) items s₀ order
unfolding steps taken_by
steps-end text items order s₀ s i h e =
    let end : s ≡ steps (generators_of text) items s₀ order = rw (drop_of_length-le order h) at e in
    rw end

-- The marks likewise: those of what is left of the order.
pub marks-on : (text : Text) (items : Items) (order : Order) (s : State) (marks : Marks) (i g : ℕ) {t : State} {after : Marks} → i < length order → g ≡ get_or order i 0
    → t ≡ step (generators_of text) items s g → after ≡ marked (generators_of text) items s marks g → marked_by (generators_of text) items t after (drop (i + 1) order) ≡ marked_by (generators_of text) items s marks (drop i order)
unfolding marked_by
marks-on text items order s marks i g h eg e ea = rw (e, ea, eg, add-one, drop-cons order i 0 h)

pub marks-end : (text : Text) (items : Items) (order : Order) (s₀ s : State) (marks₀ marks : Marks) (i : ℕ) → length order ≤ i
    → marked_by (generators_of text) items s marks (drop i order) ≡ marked_by (generators_of text) items s₀ marks₀ order → marks ≡ marked_by (generators_of text) items s₀ marks₀ order
unfolding marked_by
marks-end text items order s₀ s marks₀ marks i h e = rw (drop_of_length-le order h) at e

one_more : (b : Bool) (n : ℕ) → cond b (suc n) n ≤ n + 1
one_more true n = omega arith
one_more false n = omega arith

-- A step reads and writes at most one item, and leaves the generators ready.
module _ (text : Text) (items : Items) (s : State) (g : ℕ) {t : State} (e : t ≡ step (generators_of text) items s g) where
  pub reads-most : t.reads ≤ s.reads + 1
  unfolding step
  reads-most = rw e (one_more (contribution_of (generators_of text) s g).replaces s.reads)

  pub writes-most : t.writes ≤ s.writes + 1
  unfolding step
  writes-most = rw e (one_more (contribution_of (generators_of text) s g).writes s.writes)

  pub still-ready : g < 256 → Ready s.words → Ready t.words
  still-ready h r = rw e (step-ready text items s g h r)
