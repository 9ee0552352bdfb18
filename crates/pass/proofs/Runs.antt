-- The stages of a pass, one after the other, are the pass.
-- Assumes nothing.
use mathlib.Core.Path.{◌≡◌, ◌∙◌}
use Prim.Native.Nat.{ℕ, ◌/◌}
use lib.ListN.{set}
use Rattle.layout.specs.Machine.{Machine, Sums, ticks_of}
use Rattle.layout_texts.specs.declared.Text.{Text}
use Rattle.pass_sums.specs.Sums.{modifier_this, sums_of, closed}
use Rattle.pass_model.specs.Generators.{generators_of, begun, Taken, taken_by}
use Rattle.pass_model.specs.Clipped.{Marks, no_marks, marked_by}
use Rattle.pass_model.specs.Modifiers.{Held, modified_by}
use Rattle.pass_model.specs.Pass.{Call, counted, completed, generators_taken, generators_clipped, finished, ran}

-- What the generators leave is t, and the marks are theirs; after them come the modifiers, which leave h, the end of sum memory and the counter.
module _ (text : Text) (m : Machine) (call : Call) (t : Taken) (n : ℕ) (s₀ : Sums) where
  abbrev before : Held
  before = record { words = t.words; memory = call.memory }

  pub ran-by : {h : Held} {last done : Machine} {s : Sums} {clipped : Marks} →
      n ≡ ticks_of m → s₀ ≡ sums_of m → t ≡ taken_by (generators_of text) call.items (begun m s₀ call.places) call.order →
      clipped ≡ marked_by (generators_of text) call.items (begun m s₀ call.places) no_marks call.order →
      (h ≡ (modified_by text n before t.sums (n / 2)).held) × (s ≡ set t.sums modifier_this (modified_by text n before t.sums (n / 2)).this) →
      last ≡ closed h.words s → done ≡ counted last →
      record { number = 0; read = t.reads; written = t.writes; clipped = clipped; machine = done; places = t.places; memory = h.memory } ≡ ran text m call
  unfolding ran generators_taken generators_clipped finished completed
  ran-by en es et ec (em, eq) el ed = rw (← taken, ed, el, em, eq, en, ec, es)
    where
      taken : t ≡ generators_taken text m call
      taken = et ∙ rw es
