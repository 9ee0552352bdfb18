-- The first point by the places that two traces hold is the first point: a trace holds the place of each generator below T.
-- Assumes nothing.
use mathlib.Core.Path.{◌≡◌, refl}
use mathlib.Core.Bool.{Bool, true, false, cond, ◌&&◌, beq}
use Prim.Native.Nat.{ℕ, ◌-◌, ◌<◌}
use native.Mathlib.Omega.{arith}
use borrow.Author.Tests.{leb-true}
use lib.Dec.{leb}
use Rattle.base_lists.proofs.Below.{and_first}
use Rattle.layout.specs.Machine.{Machine, Order, ticks_of}
use Rattle.layout_texts.specs.Texts.{distance_of}
use Rattle.layout_texts.specs.declared.Text.{Text}
use Rattle.base_sequences.specs.Sequences.{first_failing, before}
use Rattle.base_sequences.proofs.Loops.{failing-same}
use Rattle.pass_order.specs.Order.{IsOrder}
use Rattle.compare_agreement.specs.Agreement.{settings_of}
use Rattle.compare_agreement.specs.Points.{neighbour_same, neighbour_point}
use Rattle.compare_traces.specs.declared.Trace.{Trace}
use Rattle.compare_traces.specs.AsCoded.{Traceable, trace_of}
use Rattle.compare_traces.proofs.Holds.{trace-holds}
use Rattle.compare_points.specs.AsCoded.{sides, sides_of, side_by, neighbour_by}

module _ (text : Text) (m : Machine) (o₁ o₂ : Order) (ready : Traceable m) (ordered : IsOrder (ticks_of m) o₁ × IsOrder (ticks_of m) o₂) where
  -- Which side g stands on of h.
  pub sides-held : (g h : ℕ) → g < ticks_of m → h < ticks_of m → side_by (sides_of text m o₁ o₂) g h ≡ beq (before g h o₁) (before g h o₂)
  unfolding before
  sides-held g h a b =
      let first = trace-holds text m o₁ ready ordered.0 in
      let second = trace-holds text m o₂ ready ordered.1 in
      rw (first.place g a, first.place h b, second.place g a, second.place h b)

  neighbour-held : (g : ℕ) → g < ticks_of m → neighbour_by text m (sides_of text m o₁ o₂) g ≡ neighbour_same (settings_of text m) o₁ o₂ g
  unfolding neighbour_by
  neighbour-held g h =
      go (leb (distance_of text) g && (settings_of text m).waits g && (settings_of text m).triggering (g - distance_of text)) refl
    where
      go : (b : Bool) → (leb (distance_of text) g && (settings_of text m).waits g && (settings_of text m).triggering (g - distance_of text)) ≡ b
          → cond b (side_by (sides_of text m o₁ o₂) (g - distance_of text) g) true ≡ cond b (beq (before (g - distance_of text) g o₁) (before (g - distance_of text) g o₂)) true
      go true e =
          let a = and_first (leb (distance_of text) g && (settings_of text m).waits g) ((settings_of text m).triggering (g - distance_of text)) e in
          let l = leb-true (distance_of text) g (and_first (leb (distance_of text) g) ((settings_of text m).waits g) a) in
          sides-held (g - distance_of text) g (omega arith) h
      go false e = refl

  pub neighbours-held : {t₁ t₂ : Trace} → t₁ ≡ trace_of text m o₁ → t₂ ≡ trace_of text m o₂
      → first_failing (neighbour_by text m (sides t₁ t₂)) (ticks_of m) ≡ neighbour_point (settings_of text m) o₁ o₂
  unfolding neighbour_point
  neighbours-held e₁ e₂ =
      rw (e₁, e₂) (failing-same (neighbour_by text m (sides_of text m o₁ o₂)) (neighbour_same (settings_of text m) o₁ o₂) (ticks_of m) neighbour-held)
