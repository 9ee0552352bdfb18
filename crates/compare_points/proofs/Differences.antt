-- The second and the third point by what two traces hold are these points, as the traces hold the GFMs that the points compare.
-- Assumes nothing.
use mathlib.Core.Path.{◌≡◌, refl, ap, ◌∙◌}
use mathlib.Core.Bool.{Bool, true, false, cond}
use Prim.Native.Nat.{ℕ, ◌≤◌}
use native.Mathlib.Omega.{arith}
use lib.Dec.{eqb}
use Rattle.base_lists.proofs.Counts.{count-below-le}
use Rattle.layout.specs.Layout.{generators, dacs}
use Rattle.layout.specs.Machine.{Machine, Order, ticks_of}
use Rattle.layout_texts.specs.declared.Text.{Text}
use Rattle.base_sequences.specs.Sequences.{some, last_of, first_failing, latest}
use Rattle.base_sequences.proofs.Orders.{some-orders}
use Rattle.base_sequences.proofs.Loops.{failing-same}
use Rattle.pass_order.specs.Order.{IsOrder}
use Rattle.compare_agreement.specs.Agreement.{settings_of}
use Rattle.compare_agreement.specs.Points.{feeder_same, feeder_point, writer_same, writers_of, writer_point}
use Rattle.compare_traces.specs.declared.Trace.{Trace}
use Rattle.compare_traces.specs.AsCoded.{Traceable, trace_of}
use Rattle.compare_traces.proofs.Holds.{trace-holds}
use Rattle.compare_points.specs.AsCoded.{same_at, where_failing}

-- What two orders hold of their last entries that pass.
latest-same : (t : ℕ) (o₁ o₂ : Order) → IsOrder t o₁ × IsOrder t o₂ → (p : ℕ → Bool) (f : ℕ → ℕ)
    → eqb (latest p f o₁ 0) (latest p f o₂ 0) ≡ cond (some p o₁) (eqb (f (last_of p o₁)) (f (last_of p o₂))) true
unfolding latest
latest-same t o₁ o₂ (a, b) p f =
    rw (← (some-orders t o₁ o₂ a.once b.once a.below b.below p)) (go (some p o₁))
  where
    go : (v : Bool) → eqb (cond v (f (last_of p o₁)) 0) (cond v (f (last_of p o₂)) 0) ≡ cond v (eqb (f (last_of p o₁)) (f (last_of p o₂))) true
    go true = refl
    go false = refl

module _ (text : Text) (m : Machine) (o₁ o₂ : Order) (ready : Traceable m) (ordered : IsOrder (ticks_of m) o₁ × IsOrder (ticks_of m) o₂) where
  module _ {t₁ t₂ : Trace} (e₁ : t₁ ≡ trace_of text m o₁) (e₂ : t₂ ≡ trace_of text m o₂) where
    pub feeders-held : first_failing (same_at t₁.fed t₂.fed) dacs ≡ feeder_point (settings_of text m) o₁ o₂
    unfolding feeder_point same_at
    feeders-held =
        rw (e₁, e₂)
        (failing-same (same_at (trace_of text m o₁).fed (trace_of text m o₂).fed) (feeder_same (settings_of text m) o₁ o₂) dacs
        (λ d h. rw ((trace-holds text m o₁ ready ordered.0).feeder d h, (trace-holds text m o₂ ready ordered.1).feeder d h)
        (latest-same (ticks_of m) o₁ o₂ ordered ((settings_of text m).feeds d) (settings_of text m).source)))

    -- As many generators write data as the trace counts, at most as many as there are, and as many in both orders.
    writers-are : t₁.counts.writes ≡ writers_of (settings_of text m) o₁ o₂
    writers-are = rw e₁ (trace-holds text m o₁ ready ordered.0).writers

    same-writers : (trace_of text m o₁).counts.writes ≡ (trace_of text m o₂).counts.writes
    same-writers = rw ((trace-holds text m o₁ ready ordered.0).writers, (trace-holds text m o₂ ready ordered.1).writers) refl

    pub few-writers : t₁.counts.writes ≤ generators
    few-writers = omega (arith, writers-are, count-below-le (settings_of text m).writes (ticks_of m), ready.ticks)

    writers-held : first_failing (same_at t₁.written t₂.written) t₁.counts.writes ≡ writer_point (settings_of text m) o₁ o₂
    unfolding writer_point same_at
    writers-held =
        rw (e₁, e₂)
        (failing-same (same_at (trace_of text m o₁).written (trace_of text m o₂).written) (writer_same (settings_of text m) o₁ o₂) (trace_of text m o₁).counts.writes
        (λ i h. rw ((trace-holds text m o₁ ready ordered.0).source i h, (trace-holds text m o₂ ready ordered.1).source i (rw same-writers at h)))
        ∙ ap (first_failing (writer_same (settings_of text m) o₁ o₂)) (trace-holds text m o₁ ready ordered.0).writers)

    pub writers-fail : where_failing t₁.counts.writes (first_failing (same_at t₁.written t₂.written) t₁.counts.writes)
        ≡ where_failing (writers_of (settings_of text m) o₁ o₂) (writer_point (settings_of text m) o₁ o₂)
    writers-fail =
        ap (where_failing t₁.counts.writes) writers-held ∙ ap (λ (n : ℕ). where_failing n (writer_point (settings_of text m) o₁ o₂)) writers-are
