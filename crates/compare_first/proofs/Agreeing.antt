-- The first point that fails is found one point after the other, by what each answers.
-- Assumes nothing.
use mathlib.Core.Path.{◌≡◌, refl, sym, ap, ◌∙◌}
use mathlib.Core.Bool.{Bool, true, false, not, true≢false}
use Prim.Native.Nat.{ℕ, ◌<◌}
use native.Mathlib.Omega.{arith}
use lib.Dec.{eqb}
use Rattle.std.specs.Prelude.{Option, None, Some, cond}
use Rattle.std.specs.Option.{is_some}
use Rattle.base_lists.proofs.Counts.{count-below-le}
use Rattle.layout.specs.Layout.{generators, quadrant_words, dacs}
use Rattle.layout.specs.Machine.{Machine, Order, ticks_of}
use Rattle.layout_texts.specs.declared.Text.{Text}
use Rattle.compare_agreement.specs.Agreement.{settings_of}
use Rattle.compare_agreement.specs.Points.{neighbour_same, feeder_same, writer_same, word_same, writers_of, neighbour_point, feeder_point, writer_point, word_point, agrees, sounding_at, failing_word, first_point}
use Rattle.compare_agreement.proofs.FirstPoint.{fails-at, first-agrees}
use Rattle.compare_traces.specs.AsCoded.{Traceable}
use Rattle.compare_points.specs.AsCoded.{where_failing}
use Rattle.compare_first.specs.declared.Failing.{Failing}
use Rattle.compare_first.specs.Found.{found}

-- What a point's answer tells: where it fails, or that it fails nowhere.
pub record Told (bound place k : ℕ) : Type 0 where
  pub fails : eqb place bound ≡ false
  pub there : k ≡ place

module _ (bound place : ℕ) where
  pub told_some : {k : ℕ} → ◌≡◌ {A = Option ℕ} (Some k) (where_failing bound place) → Told bound place k
  told_some {k} e = go (eqb place bound) refl e
    where
      go : (b : Bool) → eqb place bound ≡ b → ◌≡◌ {A = Option ℕ} (Some k) (cond b None (Some place)) → Told bound place k
      go true q e = absurd (let z : ◌≡◌ {A = ℕ} 0 1 = cc in omega arith)
      go false q e = record { fails = q; there = cc }

  pub told_none : ◌≡◌ {A = Option ℕ} None (where_failing bound place) → eqb place bound ≡ true
  told_none e = go (eqb place bound) refl e
    where
      go : (b : Bool) → eqb place bound ≡ b → ◌≡◌ {A = Option ℕ} None (cond b None (Some place)) → eqb place bound ≡ true
      go true q e = q
      go false q e = absurd (let z : ◌≡◌ {A = ℕ} 0 1 = cc in omega arith)

-- The first point that fails, by what the code is told one after the other.
module _ (text : Text) (m : Machine) (o₁ o₂ : Order) where
  -- The fourth point.
  pub no_word : eqb (word_point (settings_of text m) o₁ o₂) quadrant_words ≡ true → None ≡ found (failing_word (settings_of text m) o₁ o₂)
  unfolding failing_word
  no_word h = rw h

  module _ {w : ℕ} (told : Told quadrant_words (word_point (settings_of text m) o₁ o₂) w) where
    pub failing-at : (w < quadrant_words) × (word_same (settings_of text m) o₁ o₂ w ≡ false)
    unfolding word_point
    failing-at =
        let f = fails-at (word_same (settings_of text m) o₁ o₂) quadrant_words told.fails in
        rw told.there (f.below, f.fails)

    pub some_word : {k : ℕ} → k ≡ sounding_at (settings_of text m) o₁ o₂ w → Some (record { point = 4; place = w; sounding = k }) ≡ found (failing_word (settings_of text m) o₁ o₂)
    unfolding failing_word
    some_word e = rw (told.fails, e, told.there)

  -- The first.
  module _ {g : ℕ} (told : Told (ticks_of m) (neighbour_point (settings_of text m) o₁ o₂) g) where
    pub neighbour-below : g < ticks_of m
    unfolding neighbour_point
    neighbour-below = rw told.there (fails-at (neighbour_same (settings_of text m) o₁ o₂) (ticks_of m) told.fails).below

    pub first-fails : Some (record { point = 1; place = g; sounding = 0 }) ≡ found (first_point (settings_of text m) o₁ o₂)
    unfolding first_point
    first-fails = rw (told.fails, told.there)

  module _ (holds : eqb (neighbour_point (settings_of text m) o₁ o₂) (ticks_of m) ≡ true) where
    -- The second.
    module _ {d : ℕ} (told : Told dacs (feeder_point (settings_of text m) o₁ o₂) d) where
      pub feeder-below : d < dacs
      unfolding feeder_point
      feeder-below = rw told.there (fails-at (feeder_same (settings_of text m) o₁ o₂) dacs told.fails).below

      pub second-fails : Some (record { point = 2; place = d; sounding = 0 }) ≡ found (first_point (settings_of text m) o₁ o₂)
      unfolding first_point
      second-fails = rw (holds, told.fails, told.there)

    module _ (fed : eqb (feeder_point (settings_of text m) o₁ o₂) dacs ≡ true) where
      -- The third.
      module _ {i : ℕ} (told : Told (writers_of (settings_of text m) o₁ o₂) (writer_point (settings_of text m) o₁ o₂) i) where
        pub writer-below : Traceable m → i < generators
        unfolding writer_point
        writer-below ready =
            let few = count-below-le (settings_of text m).writes (ticks_of m) in
            let below = (fails-at (writer_same (settings_of text m) o₁ o₂) (writers_of (settings_of text m) o₁ o₂) told.fails).below in
            rw told.there (omega (arith, below, few, ready.ticks))

        pub third-fails : Some (record { point = 3; place = i; sounding = 0 }) ≡ found (first_point (settings_of text m) o₁ o₂)
        unfolding first_point
        third-fails = rw (holds, fed, told.fails, told.there)

      pub fourth : eqb (writer_point (settings_of text m) o₁ o₂) (writers_of (settings_of text m) o₁ o₂) ≡ true → {r : Option Failing} → r ≡ found (failing_word (settings_of text m) o₁ o₂)
          → r ≡ found (first_point (settings_of text m) o₁ o₂)
      unfolding first_point
      fourth written e = rw (holds, fed, written) e

-- None fails just where the orders agree.
by_none : {A : Type 0} (x : A) (none b : Bool) → is_some (cond none None (Some x)) ≡ not b → b ≡ none
by_none x true true e = refl
by_none x true false e = absurd (true≢false (sym e))
by_none x false true e = absurd (true≢false e)
by_none x false false e = refl

pub none_found : (text : Text) (m : Machine) (o₁ o₂ : Order) {r : Option Failing} {b : Bool} → r ≡ found (first_point (settings_of text m) o₁ o₂) → is_some r ≡ not b
    → b ≡ agrees (settings_of text m) o₁ o₂
none_found text m o₁ o₂ {b = b} e h =
    by_none _ (eqb (first_point (settings_of text m) o₁ o₂).point 0) b (ap (λ (r : Option Failing). is_some r) (sym e) ∙ h) ∙ first-agrees (settings_of text m) o₁ o₂
