-- The generators' stage of a pass, part by part, as the folds of the settings over the order.
-- Assumes nothing.
use mathlib.Core.Path.{◌≡◌, refl, ap, ◌∙◌}
use mathlib.Core.List.{[], ◌∷◌}
use Prim.Native.Nat.{ℕ, ◌%◌, ◌^◌, ◌<◌}
use lib.ListN.{get_or}
use Rattle.layout.specs.Layout.{dac_at}
use Rattle.layout.specs.Machine.{Machine, Order, Items}
use Rattle.pass_sums.specs.Sums.{generator_this}
use Rattle.pass_model.specs.Generators.{Generators, State, step, steps}
use Rattle.compare_agreement.specs.Agreement.{Settings, replaces_word, adds_to_word}
use Rattle.equal_endings.specs.AsCoded.{p_at, sends_at, Follows}
use Rattle.equal_endings.proofs.Folds.{replacing, writing, counting, summing}
use Rattle.equal_endings.proofs.Taking.{Taking, taking-next, dac-next, sum-next, places-next, writes-next, reads-next}

module _ (of : Generators) (c : Settings) (m : Machine) (f : Follows of c m) (items : Items) where
  -- A DAC word.
  pub dac-left : (d : ℕ) → d < 16 → (order : Order) (s : State) → Taking c.ticks m s order
      → get_or (steps of items s order).words (dac_at d) 0 ≡ replacing (c.feeds d) (sends_at of m) order (get_or s.words (dac_at d) 0)
  unfolding steps
  dac-left d h [] s k = refl
  dac-left d h (g ∷ order) s k =
      dac-left d h order (step of items s g) (taking-next of c m f items s g order k)
      ∙ ap (replacing (c.feeds d) (sends_at of m) order) (dac-next of c m f items s g order k d h)

  -- The written items, and their number; the number of those read.
  pub places-left : (order : Order) (s : State) → Taking c.ticks m s order
      → (steps of items s order).places ≡ writing c.writes (sends_at of m) order s.places s.writes
  unfolding steps
  places-left [] s k = refl
  places-left (g ∷ order) s k =
      places-left order (step of items s g) (taking-next of c m f items s g order k)
      ∙ rw (places-next of c m f items s g order k, writes-next of c m f items s g order k)

  pub writes-left : (order : Order) (s : State) → Taking c.ticks m s order → (steps of items s order).writes ≡ counting c.writes order s.writes
  unfolding steps
  writes-left [] s k = refl
  writes-left (g ∷ order) s k =
      writes-left order (step of items s g) (taking-next of c m f items s g order k) ∙ rw (writes-next of c m f items s g order k)

  pub reads-left : (order : Order) (s : State) → Taking c.ticks m s order → (steps of items s order).reads ≡ counting c.replacing order s.reads
  unfolding steps
  reads-left [] s k = refl
  reads-left (g ∷ order) s k =
      reads-left order (step of items s g) (taking-next of c m f items s g order k) ∙ rw (reads-next of c m f items s g order k)

  -- A word of generator-this.
  pub word-left : (w : ℕ) → w < 64 → (order : Order) (s : State) → Taking c.ticks m s order
      → get_or (get_or (steps of items s order).sums generator_this []) w 0
      ≡ summing (2 ^ 20) (replaces_word c w) (adds_to_word c w) c.replacing (p_at of m) (λ j. get_or items j 0 % 2 ^ 20) order
      (get_or (get_or s.sums generator_this []) w 0) s.reads
  unfolding steps
  word-left w h [] s k = refl
  word-left w h (g ∷ order) s k =
      word-left w h order (step of items s g) (taking-next of c m f items s g order k)
      ∙ rw (sum-next of c m f items s g order k w h, reads-next of c m f items s g order k)
