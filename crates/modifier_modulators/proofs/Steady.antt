-- What these turns give stays within its widths.
-- Assumes nothing.
use Prim.Native.Nat.{ℕ, ◌^◌, ◌<◌}
use lib.Dec.{lit≤}
use Rattle.modifier.specs.declared.Modifier.{Modifier}
use Rattle.modifier.proofs.Low.{lows}
use Rattle.modifier.proofs.Turns.{Steady, changed}
use Rattle.modifier_modulators.specs.Modulators.{latch, minus_epsilon, pulser, amplitude_modulation, four_quadrant, noise, uniform_noise, triggered_noise}

pub noise-low : (u : Modifier) → noise u < 2 ^ 20
unfolding noise
noise-low u = search lows

pub epsilon-low : minus_epsilon < 2 ^ 20
epsilon-low = lit≤ tt

module _ (u : Modifier) (a : ℕ) where
  pub latch-steady : (b : ℕ) → Steady u a (latch u a b)
  unfolding latch
  latch-steady b = changed u a (λ r h. search lows)

  pub pulser-steady : (b z : ℕ) → z < 2 ^ 20 → Steady u a (pulser u b z)
  unfolding pulser
  pulser-steady b z l = changed u a (λ r h. search lows)

  pub amplitude-modulation-steady : (b : ℕ) → Steady u a (amplitude_modulation u a b)
  unfolding amplitude_modulation
  amplitude-modulation-steady b = changed u a (λ r h. search lows)

  pub four-quadrant-steady : (b : ℕ) → Steady u a (four_quadrant u a b)
  unfolding four_quadrant
  four-quadrant-steady b = changed u a (λ r h. search lows)

  pub uniform-noise-steady : (n : ℕ) → n < 2 ^ 20 → Steady u a (uniform_noise u n)
  unfolding uniform_noise
  uniform-noise-steady n l = changed u a (λ r h. search lows)

  pub triggered-noise-steady : (b : ℕ) → Steady u a (triggered_noise u b)
  unfolding triggered_noise noise
  triggered-noise-steady b = changed u a (λ r h. search lows)

pub ruleset steady-modulators = (noise-low, epsilon-low, latch-steady, pulser-steady, amplitude-modulation-steady, four-quadrant-steady, uniform-noise-steady, triggered-noise-steady)
