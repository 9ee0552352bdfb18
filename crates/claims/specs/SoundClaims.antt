-- What is claimed of the sound that program wav writes: its rate and its frames.
-- Assumes nothing.
use Rattle.std.specs.Prelude.{ℕ, ◌+◌, ◌*◌, ◌/◌, ◌%◌, ◌^◌, ◌≤◌, ◌<◌, [], ◌∷◌, ◌++◌, ◌≡◌, pos, ◌*ℤ◌}
use Rattle.base_words.specs.Words.{low_bits, signed}
use Rattle.file_wave.specs.WaveFormat.{sample, frame, tick, second, rate_of}

pub record SoundClaims : Type 0 where
  -- The rate of passes of n ticks is the nearest whole number of passes a second: it is at most second / (tick * n) and a half, and the next whole number is more.
  pub rate-nearest : (n : ℕ) → 0 < n → (2 * tick * n * rate_of n ≤ 2 * second + tick * n) × (2 * second + tick * n < 2 * tick * n * (rate_of n + 1))
  -- A frame is the sample of the left and that of the right. The three bytes of a sample are the low 24 bits of its signed word times 16, the lowest byte first.
  pub frame-samples : (left right : ℕ) → frame left right ≡ sample left ++ sample right
  pub sample-bytes : (w z : ℕ) → w < 2 ^ 20 → z ≡ low_bits 24 (pos 16 *ℤ signed 20 w) → sample w ≡ z % 2 ^ 8 ∷ z / 2 ^ 8 % 2 ^ 8 ∷ z / 2 ^ 16 ∷ []
