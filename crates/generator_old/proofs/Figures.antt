-- Figures of the older text's definitions, computed: cosines of K by GM, waves by oscillator mode, levels by envelope mode, P, and the run modes.
-- Assumes nothing.
use mathlib.Core.Path.{◌≡◌, refl}
use mathlib.Core.Bool.{true, false}
use lib.IntN.{pos, neg_ℤ}
use Rattle.base_words.specs.Words.{low_bits, signed}
use Rattle.generator_sine.specs.Sine.{first_three, polynomial, angle, entry, index_of, negative, magnitude}
use Rattle.generator_exponential.specs.Exponential.{bound, within, greatest, entry as exponential_entry, exponential}
use Rattle.layout_modes.specs.Modes.{inactive, pause, running_a, running_b, running_c, wait, read_data, write_data, write_dac}
use Rattle.generator_oscillator.specs.Oscillator.{square, pulse, sine_wave}
use Rattle.generator_old_waves.specs.OldWaves.{cosine, old_wave}
use Rattle.generator_envelope.specs.Envelope.{rounded, enveloped}
use Rattle.layout_old_modes.specs.OldModes.{old_run_mode}
use Rattle.generator_old.specs.OldGenerator.{old_q, old_level}

-- K is 0 with GM 0 and 1, then 1, 256, 512, 1,023, 1,024, 1,025; as a word of 12 bits, -512 is 3,584, -1,023 is 3,073, -1,024 is 3,072, -2,048 is 2,048.
cosines : (cosine 0 0 ≡ pos 2047) × (cosine 0 1 ≡ pos 1023) × (cosine 1 0 ≡ pos 2047) × (cosine 256 0 ≡ pos 1891) × (cosine 512 0 ≡ pos 1447) × (cosine 1023 0 ≡ pos 2) × (cosine 1024 0 ≡ pos 0) × (cosine 1025 0 ≡ neg_ℤ (pos 3))
unfolding cosine sine_wave magnitude negative index_of entry angle polynomial first_three
cosines = (refl, refl, refl, refl, refl, refl, refl, refl)

cosines-below : (cosine 3584 0 ≡ pos 1448) × (cosine 3073 0 ≡ pos 3) × (cosine 3072 0 ≡ pos 0) × (cosine 2048 0 ≡ neg_ℤ (pos 2047))
unfolding cosine sine_wave magnitude negative index_of entry angle polynomial first_three
cosines-below = (refl, refl, refl, refl)

-- 001 is the square of 1,024, 010 is K, at -2,048 too, 011 the pulse.
waves : (old_wave 0b001 2047 0 false ≡ pos 1024) × (old_wave 0b001 2048 0 false ≡ neg_ℤ (pos 1024)) × (old_wave 0b010 2048 0 false ≡ neg_ℤ (pos 2048)) × (old_wave 0b010 4095 0 false ≡ neg_ℤ (pos 1)) × (old_wave 0b011 5 0 true ≡ pos 1024) × (old_wave 0b011 5 0 false ≡ pos 0)
unfolding old_wave square pulse signed
waves = (refl, refl, refl, refl, refl, refl)

-- GL 5 and H 1 in 00 and 01; the exponential of 0 is 4,093 in 10 and 11.
levels : (old_level 0b00 5 4096 ≡ 6) × (old_level 0b01 5 4096 ≡ 4) × (old_level 0b10 2 0 ≡ 4095) × (old_level 0b11 4094 0 ≡ 1)
unfolding old_level old_q low_bits exponential exponential_entry within greatest bound
levels = (refl, refl, refl, refl)

outputs : (enveloped (pos 1024) 4095 ≡ pos 65520) × (enveloped (pos 2047) 4095 ≡ pos 130976) × (enveloped (neg_ℤ (pos 2048)) 4095 ≡ neg_ℤ (pos 131040))
unfolding enveloped rounded
outputs = (refl, refl, refl)

-- By GMODE, envelope and oscillator mode 0; GN is negative from 1,024 on.
runs : (old_run_mode 0b00000000 0 ≡ inactive) × (old_run_mode 0b00100000 0 ≡ pause) × (old_run_mode 0b01000000 0 ≡ running_a) × (old_run_mode 0b01100000 0 ≡ running_b) × (old_run_mode 0b10000000 0 ≡ wait) × (old_run_mode 0b10100000 0 ≡ running_c) × (old_run_mode 0b11000000 0 ≡ read_data)
unfolding old_run_mode
runs = (refl, refl, refl, refl, refl, refl, refl)

sends : (old_run_mode 0b11100000 1023 ≡ write_dac) × (old_run_mode 0b11100000 1024 ≡ write_data)
unfolding old_run_mode
sends = (refl, refl)
