-- The twelve worked examples of document 01; the third is that of 1,024, by request Q-5 of document 02.
-- Assumes nothing.
use Rattle.std.specs.Prelude.{◌≡◌, ◌↔◌, ◌≢◌, true, false, [], ◌∷◌, ℕ, ℤ, pos, neg_ℤ, set}
use Rattle.base_words.specs.Words.{low_bits, signed}
use Rattle.generator_sine.specs.Sine.{entry}
use Rattle.generator_exponential.specs.Exponential.{table_size, exponential}
use Rattle.generator_envelope.specs.Envelope.{enveloped}
use Rattle.modifier_product.specs.Product.{product}
use Rattle.layout.specs.Layout.{t_at}
use Rattle.layout_modes.specs.Modes.{running_a, running_b, wait, read_data, write_dac, envelope_on, free}
use Rattle.machine.specs.Questions.{fresh_machine}
use Rattle.layout.specs.Machine.{Machine, Order, ticks_of, with_update_ticks, gsum_at, gfm_at}
use Rattle.layout_texts.specs.Texts.{run_mode_at, dac_number_at}
use Rattle.layout_texts.specs.declared.Text.TheVariants.{Of1978}
use Rattle.generator.specs.declared.Generator.{Generator}
use Rattle.generator.specs.Generator.{run_mode, gq_after, triggers}
use Rattle.pass_laws.specs.Good.{Good}
use Rattle.equal_orders.specs.Equal.{Equal}

-- The word of 20 bits that stands for an integer.
abbrev pub word : ℤ → ℕ
word z = low_bits 20 z

-- A generator whose envelope is on, with GQ 16,777,215 and GP 1.
pub record AtTop (u : Generator) : Type 0 where
  pub on : envelope_on (run_mode u) ≡ true
  pub gq : u.gq ≡ 16777215
  pub gp : u.gp ≡ 1

-- One with this GMODE, its other registers 0.
abbrev pub at_top : ℕ → Generator
at_top mode =
    record {
      go = 0;
      gj = 0;
      gk = 0;
      gn = 0;
      gm = 0;
      gp = 1;
      gq = 16777215;
      gl = 0;
      gsum = 0;
      gfm = 0;
      gmode = mode;
    }

-- The two orders of two generators.
abbrev pub forth : Order
forth = 0 ∷ 1 ∷ []

abbrev pub back : Order
back = 1 ∷ 0 ∷ []

-- A good machine with T = 2 whose generators 0 and 1 have these run modes.
pub record TwoTicks (m : Machine) (r₀ r₁ : ℕ) : Type 0 where
  pub good : Good Of1978 m
  pub ticks : ticks_of m ≡ 2
  pub run₀ : run_mode_at Of1978 m 0 ≡ r₀
  pub run₁ : run_mode_at Of1978 m 1 ≡ r₁

-- Such a machine whose generators both feed DAC 0.
pub record BothFeed (m : Machine) : Type 0 where
  pub two : TwoTicks m write_dac write_dac
  pub dac₀ : dac_number_at Of1978 m 0 ≡ 0
  pub dac₁ : dac_number_at Of1978 m 1 ≡ 0

-- A fresh machine with T = 2, the update ticks that follow, and these GMODEs, GSUMs and GFMs of its first two generators, words 8 to 10 and 19 to 21.
unfoldable pub of_two : ℕ → ℕ → ℕ → ℕ → ℕ → ℕ → Machine
of_two mode₀ mode₁ sum₀ sum₁ fm₀ fm₁ =
    set (set (set (set (set (set (with_update_ticks (set fresh_machine t_at 2)) 8 sum₀) 9 fm₀) 10 mode₀) 19 sum₁) 20 fm₁) 21 mode₁

-- The twelve examples. Example 9 speaks of every generator of its kind, examples 10 to 12 of every good machine of theirs; generators and machines of each kind are shown.
pub record WorkedExamples : Type 0 where
  -- 1. Sine entries 0, 1, 1,023, 2,047: 1, 4, 2,895, 4,095.
  pub example-1 : (entry 0 ≡ 1) × (entry 1 ≡ 4) × (entry 1023 ≡ 2895) × (entry 2047 ≡ 4095)
  -- 2. Exponential of 0: 4,093.
  pub example-2 : exponential table_size 0 ≡ 4093
  -- 3. Of 1,024, where document 01 has it of 256: 2,046.
  pub example-3 : exponential table_size 1024 ≡ 2046
  -- 4. W 2,048, V 4,095: P 131,040; W -2,048: -131,040.
  pub example-4 : (enveloped (pos 2048) 4095 ≡ pos 131040) × (enveloped (neg_ℤ (pos 2048)) 4095 ≡ neg_ℤ (pos 131040))
  -- 5. W 1, V 31: 0; V 32: 1.
  pub example-5 : (enveloped (pos 1) 31 ≡ pos 0) × (enveloped (pos 1) 32 ≡ pos 1)
  -- 6. W -1, V 32: -1.
  pub example-6 : enveloped (neg_ℤ (pos 1)) 32 ≡ neg_ℤ (pos 1)
  -- 7. Modifier product -524,288 by itself, s 0: -524,288.
  pub example-7 : signed 20 (product 0 (word (neg_ℤ (pos 524288))) (word (neg_ℤ (pos 524288)))) ≡ neg_ℤ (pos 524288)
  -- 8. 1 by 262,144: 1; -1 by 262,144: 0.
  pub example-8 : (signed 20 (product 0 (word (pos 1)) (word (pos 262144))) ≡ pos 1) × (signed 20 (product 0 (word (neg_ℤ (pos 1))) (word (pos 262144))) ≡ pos 0)
  -- 9. GQ 16,777,215, GP 1: sticky keeps it, free gives 0 and triggers.
  pub example-9-sticky : (u : Generator) → AtTop u → free (run_mode u) ≡ false → gq_after u ≡ 16777215
  pub example-9-free : (u : Generator) → AtTop u → free (run_mode u) ≡ true → (gq_after u ≡ 0) × (triggers u ≡ true)
  -- Generators of these kinds: 1111, and 1110.
  pub shown-9-sticky : AtTop (at_top 960) × (free (run_mode (at_top 960)) ≡ false) × (gq_after (at_top 960) ≡ 16777215)
  pub shown-9-free : AtTop (at_top 896) × (free (run_mode (at_top 896)) ≡ true) × (gq_after (at_top 896) ≡ 0) × (triggers (at_top 896) ≡ true)
  -- 10. Modes 1110, 1001: unequal.
  pub example-10 : (m : Machine) → TwoTicks m running_b wait → Equal Of1978 m forth back → ⊥
  -- 11. Both 0010 to DAC 0: equal only with one GFM.
  pub example-11 : (m : Machine) → BothFeed m → Equal Of1978 m forth back ↔ (gfm_at m 0 ≡ gfm_at m 1)
  -- 12. 0111 then 1111: unequal on one GSUM, equal on two.
  pub example-12 : (m : Machine) → TwoTicks m read_data running_a → Equal Of1978 m forth back ↔ (gsum_at m 0 ≢ gsum_at m 1)
  -- Machines of these kinds: 1110 and 1001; both 0010 with GFM 5 and 5, and with 5 and 6; 0111 and 1111 on GSUM 3 and 3, and on 3 and 4.
  pub shown-10 : TwoTicks (of_two 896 576 0 0 0 0) running_b wait × (Equal Of1978 (of_two 896 576 0 0 0 0) forth back → ⊥)
  pub shown-11-one : BothFeed (of_two 128 128 0 0 5 5) × Equal Of1978 (of_two 128 128 0 0 5 5) forth back
  pub shown-11-two : BothFeed (of_two 128 128 0 0 5 6) × (Equal Of1978 (of_two 128 128 0 0 5 6) forth back → ⊥)
  pub shown-12-one : TwoTicks (of_two 448 960 3 3 0 0) read_data running_a × (Equal Of1978 (of_two 448 960 3 3 0 0) forth back → ⊥)
  pub shown-12-two : TwoTicks (of_two 448 960 3 4 0 0) read_data running_a × Equal Of1978 (of_two 448 960 3 4 0 0) forth back
