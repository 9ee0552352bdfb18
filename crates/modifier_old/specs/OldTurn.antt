-- The functions of a modifier of the older text by their codes, and its turn (document 02, Q-10; the older text's "Modifiers, Processing").
-- A function that is not defined here is the 1978 text's: the same formula. Assumes nothing.
use Rattle.std.specs.Prelude.{Bool, List, [], ◌∷◌, ℕ, ◌+◌, ◌*◌, ◌^◌}
use Rattle.base_words.specs.Words.{sum}
use Rattle.modifier.specs.declared.Modifier.{Modifier}
use Rattle.modifier.specs.declared.Turned.{Turned}
use Rattle.modifier.specs.Modifier.{function_of, scale_aa, scale_bb, times_m1, times_m0, whole_m0, gives}
use Rattle.modifier.specs.Functions.{Function, early, late, late_in, turn_in}
use Rattle.modifier_mixers.specs.Mixers.{inactive, mixing, minimum, maximum}
use Rattle.modifier_modulators.specs.Modulators.{latch, pulser, amplitude_modulation, four_quadrant, uniform_noise}
use Rattle.modifier_filters.specs.Filters.{two_poles, two_poles_m0_variable, two_poles_m1_variable, two_zeros, two_zeros_m0_variable, two_zeros_m1_variable}

-- A modifier with another MMODE.
abbrev pub with_mmode : Modifier → ℕ → Modifier
with_mmode u mmode =
    record {
      m0 = u.m0;
      m1 = u.m1;
      l0 = u.l0;
      l1 = u.l1;
      min = u.min;
      mrm = u.mrm;
      msum = u.msum;
      mmode = mmode;
    }

-- A modifier with AA and BB in each other's place. In the older text AA is the scale of the first multiplication, one with M1, and BB that of the second, one with M0 or of two signals; in the 1978 text it is the reverse.
unfoldable pub exchanged : Modifier → Modifier
exchanged u = with_mmode u (function_of u * 2 ^ 4 + scale_bb u * 2 ^ 2 + scale_aa u)

-- L0*M1 + L1*M0, the sum of products of the older text's filters.
unfoldable pub old_filtered : Modifier → ℕ
old_filtered u = sum 20 (times_m1 u u.l0) (times_m0 u u.l1)

-- L0 + L1*M0, an integer product: the noise of the older text.
unfoldable pub old_noise : Modifier → ℕ
old_noise u = sum 20 u.l0 (whole_m0 u u.l1)

-- The functions that are built, in the order of the older text's list, of a modifier with AA and BB exchanged. The pulser has no case for Temp0 0.
abbrev pub old_functions : List Function
old_functions =
    early 0b00000 (λ u a b. inactive u)
    ∷ early 0b00001 mixing
    ∷ late 0b00010 latch
    ∷ early 0b00011 (λ u a b. pulser u b 0)
    ∷ early 0b00100 amplitude_modulation
    ∷ early 0b00101 four_quadrant
    ∷ early 0b00110 minimum
    ∷ early 0b00111 maximum
    ∷ late 0b01000 (λ u a b. two_poles u (old_filtered u) a)
    ∷ late 0b01001 (λ u a b. two_poles_m0_variable u (old_filtered u) a b)
    ∷ late 0b01010 (λ u a b. two_poles_m1_variable u (old_filtered u) a b)
    ∷ late 0b01100 (λ u a b. two_zeros u (old_filtered u) a)
    ∷ late 0b01101 (λ u a b. two_zeros_m0_variable u (old_filtered u) a b)
    ∷ late 0b01110 (λ u a b. two_zeros_m1_variable u (old_filtered u) a b)
    ∷ early 0b10000 (λ u a b. uniform_noise u (old_noise u))
    ∷ []

-- The turn by the function's code, with AA and BB exchanged; MMODE stays. A code that is not built gives what inactive gives.
unfoldable pub old_turn_of : Modifier → ℕ → ℕ → Turned
old_turn_of u a b =
    let t = turn_in old_functions (function_of u) (exchanged u) a b in
    gives (with_mmode t.unit u.mmode) t.s

-- Whether A of a function, in modifier-this, sees the writes up to m-1.
unfoldable pub old_reads_late : ℕ → Bool
old_reads_late f = late_in old_functions f
