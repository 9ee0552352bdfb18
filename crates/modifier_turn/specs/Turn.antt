-- The functions of a modifier by their codes, and a modifier's turn (document 01, "A modifier").
-- Assumes nothing.
use Rattle.std.specs.Prelude.{Bool, List, [], ◌∷◌, ℕ}
use Rattle.modifier.specs.declared.Modifier.{Modifier}
use Rattle.modifier.specs.declared.Turned.{Turned}
use Rattle.modifier.specs.Modifier.{function_of}
use Rattle.modifier.specs.Functions.{Function, early, late, late_in, turn_in}
use Rattle.modifier_mixers.specs.Mixers.{inactive, integer_mixing, mixing, signum, minimum, maximum, threshold}
use Rattle.modifier_modulators.specs.Modulators.{latch, minus_epsilon, pulser, amplitude_modulation, four_quadrant, noise, uniform_noise, triggered_noise}
use Rattle.modifier_filters.specs.Filters.{one_pole, filtered, one_zero, two_poles, two_poles_m0_variable, two_poles_m1_variable, two_zeros, two_zeros_m0_variable, two_zeros_m1_variable}
use Rattle.modifier_delay.specs.Invoke.{invoke_delay}

-- The functions that are built, in the order of the 1978 text's list. b is B, or DM in 00111, where B is not read.
abbrev pub functions : List Function
functions =
    early 0b00000 (λ u a b. inactive u)
    ∷ early 0b00010 (λ u a b. uniform_noise u (noise u))
    ∷ early 0b00011 (λ u a b. triggered_noise u b)
    ∷ late 0b00100 latch
    ∷ early 0b00110 threshold
    ∷ late 0b00111 invoke_delay
    ∷ late 0b01000 (λ u a b. two_poles u (filtered u) a)
    ∷ late 0b01001 (λ u a b. two_poles_m0_variable u (filtered u) a b)
    ∷ late 0b01011 (λ u a b. two_poles_m1_variable u (filtered u) a b)
    ∷ late 0b01100 (λ u a b. two_zeros u (filtered u) a)
    ∷ late 0b01101 (λ u a b. two_zeros_m0_variable u (filtered u) a b)
    ∷ late 0b01111 (λ u a b. two_zeros_m1_variable u (filtered u) a b)
    ∷ early 0b10000 integer_mixing
    ∷ early 0b10001 (λ u a b. one_pole u b)
    ∷ early 0b10100 mixing
    ∷ late 0b10110 (λ u a b. one_zero u a)
    ∷ early 0b11000 four_quadrant
    ∷ early 0b11001 amplitude_modulation
    ∷ early 0b11010 maximum
    ∷ early 0b11011 minimum
    ∷ early 0b11100 signum
    ∷ early 0b11101 (λ u a b. pulser u b minus_epsilon)
    ∷ []

-- The turn by the function's code. A code that is not built gives what inactive gives.
unfoldable pub turn_of : Modifier → ℕ → ℕ → Turned
turn_of u a b = turn_in functions (function_of u) u a b

-- Whether A of a function, in modifier-this, sees the writes up to m-1.
unfoldable pub reads_late : ℕ → Bool
reads_late f = late_in functions f
