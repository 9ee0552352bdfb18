-- Question 2 as the code asks it: the widths of a region's registers by the or-ing sweep, then the further tests, field by field.
-- Readers need only `valid`, to which a law joins these. Assumes nothing.
use Rattle.std.specs.Prelude.{ℕ, ◌+◌, ◌/◌, ◌%◌, ◌^◌, Bool, ◌&&◌, List, [], ◌∷◌, eqb, leb, ltb, length, get_or}
use Rattle.base_lists.specs.Lists.{tabulate}
use Rattle.layout_old_modes.specs.OldModes.{old_built_modes}
use Rattle.layout_codes.specs.BuiltCodes.{built_function, old_built_function, built_mode}
use Rattle.layout.specs.Layout.{generator_words, GMODE, modifier_at, modifier_words, MIN, MRM, MMODE, dx_at, t_at, n_at, counter_at, lingering_at, linger_pass_at, overrun_at, delay_at, delay_words, delay_p, update_ticks_at}
use Rattle.layout.specs.Machine.{update_ticks_of}
use Rattle.layout.specs.Widths.{word_bits, counter_bits, linger_bits}
use Rattle.layout_texts.specs.declared.Text.{Text}
use Rattle.layout_texts.specs.declared.Text.TheVariants.{Of1978, Old}
use Rattle.machine_sweep.specs.AsCoded.{every_word, swept}
use Rattle.machine.specs.Questions.{Register, width, bits, between, built_modes, generator_registers, modifier_registers, delay_registers}

-- What the words of registers are below.
abbrev pub limits_of : List Register → List ℕ
limits_of [] = []
limits_of (r ∷ rs) = 2 ^ width r ∷ limits_of rs

-- Limits repeated, n of them: those of a row of several units.
unfoldable pub repeated : List ℕ → ℕ → List ℕ
repeated ls n = tabulate (λ i. get_or ls (i % length ls) 0) 0 n

-- The modes, the function and a delay unit's mode by the bits of a word that its width leaves, or by more.
abbrev pub modes_field : Text → ℕ → Bool
modes_field Of1978 x = built_modes (x % 1024)
modes_field Old x = old_built_modes (x % 256)

abbrev pub built : Text → ℕ → Bool
built Of1978 = built_function
built Old = old_built_function

abbrev pub function_field : Text → ℕ → Bool
function_field text x = built text (x / 2 ^ 4 % 32)

abbrev pub delay_field : ℕ → Bool
delay_field x = built_mode (x % 16)

-- The modes of all generators, within the width of GMODE.
unfoldable pub modes_built : Text → List ℕ → Bool
modes_built text m = every_word (modes_field text) m GMODE generator_words 0 256

-- The words of all generators, in rows of four generators.
unfoldable pub generators_within : Text → List ℕ → Bool
generators_within text m = swept (repeated (limits_of (generator_registers text)) 44) m 0 8 && modes_built text m

-- The functions of all modifiers.
unfoldable pub functions_built : Text → List ℕ → Bool
functions_built text m = every_word (function_field text) m (modifier_at 0 + MMODE) modifier_words 0 128

-- The words of all modifiers, in rows of two modifiers.
unfoldable pub modifiers_within : Text → List ℕ → Bool
modifiers_within text m =
    swept (repeated (limits_of (modifier_registers text)) 16) m (modifier_at 0) 8 && every_word (λ x. ltb x 192) m (modifier_at 0 + MIN) modifier_words 0 128
    && every_word (λ x. ltb x 192) m (modifier_at 0 + MRM) modifier_words 0 128 && functions_built text m

-- DX, T, N, the counter, lingering, the Linger pass and overrun are within their ranges.
abbrev pub controls_within : List ℕ → Bool
controls_within m =
    bits word_bits (get_or m dx_at 0) && between 1 256 (get_or m t_at 0) && between 2 1025 (get_or m n_at 0) && bits counter_bits (get_or m counter_at 0)
    && leb (get_or m lingering_at 0) 1 && bits linger_bits (get_or m linger_pass_at 0) && leb (get_or m overrun_at 0) 1

-- The words of all delay units, in rows of four units.
unfoldable pub delays_within : List ℕ → Bool
delays_within m =
    swept (repeated (limits_of delay_registers) 28) m (delay_at 0) 1 && every_word delay_field m (delay_at 0 + delay_p) delay_words 0 32

-- The update ticks are those of T and N.
abbrev pub ticks_counted : List ℕ → Bool
ticks_counted m = eqb (get_or m update_ticks_at 0) (update_ticks_of m)
