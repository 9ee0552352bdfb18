-- Contents that tell two orders of the generators apart: machines that have the settings of a machine and other words, and read lists.
-- Assumes nothing.
use Rattle.std.specs.Prelude.{ℕ, ◌+◌, ◌*◌, ◌/◌, ◌%◌, ◌^◌, cond, ◌&&◌, List, [], ◌∷◌, eqb, get_or}
use Rattle.base_fills.specs.Fills.{filled}
use Rattle.layout.specs.Layout.{generators, generator_words, modifier_at, modifier_words, quadrant_at, quadrant_words, GJ, GK, GN, GM, GP, GQ, GL, MMODE}
use Rattle.layout.specs.Machine.{Machine, Items, gmode_at}
use Rattle.layout.specs.Widths.{gl_bits}
use Rattle.layout_texts.specs.declared.Text.{Text}
use Rattle.layout_texts.specs.declared.Text.TheVariants.{Of1978, Old}
use Rattle.layout_old_modes.specs.OldModes.{old_envelope}
use Rattle.layout_modes.specs.Modes.{read_data}
use Rattle.pass_order.specs.Order.{in_mode}
use Rattle.pass_sums.specs.Sums.{generator_last, modifier_last}

-- A register of every generator with the words that it gets, by the generator's number.
pub data Column : Type 0 where
  column : ℕ → (ℕ → ℕ) → Column

-- A machine in which columns of registers are filled.
abbrev pub with_columns : List Column → Machine → Machine
with_columns [] m = m
with_columns (column register word ∷ columns) m = filled register generator_words generators word (with_columns columns m)

-- A machine in which each word of quadrant q of sum memory, by its number, is what f gives.
abbrev pub each_word : ℕ → (ℕ → ℕ) → Machine → Machine
each_word q f m = filled (quadrant_at q) 1 quadrant_words f m

-- Every modifier is inactive, so that no delay unit and no delay memory has a say.
unfoldable pub inactive_modifiers : Machine → Machine
inactive_modifiers m = filled (modifier_at 0 + MMODE) modifier_words 128 (λ k. 0) m

-- And the words from which F comes, those of generator-last and of modifier-last, are what two functions give.
unfoldable pub with_last : (ℕ → ℕ) → (ℕ → ℕ) → Machine → Machine
with_last first second m = each_word modifier_last second (each_word generator_last first (inactive_modifiers m))

-- Every envelope that is on overflows: GP is 1 and GQ 16,777,215. So each 1110 and each 1101 triggers.
abbrev pub overflowing : List Column
overflowing = column GQ (λ g. 16777215) ∷ column GP (λ g. 1) ∷ []

unfoldable pub triggering_contents : Machine → Machine
triggering_contents m = with_columns overflowing (inactive_modifiers m)

-- GK and the high 20 bits of GJ are the generator's number.
abbrev pub own_numbers : List Column
own_numbers = column GJ (λ g. 256 * g) ∷ column GK (λ g. g) ∷ []

-- What is sent tells its source. In 1978's text it is F: the word at each GFM is that GFM, generator-last word w is w, modifier-last word w is 64 + w.
-- In the older text it is GK or J, by the oscillator mode: with every F 0 both are the generator's number.
unfoldable pub sending_contents : Text → Machine → Machine
sending_contents Of1978 m = with_last (λ w. w) (λ w. 64 + w) m
sending_contents Old m = with_columns own_numbers (with_last (λ w. 0) (λ w. 0) m)

-- GL at which V is 0 where GQ is 0, by the envelope mode in GMODE: the exponential of 0 is 4,093; the older text adds it in 10 and takes it away in 11.
abbrev pub silent_level : Text → ℕ → ℕ
silent_level Of1978 gmode = get_or (0 ∷ 0 ∷ 4093 ∷ 3 ∷ []) (gmode / 2 ^ 4 % 2 ^ 2) 0
silent_level Old gmode = get_or (0 ∷ 0 ∷ 3 ∷ 4093 ∷ []) (old_envelope gmode) 0

-- GL of generator g where only generator s sounds: V is 64 at s and 0 at every other.
unfoldable pub sounding_level : Text → Machine → ℕ → ℕ → ℕ
sounding_level text m s g = (silent_level text (gmode_at m g) + cond (eqb g s) 64 0) % 2 ^ gl_bits

-- K, the high 13 bits of GK or in the older text 12, is 1 unless it comes from J, and GN is 1. The older text has no use for GN in a wave: there it is a setting, and stays.
abbrev pub wave_columns : Text → List Column
wave_columns Of1978 = column GK (λ g. 128) ∷ column GN (λ g. 1) ∷ []
wave_columns Old = column GK (λ g. 256) ∷ []

-- With these, GM 0 and every F 1, W is not 0 in any oscillator mode: the high 20 bits of GJ are the largest signed number, so that step 1 leaves its range. GQ is 0.
abbrev pub sounding_columns : Text → Machine → ℕ → List Column
sounding_columns text m s = column GL (sounding_level text m s) ∷ column GQ (λ g. 0) ∷ column GM (λ g. 0) ∷ column GJ (λ g. 134217472) ∷ wave_columns text

-- Generator s alone sounds. Where s is no generator's number, none does.
unfoldable pub sounding_contents : Text → Machine → ℕ → Machine
sounding_contents text m s = with_columns (sounding_columns text m s) (with_last (λ w. 1) (λ w. 1) m)

-- Of three contents the one that shows a point, by its number: the first shows where generators trigger, the fourth where one sounds,
-- the second and third where what is sent tells its source.
abbrev pub by_point : ℕ → Machine → Machine → Machine → Machine
by_point point triggering sounding sending = cond (eqb point 1) triggering (cond (eqb point 4) sounding sending)

-- Contents with the settings of a machine that show where a point fails; s is the generator that is to sound for the fourth.
unfoldable pub contents_for : Text → Machine → ℕ → ℕ → Machine
contents_for text m point s = by_point point (triggering_contents m) (sounding_contents text m s) (sending_contents text m)

-- Item i of the read list: 0; but for the fourth point, where no generator is to sound, items count up from 0.
abbrev pub item_for : ℕ → ℕ → ℕ → ℕ
item_for point s i = cond (eqb point 4 && eqb s generators) i 0

-- A read list with such items for all 0111s below T, and the others as they were.
unfoldable pub items_for : Text → Machine → ℕ → ℕ → Items → Items
items_for text m point s items = filled 0 1 (in_mode text m read_data) (item_for point s) items
