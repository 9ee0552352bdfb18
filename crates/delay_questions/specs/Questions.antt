-- Questions 10, 11 and 12 of a pass (document 02, Q-1: "Checks").
-- Assumes nothing.
use Rattle.std.specs.Prelude.{ℕ, ◌+◌, ◌/◌, ◌%◌, ◌^◌, Bool, true, cond, not, ◌&&◌, eqb, leb, ltb, length, get_or, drop}
use Rattle.base_lists.specs.Lists.{all_below}
use Rattle.layout.specs.Layout.{delay_at, memory_words}
use Rattle.layout.specs.Widths.{word_bits}
use Rattle.layout.specs.Machine.{Machine, Memory, ticks_of, mrm_at, function_at}
use Rattle.base_questions.specs.Questions.{Question}
use Rattle.delay.specs.declared.Delay.{Delay}
use Rattle.layout_codes.specs.BuiltCodes.{line}
use Rattle.delay.specs.Delay.{loaded, runs}

-- Delay memory has 65,536 words, and no word above 20 bits.
unfoldable pub memory_good : Memory → Bool
memory_good memory = eqb (length memory) memory_words && all_below (λ i. ltb (get_or memory i 0) (2 ^ word_bits)) (length memory)

-- Question 10.
abbrev pub question10 : Memory → Question
question10 memory = record { number = 10; yes = memory_good memory }

-- Whether modifier k invokes a delay unit, and the unit that it names: MRM's low 5 bits.
abbrev pub invokes : Machine → ℕ → Bool
invokes m k = eqb (function_at m k) 0b00111

abbrev pub named_by : Machine → ℕ → ℕ
named_by m k = mrm_at m k % 2 ^ 5

-- Delay unit u.
abbrev pub delay_of : Machine → ℕ → Delay
delay_of m u = loaded (drop (delay_at u) m)

-- A line that fits in delay memory, with Y at most Z.
abbrev pub fits : Delay → Bool
fits d = ltb (d.x + d.z) memory_words && leb d.y d.z

-- A line unit that modifier k invokes fits, if it doesn't act as inactive.
unfoldable pub good_line : Machine → ℕ → Bool
good_line m k =
    let d = delay_of m (named_by m k) in
    cond (invokes m k && (eqb d.p line && runs (ticks_of m) (named_by m k) d)) (fits d) true

-- Question 11: this holds of every modifier below T div 2.
unfoldable pub lines_good : Machine → Bool
lines_good m = all_below (good_line m) (ticks_of m / 2)

abbrev pub question11 : Machine → Question
question11 m = record { number = 11; yes = lines_good m }

-- Modifiers j and k don't both invoke one unit.
unfoldable pub apart : Machine → ℕ → ℕ → Bool
apart m j k = not (invokes m j && (invokes m k && eqb (named_by m j) (named_by m k)))

-- Question 12: so it is of every two modifiers below T div 2, whatever the unit's mode.
unfoldable pub named_once : Machine → Bool
named_once m = all_below (λ k. all_below (λ j. apart m j k) k) (ticks_of m / 2)

abbrev pub question12 : Machine → Question
question12 m = record { number = 12; yes = named_once m }
