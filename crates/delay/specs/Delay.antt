-- One delay unit: its registers and its turn (document 02, Q-1; the 1978 text, "Delay units").
-- Assumes nothing.
use Rattle.std.specs.Prelude.{ℕ, ◌+◌, ◌-◌, ◌/◌, ◌%◌, ◌^◌, ◌<◌, Bool, cond, not, ◌&&◌, List, eqb, leb, ltb, get_or, set}
use Rattle.layout.specs.Layout.{delay_x, delay_y, delay_z, delay_p, delay_first, delay_second, delay_third, memory_words}
use Rattle.layout.specs.Widths.{delay_bits, delay_mode_bits, word_bits}
use Rattle.layout.specs.Machine.{Machine, Memory}
use Rattle.layout_codes.specs.BuiltCodes.{inactive, line, rounded_table}
use Rattle.delay.specs.declared.Delay.{Delay}

-- The delay unit whose seven words a part of the machine starts with, each register at its width.
unfoldable pub loaded : List ℕ → Delay
loaded m =
    record {
      x = get_or m delay_x 0 % 2 ^ delay_bits;
      y = get_or m delay_y 0 % 2 ^ delay_bits;
      z = get_or m delay_z 0 % 2 ^ delay_bits;
      p = get_or m delay_p 0 % 2 ^ delay_mode_bits;
      first = get_or m delay_first 0 % 2 ^ word_bits;
      second = get_or m delay_second 0 % 2 ^ word_bits;
      third = get_or m delay_third 0 % 2 ^ word_bits;
    }

-- A machine, or a part of it, with the registers that a turn can change written back at a place: Y and the three words on their way.
unfoldable pub stored : Machine → ℕ → Delay → Machine
stored m at d =
    set (set (set (set m (at + delay_y) d.y) (at + delay_first) d.first) (at + delay_second) d.second) (at + delay_third) d.third

-- A unit with another Y and other words on their way.
abbrev pub updated : Delay → ℕ → ℕ → ℕ → ℕ → Delay
updated d y first second third =
    record {
      x = d.x;
      y = y;
      z = d.z;
      p = d.p;
      first = first;
      second = second;
      third = third;
    }

-- Every register is within its width.
pub record Ranged (d : Delay) : Type 0 where
  pub x-low : d.x < 2 ^ delay_bits
  pub y-low : d.y < 2 ^ delay_bits
  pub z-low : d.z < 2 ^ delay_bits
  pub p-low : d.p < 2 ^ delay_mode_bits
  pub first-low : d.first < 2 ^ word_bits
  pub second-low : d.second < 2 ^ word_bits
  pub third-low : d.third < 2 ^ word_bits

-- Whether unit u doesn't act as inactive in a pass of T processing ticks: its mode is another one, T is at least 10, and u is below (T-6) div 4.
unfoldable pub runs : ℕ → ℕ → Delay → Bool
runs t u d = not (eqb d.p inactive) && (leb 10 t && ltb u ((t - 6) / 4))

-- What goes out to the modifier: the word that is due.
abbrev pub due : Delay → ℕ
due d = d.first

-- What a turn leaves: the unit afterwards, and delay memory.
pub record After : Type 0 where
  pub unit : Delay
  pub memory : Memory

-- The slot of a line.
abbrev pub slot : Delay → ℕ
slot d = d.x + d.y

-- Y steps by 1 after each word, from Z to 0.
abbrev pub stepped : Delay → ℕ
stepped d = cond (ltb d.y d.z) (d.y + 1) 0

-- A line's turn with a word from the modifier: the words on their way move up; the word in the slot leaves and becomes the second, the third is 0; the new word is put into the slot.
unfoldable pub line_turn : Delay → Memory → ℕ → After
line_turn d memory w =
    record {
      unit = updated d (stepped d) d.second (get_or memory (slot d) 0) 0;
      memory = set memory (slot d) w;
    }

-- How many places a table's argument is shifted to the right: the low 4 bits of Z.
abbrev pub places : Delay → ℕ
places d = d.z % 2 ^ 4

-- The most significant bit shifted out, which a rounded table adds; nothing is shifted out of a shift by 0.
abbrev pub rounding : Delay → ℕ → ℕ
rounding d w = cond (eqb d.p rounded_table && not (eqb (places d) 0)) (w / 2 ^ (places d - 1) % 2) 0

-- The address that a table looks up: the shifted argument, rounded, its right 16 bits, from X on, modulo 65,536.
unfoldable pub address : Delay → ℕ → ℕ
address d w = (d.x + (w / 2 ^ places d + rounding d w) % 2 ^ delay_bits) % memory_words

-- A table's turn: the words on their way move up, and the answer becomes the third. Y and memory stay.
unfoldable pub table_turn : Delay → Memory → ℕ → After
table_turn d memory w =
    record {
      unit = updated d d.y d.second d.third (get_or memory (address d w) 0);
      memory = memory;
    }

-- The turn of a unit that doesn't act as inactive, with a word from the modifier.
unfoldable pub delay_turn_of : Delay → Memory → ℕ → After
delay_turn_of d memory w = cond (eqb d.p line) (line_turn d memory w) (table_turn d memory w)
