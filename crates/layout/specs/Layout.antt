-- Where each word of the machine stands (document 01, "The machine").
-- Assumes nothing.
use Rattle.std.specs.Prelude.{ℕ, ◌+◌, ◌*◌}

-- The length of the machine's run of words, and the number of its places that a bench file can name: all but the last, which holds the update ticks.
abbrev pub machine_length : ℕ
machine_length = 4344

abbrev pub file_places : ℕ
file_places = 4343

-- How many generators there are, words of each quadrant of sum memory, and DACs.
abbrev pub generators : ℕ
generators = 256

abbrev pub quadrant_words : ℕ
quadrant_words = 64

abbrev pub dacs : ℕ
dacs = 16

-- Generator g has the eleven words from 11g (g 0..255): register r is at generator_at g + r.
abbrev pub generator_words : ℕ
generator_words = 11

abbrev pub generator_at : ℕ → ℕ
generator_at g = 11 * g

abbrev pub GO : ℕ
GO = 0

abbrev pub GJ : ℕ
GJ = 1

abbrev pub GK : ℕ
GK = 2

abbrev pub GN : ℕ
GN = 3

abbrev pub GM : ℕ
GM = 4

abbrev pub GP : ℕ
GP = 5

abbrev pub GQ : ℕ
GQ = 6

abbrev pub GL : ℕ
GL = 7

abbrev pub GSUM : ℕ
GSUM = 8

abbrev pub GFM : ℕ
GFM = 9

abbrev pub GMODE : ℕ
GMODE = 10

-- Modifier m has the eight words from 2,816+8m (m 0..127): register r is at modifier_at m + r.
abbrev pub modifier_words : ℕ
modifier_words = 8

abbrev pub modifier_at : ℕ → ℕ
modifier_at m = 2816 + 8 * m

abbrev pub M0 : ℕ
M0 = 0

abbrev pub M1 : ℕ
M1 = 1

abbrev pub L0 : ℕ
L0 = 2

abbrev pub L1 : ℕ
L1 = 3

abbrev pub MIN : ℕ
MIN = 4

abbrev pub MRM : ℕ
MRM = 5

abbrev pub MSUM : ℕ
MSUM = 6

abbrev pub MMODE : ℕ
MMODE = 7

-- Sum memory: quadrant q of 64 words, 0 generator-this-pass, 1 generator-last, 2 modifier-this, 3 modifier-last.
abbrev pub quadrant_at : ℕ → ℕ
quadrant_at q = 3840 + 64 * q

-- DAC word d (d 0..15).
abbrev pub dac_at : ℕ → ℕ
dac_at d = 4096 + d

abbrev pub dx_at : ℕ
dx_at = 4112

-- T, the processing ticks.
abbrev pub t_at : ℕ
t_at = 4113

-- N, all ticks of a pass.
abbrev pub n_at : ℕ
n_at = 4114

-- The pass counter.
abbrev pub counter_at : ℕ
counter_at = 4115

-- Lingering, 0 or 1.
abbrev pub lingering_at : ℕ
lingering_at = 4116

-- The Linger pass.
abbrev pub linger_pass_at : ℕ
linger_pass_at = 4117

-- Overrun, 0 or 1.
abbrev pub overrun_at : ℕ
overrun_at = 4118

-- Delay unit u has the seven words from 4,119+7u (u 0..31): register r is at delay_at u + r.
abbrev pub delays : ℕ
delays = 32

abbrev pub delay_words : ℕ
delay_words = 7

abbrev pub delay_at : ℕ → ℕ
delay_at u = 4119 + 7 * u

abbrev pub delay_x : ℕ
delay_x = 0

abbrev pub delay_y : ℕ
delay_y = 1

abbrev pub delay_z : ℕ
delay_z = 2

abbrev pub delay_p : ℕ
delay_p = 3

-- The three words on their way to the modifier, next due first.
abbrev pub delay_first : ℕ
delay_first = 4

abbrev pub delay_second : ℕ
delay_second = 5

abbrev pub delay_third : ℕ
delay_third = 6

-- The update ticks, after the last delay unit: how many commands fit in a pass.
abbrev pub update_ticks_at : ℕ
update_ticks_at = 4343

-- The words of delay memory.
abbrev pub memory_words : ℕ
memory_words = 65536
