-- When two orders of the generators are equal (document 01, "A pass, and two orders of it"; document 02, Q-1 and Q-10).
-- Assumes nothing.
use Rattle.std.specs.Prelude.{ℕ, ◌+◌, ◌%◌, ◌^◌, ◌≤◌, ◌<◌, List, ◌≡◌, length, get_or}
use Rattle.layout.specs.Layout.{generator_at, GN}
use Rattle.layout_old_modes.specs.OldModes.{old_run, negative_gn}
use Rattle.layout_modes.specs.Modes.{read_data, write_data, write_dac}
use Rattle.pass_order.specs.Order.{in_mode}
use Rattle.layout.specs.Machine.{Machine, Order, ticks_of, gmode_at, gsum_at, gfm_at}
use Rattle.layout_texts.specs.Texts.{run_mode_at, dac_number_at}
use Rattle.layout_texts.specs.declared.Text.{Text}
use Rattle.layout_texts.specs.declared.Text.TheVariants.{Of1978, Old}
use Rattle.pass_model.specs.Pass.{Call, by, Outcome, written_data, pass_of}
use Rattle.pass_laws.specs.Good.{Good}

-- GN of generator g.
abbrev pub gn_at : Machine → ℕ → ℕ
gn_at m g = get_or m (generator_at g + GN) 0

-- What is a setting of a generator that sends: the DAC number of a 0010. In the older text, of a 111, the sign of GN and its low 4 bits, the DAC number.
abbrev pub SameSending : Text → Machine → Machine → ℕ → Type 0
SameSending Of1978 m n g = run_mode_at Of1978 m g ≡ write_dac → dac_number_at Of1978 m g ≡ dac_number_at Of1978 n g
SameSending Old m n g = old_run (gmode_at m g) ≡ 0b111 → (negative_gn (gn_at m g) ≡ negative_gn (gn_at n g)) × (gn_at m g % 2 ^ 4 ≡ gn_at n g % 2 ^ 4)

-- Two machines have the same settings: T, every GMODE, GSUM and GFM, and these of each generator that sends.
pub record SameSettings (text : Text) (m n : Machine) : Type 0 where
  pub ticks : ticks_of m ≡ ticks_of n
  pub modes : (g : ℕ) → g < 256 → gmode_at m g ≡ gmode_at n g
  pub words : (g : ℕ) → g < 256 → gsum_at m g ≡ gsum_at n g
  pub inputs : (g : ℕ) → g < 256 → gfm_at m g ≡ gfm_at n g
  pub sending : (g : ℕ) → g < 256 → SameSending text m n g

-- A run of 32-bit words.
abbrev pub Words : List ℕ → Type 0
Words xs = (i : ℕ) → i < length xs → get_or xs i 0 < 2 ^ 32

-- What a call brings is enough for a machine: a read list with items for all 0111s below T, and a run of written places that is long enough.
pub record Enough (text : Text) (m : Machine) (call : Call) : Type 0 where
  pub items : Words call.items
  pub places : Words call.places
  pub reads : in_mode text m read_data ≤ length call.items
  pub writes : in_mode text m write_data ≤ length call.places

-- Two passes leave the same value in each word of the machine and of delay memory, and write the same items in the same sequence.
pub record SameEnd (r s : Outcome) : Type 0 where
  pub machine : r.machine ≡ s.machine
  pub memory : r.memory ≡ s.memory
  pub written : written_data r ≡ written_data s

-- Two orders are equal: for every machine with these settings that passes questions 1 and 2, its other words being free,
-- and for every call that brings enough for it, over whatever delay memory, passes by the two orders leave the same machine and delay memory and write the same data.
-- Where the delay units or their memory refuse the pass, both orders are refused alike.
abbrev pub Equal : Text → Machine → Order → Order → Type 0
Equal text m o₁ o₂ = (n : Machine) → Good text n → SameSettings text m n → (call : Call) → Enough text n call → SameEnd (pass_of text n (by o₁ call)) (pass_of text n (by o₂ call))
