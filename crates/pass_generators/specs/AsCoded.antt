-- What the code of the generators' stage asks, and the turn of a generator whose envelope is on.
-- Laws join them to a step, which alone a reader has to believe. Assumes nothing.
use Rattle.std.specs.Prelude.{ℕ, ◌+◌, ◌^◌, ◌<◌, ◌≤◌, length, get_or}
use Rattle.layout.specs.Layout.{generator_at, GJ, GK, GQ, GMODE}
use Rattle.layout.specs.Widths.{gj_bits, gk_bits, gq_bits, gmode_bits}
use Rattle.layout.specs.Machine.{Machine, Order, Items, Places, Reaches}
use Rattle.layout_modes.specs.Modes.{adds}
use Rattle.generator.specs.declared.Generator.{Generator}
use Rattle.generator.specs.Generator.{stored}
use Rattle.layout_texts.specs.declared.Text.{Text}
use Rattle.generator_turn.specs.AsCoded.{run_of, sounded_by}
use Rattle.pass_model.specs.Generators.{State}
use Rattle.pass_outputs.specs.declared.Taking.{Taking}
use Rattle.pass_outputs.specs.AsCoded.{triggering, heard}

-- The registers of generator g that a turn can change are within their widths.
pub record WithinWidths (words : Machine) (g : ℕ) : Type 0 where
  pub gj-low : get_or words (generator_at g + GJ) 0 < 2 ^ gj_bits
  pub gk-low : get_or words (generator_at g + GK) 0 < 2 ^ gk_bits
  pub gq-low : get_or words (generator_at g + GQ) 0 < 2 ^ gq_bits
  pub gmode-low : get_or words (generator_at g + GMODE) 0 < 2 ^ gmode_bits

-- A machine whose generators can be taken.
pub record Ready (words : Machine) : Type 0 where
  pub reaches : Reaches words
  pub low : (g : ℕ) → g < 256 → WithinWidths words g

-- An order of numbers below 256, at most 256 of them.
pub record Numbers (order : Order) : Type 0 where
  pub most : length order ≤ 256
  pub below : (i : ℕ) → i < length order → get_or order i 0 < 256

-- The state of a pass under way, by what the code holds.
abbrev pub state_of : Machine → Places → Taking → State
state_of words places taking = record { words = words; sums = taking.sums; triggered = taking.triggered; places = places; reads = taking.done.reads; writes = taking.done.writes }

-- What a generator whose envelope is on can change: the machine's words, and what a pass changes beside them and the places.
pub record Sounding : Type 0 where
  pub words : Machine
  pub taking : Taking

-- Generator g, u with its envelope on, is taken.
unfoldable pub sounded : Text → Items → Sounding → ℕ → Generator → ℕ → Sounding
sounded text items v g u f =
    let x = sounded_by text u f in
    record {
      words = stored v.words (generator_at g) x.unit;
      taking = heard (triggering v.taking g x.triggers) items (adds (run_of text u)) u.gsum x.p;
    }
