-- What the code of the four points holds of an order: its trace, made entry by entry.
-- Readers need only the points, to which laws join it. Assumes nothing.
use Rattle.std.specs.Prelude.{ℕ, suc, ◌+◌, ◌<◌, ◌≤◌, cond, [], ◌∷◌, eqb, set}
use Rattle.base_lists.specs.Lists.{zeros}
use Rattle.layout.specs.Layout.{generators, quadrant_words, dacs}
use Rattle.layout.specs.Machine.{Machine, Order, Reaches, ticks_of, gsum_at}
use Rattle.layout_texts.specs.Texts.{run_mode_at, dac_number_at}
use Rattle.layout_texts.specs.declared.Text.{Text}
use Rattle.layout_texts.specs.Texts.{source_at}
use Rattle.layout_modes.specs.Modes.{read_data, write_data, write_dac}
use Rattle.compare_roles.specs.AsCoded.{Within}
use Rattle.compare_traces.specs.declared.Replaced.{Replaced}
use Rattle.compare_traces.specs.declared.Trace.{Trace}

-- A machine of which a trace can be made; one that passes questions 1 and 2 is.
pub record Traceable (m : Machine) : Type 0 where
  pub reaches : Reaches m
  pub ticks : ticks_of m ≤ generators
  pub gsums : (g : ℕ) → g < generators → gsum_at m g < quadrant_words
  pub gmodes : Within m

-- The trace of no entries.
unfoldable pub untraced : Trace
untraced =
    record {
      place = zeros generators;
      fed = zeros dacs;
      written = zeros generators;
      replaced = record { last = zeros quadrant_words; among = zeros quadrant_words };
      counts = record { reads = 0; writes = 0 };
    }

-- Generator g, a 0111, is its word's last yet, and n 0111s stand before it.
abbrev pub replaced_by : Machine → ℕ → ℕ → Replaced → Replaced
replaced_by m g n r = record { last = set r.last (gsum_at m g) (g + 1); among = set r.among (gsum_at m g) n }

-- Generator g at place i of an order: 0010 feeds a DAC, 0011 writes data, 0111 reads data and replaces a word.
unfoldable pub trace_step : Text → Machine → ℕ → ℕ → Trace → Trace
trace_step text m i g t =
    let feeds = eqb (run_mode_at text m g) write_dac in
    let writes = eqb (run_mode_at text m g) write_data in
    let reads = eqb (run_mode_at text m g) read_data in
    let done = t.counts in
    record {
      place = set t.place g i;
      fed = cond feeds (set t.fed (dac_number_at text m g) (source_at text m g)) t.fed;
      written = cond writes (set t.written done.writes (source_at text m g)) t.written;
      replaced = cond reads (replaced_by m g done.reads t.replaced) t.replaced;
      counts = record { reads = cond reads (done.reads + 1) done.reads; writes = cond writes (done.writes + 1) done.writes };
    }

-- The entries of an order from place i on, in turn.
unfoldable pub trace_from : Text → Machine → ℕ → Order → Trace → Trace
trace_from text m i [] t = t
trace_from text m i (g ∷ order) t = trace_from text m (suc i) order (trace_step text m i g t)

-- The trace of an order.
unfoldable pub trace_of : Text → Machine → Order → Trace
trace_of text m order = trace_from text m 0 order untraced
