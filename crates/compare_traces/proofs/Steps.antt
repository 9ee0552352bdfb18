-- A step of a trace by the run modes that the code tells apart, and the entries left with the trace so far: together they are the whole trace.
-- Assumes nothing.
use mathlib.Core.Path.{◌≡◌, refl, sym, ◌∙◌}
use mathlib.Core.Logic.{◌≢◌}
use mathlib.Core.Bool.{Bool, true, false, cond}
use Prim.Native.Nat.{ℕ, ◌+◌, ◌≤◌, ◌<◌}
use native.Mathlib.Omega.{arith}
use native.Mathlib.Numerals.{add-one}
use borrow.Author.Tests.{ne_eqb}
use lib.Dec.{eqb}
use lib.ListN.{length, get_or, set, drop, drop_of_length-le}
use lib.Seq.{drop-cons}
use Rattle.layout.specs.Machine.{Machine, Order}
use Rattle.layout_texts.specs.Texts.{run_mode_at, dac_number_at}
use Rattle.layout_texts.specs.declared.Text.{Text}
use Rattle.layout_texts.specs.Texts.{source_at}
use Rattle.layout_modes.specs.Modes.{read_data, write_data, write_dac}
use Rattle.compare_traces.specs.declared.Replaced.{Replaced}
use Rattle.compare_traces.specs.declared.Trace.{Trace}
use Rattle.compare_traces.specs.AsCoded.{untraced, replaced_by, trace_step, trace_from, trace_of}

module _ (text : Text) (m : Machine) (i g : ℕ) (t : Trace) {run : ℕ} (is : run ≡ run_mode_at text m g) where
  -- 0010 feeds a DAC.
  pub step-feeds : {d v : ℕ} → run ≡ write_dac → d ≡ dac_number_at text m g → v ≡ source_at text m g
      → record { place = set t.place g i; fed = set t.fed d v; written = t.written; replaced = t.replaced; counts = t.counts } ≡ trace_step text m i g t
  unfolding trace_step
  step-feeds r ed ev =
      let e : run_mode_at text m g ≡ write_dac = sym is ∙ r in
      rw (e, ed, ev) refl

  -- 0011 writes data.
  pub step-writes : {v : ℕ} → run ≡ write_data → v ≡ source_at text m g
      → record {
        place = set t.place g i;
        fed = t.fed;
        written = set t.written t.counts.writes v;
        replaced = t.replaced;
        counts = record { reads = t.counts.reads; writes = t.counts.writes + 1 };
      }
      ≡ trace_step text m i g t
  unfolding trace_step
  step-writes r ev =
      let e : run_mode_at text m g ≡ write_data = sym is ∙ r in
      rw (e, ev) refl

  -- 0111 reads data and replaces a word.
  pub step-replaces : {u : Replaced} → run ≡ read_data → u ≡ replaced_by m g t.counts.reads t.replaced
      → record {
        place = set t.place g i;
        fed = t.fed;
        written = t.written;
        replaced = u;
        counts = record { reads = t.counts.reads + 1; writes = t.counts.writes };
      }
      ≡ trace_step text m i g t
  unfolding trace_step
  step-replaces r eu =
      let e : run_mode_at text m g ≡ read_data = sym is ∙ r in
      rw (e, eu) refl

  -- All others.
  pub step_past : run ≢ write_dac → run ≢ write_data → run ≢ read_data
      → record { place = set t.place g i; fed = t.fed; written = t.written; replaced = t.replaced; counts = t.counts } ≡ trace_step text m i g t
  unfolding trace_step
  step_past h2 h3 h7 =
      let e2 : eqb (run_mode_at text m g) write_dac ≡ false = rw (← is) (ne_eqb run write_dac h2) in
      let e3 : eqb (run_mode_at text m g) write_data ≡ false = rw (← is) (ne_eqb run write_data h3) in
      let e7 : eqb (run_mode_at text m g) read_data ≡ false = rw (← is) (ne_eqb run read_data h7) in
      rw (e2, e3, e7) refl

-- Each count grows by one at most.
one_more : (b : Bool) (n : ℕ) → cond b (n + 1) n ≤ n + 1
one_more true n = omega arith
one_more false n = omega arith

pub counts-next : (text : Text) (m : Machine) (i g : ℕ) (t : Trace) {u : Trace} → u ≡ trace_step text m i g t
    → (u.counts.reads ≤ t.counts.reads + 1) × (u.counts.writes ≤ t.counts.writes + 1)
unfolding trace_step
counts-next text m i g t e =
    rw e (one_more (eqb (run_mode_at text m g) read_data) t.counts.reads, one_more (eqb (run_mode_at text m g) write_data) t.counts.writes)

-- None yet, one entry more, and all.
pub traced-none : (text : Text) (m : Machine) (order : Order) {t : Trace} → t ≡ untraced → trace_from text m 0 order t ≡ trace_of text m order
unfolding trace_of
traced-none text m order e = rw e

pub traced-next : (text : Text) (m : Machine) (order : Order) (i : ℕ) (t : Trace) {g : ℕ} {u : Trace} → i < length order → g ≡ get_or order i 0
    → u ≡ trace_step text m i g t → trace_from text m (i + 1) (drop (i + 1) order) u ≡ trace_from text m i (drop i order) t
unfolding trace_from
traced-next text m order i t h eg eu = rw (drop-cons order i 0 h, add-one i, eu, eg)

pub traced-all : (text : Text) (m : Machine) (order : Order) (i : ℕ) (t : Trace) → length order ≤ i → trace_from text m i (drop i order) t ≡ t
unfolding trace_from
traced-all text m order i t h = rw (drop_of_length-le order {i = i} h)
