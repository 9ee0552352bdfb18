-- What a generator's turn brings, by the ways that the code takes: heard in sum memory, or sent to a DAC or a place.
-- Laws join them to a step, which alone a reader has to believe. Assumes nothing.
use Rattle.std.specs.Prelude.{ℕ, suc, ◌+◌, ◌%◌, ◌^◌, Bool, true, false, cond, eqb, get_or, set, replicate}
use Rattle.base_words.specs.Words.{sum, leaves}
use Rattle.layout.specs.Layout.{dac_at}
use Rattle.layout.specs.Machine.{Machine, Items, Places, Sums}
use Rattle.layout_modes.specs.Modes.{write_data, write_dac}
use Rattle.pass_sums.specs.Sums.{sum_at, put_sum}
use Rattle.pass_model.specs.Clipped.{Marks, marked_at}
use Rattle.generator.specs.declared.Generator.{Generator}
use Rattle.layout_texts.specs.declared.Text.{Text}
use Rattle.generator_turn.specs.AsCoded.{run_of, sends_of, dac_of}
use Rattle.pass_outputs.specs.declared.Taking.{Taking}

-- As a pass begins, with the marks that there are.
unfoldable pub untaken : Sums → Marks → Taking
untaken sums clipped = record { sums = sums; clipped = clipped; triggered = replicate 256 false; done = record { reads = 0; writes = 0 } }

-- Generator g is marked where it triggers.
unfoldable pub triggering : Taking → ℕ → Bool → Taking
triggering t g triggers = record { sums = t.sums; clipped = t.clipped; triggered = cond triggers (set t.triggered g true) t.triggered; done = t.done }

-- The mark of a word is set where a sum in it left its range.
abbrev pub marking : Taking → ℕ → Bool → Taking
marking t gsum left = record { sums = t.sums; clipped = marked_at t.clipped gsum left; triggered = t.triggered; done = t.done }

-- P is added into the word.
abbrev pub adding : Taking → ℕ → ℕ → Taking
adding t gsum p =
    record {
      sums = put_sum t.sums gsum (sum 20 (sum_at t.sums gsum) p);
      clipped = marked_at t.clipped gsum (leaves 20 (sum_at t.sums gsum) p);
      triggered = t.triggered;
      done = t.done;
    }

-- P replaces the word together with the next read item, of which the low 20 bits count.
abbrev pub replacing : Taking → Items → ℕ → ℕ → Taking
replacing t items gsum p =
    let item = get_or items t.done.reads 0 % 2 ^ 20 in
    record {
      sums = put_sum t.sums gsum (sum 20 p item);
      clipped = marked_at t.clipped gsum (leaves 20 p item);
      triggered = t.triggered;
      done = record { reads = t.done.reads + 1; writes = t.done.writes };
    }

-- What is heard in sum memory, by whether the output adds.
unfoldable pub heard : Taking → Items → Bool → ℕ → ℕ → Taking
heard t items adds gsum p = cond adds (adding t gsum p) (replacing t items gsum p)

-- What a generator with nothing on can change: the machine's words, the places for written items, how many were written.
pub record Sending : Type 0 where
  pub words : Machine
  pub places : Places
  pub taking : Taking

-- How many items were written, where one more is.
abbrev pub written : Taking → Bool → Taking
written t writes = record { sums = t.sums; clipped = t.clipped; triggered = t.triggered; done = record { reads = t.done.reads; writes = cond writes (suc t.done.writes) t.done.writes } }

-- A generator with nothing on is taken: it may send.
unfoldable pub sent : Text → Sending → Generator → ℕ → Sending
sent text v u f =
    record {
      words = cond (eqb (run_of text u) write_dac) (set v.words (dac_at (dac_of text u)) (sends_of text u f)) v.words;
      places = cond (eqb (run_of text u) write_data) (set v.places v.taking.done.writes (sends_of text u f)) v.places;
      taking = written v.taking (eqb (run_of text u) write_data);
    }
