-- A generator's turn by its parts, whatever the text; and what the turn of one that waits doesn't bring: a trigger acts from the next pass on.
-- Assumes nothing.
use mathlib.Core.Path.{◌≡◌, refl, ap}
use mathlib.Core.Bool.{Bool, false}
use Prim.Native.Nat.{ℕ, ◌+◌, ◌/◌, ◌^◌}
use lib.Dec.{eqb}
use lib.ListN.{get_or}
use lib.Seq.{get_or-drop}
use Rattle.base_lists.specs.Lists.{is_one_of}
use Rattle.layout.specs.Layout.{generator_at, GN, GMODE}
use Rattle.layout.specs.Machine.{Machine, Sums, gmode_at}
use Rattle.layout_modes.specs.Modes.{envelope_on, adds, replaces, wait, write_data, write_dac}
use Rattle.generator.specs.declared.Generator.{Generator}
use Rattle.generator.specs.Generator.{loaded, sounded_of}
use Rattle.layout_old_modes.proofs.RunModes.{loaded-mode}
use Rattle.generator_old.specs.OldGenerator.{old_sounded}
use Rattle.layout_texts.specs.Texts.{run_mode_at}
use Rattle.layout_texts.specs.declared.Text.{Text}
use Rattle.layout_texts.specs.declared.Text.TheVariants.{Of1978, Old}
use Rattle.generator_turn.specs.AsCoded.{run_of, after_of, sounded_by, sends_of, dac_of}
use Rattle.generator_turn.proofs.Turns.{no-trigger}
use Rattle.pass_sums.specs.Sums.{f_at}
use Rattle.pass_model.specs.Generators.{Contribution, generator_of, turn1978, turn_old, generator_turn}

-- What the turn of generator u brings, by F and what it is told.
abbrev pub parts_of : Text → Generator → ℕ → Bool → Contribution
parts_of text u f triggered_below =
    record {
      unit = after_of text u f triggered_below;
      triggers = (sounded_by text u f).triggers;
      p = (sounded_by text u f).p;
      adds = adds (run_of text u);
      replaces = replaces (run_of text u);
      word = u.gsum;
      sends = sends_of text u f;
      feeds = eqb (run_of text u) write_dac;
      dac = dac_of text u;
      writes = eqb (run_of text u) write_data;
    }

pub turn-parts : (text : Text) (words : Machine) (sums : Sums) (g : ℕ) (triggered_below : Bool) →
    generator_turn text words sums g triggered_below ≡ parts_of text (generator_of words g) (f_at sums (generator_of words g).gfm) triggered_below
unfolding turn1978 turn_old sounded_of old_sounded
turn-parts Of1978 words sums g triggered_below = refl
turn-parts Old words sums g triggered_below = refl

-- The run mode of a generator as it is loaded is that of the machine's words, where GMODE is within its width.
pub run-loaded : (text : Text) (m : Machine) (g : ℕ) → (generator_of m g).gmode ≡ gmode_at m g → run_of text (generator_of m g) ≡ run_mode_at text m g
unfolding generator_of loaded
run-loaded Of1978 m g e = ap (λ (x : ℕ). x / 2 ^ 6) e
run-loaded Old m g e = rw (get_or-drop (generator_at g) m GMODE 0, get_or-drop (generator_at g) m GN 0) (loaded-mode (gmode_at m g) (get_or m (generator_at g + GN) 0))

-- A turn that no other generator and no DAC hears of.
pub record Silent (b : Contribution) : Type 0 where
  pub no-trigger : b.triggers ≡ false
  pub no_add : b.adds ≡ false
  pub no-replace : b.replaces ≡ false
  pub no-feed : b.feeds ≡ false
  pub no_write : b.writes ≡ false

-- A generator that waits is silent in this pass, whatever it is told.
pub waits-silent : (text : Text) (words : Machine) (sums : Sums) (g : ℕ) (triggered_below : Bool) → run_of text (generator_of words g) ≡ wait → Silent (generator_turn text words sums g triggered_below)
unfolding adds replaces envelope_on is_one_of
waits-silent text words sums g triggered_below w =
    rw (turn-parts text words sums g triggered_below)
    (record { no-trigger = no-trigger text (generator_of words g) _ (rw w); no_add = rw w; no-replace = rw w; no-feed = rw w; no_write = rw w })
