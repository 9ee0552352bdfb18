-- The generators of a text follow a good machine's settings.
-- Assumes nothing.
use mathlib.Core.Path.{◌≡◌, refl, sym, ap, ◌∙◌}
use mathlib.Core.Bool.{Bool, true, false, ◌&&◌}
use Prim.Native.Nat.{ℕ, ◌%◌, ◌^◌, ◌≤◌, ◌<◌}
use native.Mathlib.Omega.{arith}
use Rattle.base_lists.proofs.Below.{and_first}
use Rattle.layout.specs.Machine.{Machine, Sums, ticks_of}
use Rattle.layout_texts.specs.Texts.{run_mode_at, dac_number_at, source_at}
use Rattle.layout_texts.specs.declared.Text.{Text}
use Rattle.layout_texts.specs.declared.Text.TheVariants.{Of1978, Old}
use Rattle.layout_modes.specs.Modes.{free}
use Rattle.layout_modes.proofs.RunModes.{replaces-alone}
use Rattle.generator_envelope.specs.Envelope.{overflows}
use Rattle.machine.specs.Questions.{valid}
use Rattle.machine.proofs.ValidMachine.{valid-sum, valid-controls}
use Rattle.pass_sums.specs.Sums.{f_at, sums_of}
use Rattle.pass_sums.proofs.Memory.{f-only}
use Rattle.generator.specs.declared.Generator.{Generator}
use Rattle.generator.specs.Generator.{triggers, sounded_of}
use Rattle.generator_old.specs.OldGenerator.{old_sounded}
use Rattle.generator_old.proofs.Switched.{triggers-switched}
use Rattle.generator_turn.specs.AsCoded.{run_of, dac_of, sounded_by}
use Rattle.generator_turn.proofs.Turns.{sounded-p-low, untold}
use Rattle.pass_model.specs.Generators.{generator_of, turn1978, generator_turn, generators_of}
use Rattle.pass_model.proofs.Turns.{turn-parts}
use Rattle.pass_laws.specs.Good.{Good}
use Rattle.pass_laws.proofs.PassCounts.{run-mode-loaded}
use Rattle.pass_laws.proofs.TextTurns.{sixteen, same-generator}
use Rattle.compare_agreement.specs.Agreement.{settings_of}
use Rattle.equal_endings.specs.AsCoded.{p_at, sends_at, triggers_at, SameWords, SameLast, TurnFollows, Follows}
use Rattle.equal_contents.proofs.Loaded.{is-loaded}

-- A turn depends on its generator's own words and on the last quadrants.
own_turn : (text : Text) (l n : Machine) (t u : Sums) (g : ℕ) (triggered_below : Bool) → SameWords l n g → SameLast t u → generator_turn text l t g triggered_below ≡ generator_turn text n u g triggered_below
own_turn text l n t u g triggered_below w q =
    turn-parts text l t g triggered_below ∙ rw (same-generator l n g w.each, f-only t u (generator_of n g).gfm q.generators q.modifiers) (sym (turn-parts text n u g triggered_below))

-- A generator triggers where it is free and overflows.
pub triggers-by : (text : Text) (u : Generator) (f : ℕ) → (sounded_by text u f).triggers ≡ (free (run_of text u) && overflows u.gq u.gp)
unfolding sounded_of old_sounded triggers
triggers-by Of1978 u f = refl
triggers-by Old u f = triggers-switched u

-- Its DAC, and what it sends by its source.
dac-loaded : (text : Text) (m : Machine) → valid text m ≡ true → (g : ℕ) → g < 256 → dac_of text (generator_of m g) ≡ dac_number_at text m g
dac-loaded Of1978 m e g h = ap (λ (x : ℕ). x % 2 ^ 4) (is-loaded Of1978 m e g h).go
dac-loaded Old m e g h = ap (λ (x : ℕ). x % 2 ^ 4) (is-loaded Old m e g h).gn

sends-alike : (text : Text) (m : Machine) → valid text m ≡ true → (a b : ℕ) → a < 256 → b < 256 → source_at text m a ≡ source_at text m b
    → sends_at (generators_of text) m a ≡ sends_at (generators_of text) m b
unfolding turn1978
sends-alike Of1978 m e a b i j q = rw ((is-loaded Of1978 m e a i).gfm, (is-loaded Of1978 m e b j).gfm, q)
sends-alike Old m e a b i j q = rw q

module _ (text : Text) (m : Machine) (good : Good text m) where
  turn-follows : (g : ℕ) → g < 256 → TurnFollows (generators_of text) (settings_of text m) m g
  turn-follows g h =
      let u = generator_of m g in
      let f = f_at (sums_of m) u.gfm in
      let turn = turn-parts text m (sums_of m) g in
      let mode = run-mode-loaded text m good.is-valid g h in
      record {
        feeds = λ triggered_below d. rw (turn triggered_below, mode, dac-loaded text m good.is-valid g h);
        writes = λ triggered_below. rw (turn triggered_below, mode);
        word = λ triggered_below w. rw (turn triggered_below, (is-loaded text m good.is-valid g h).gsum);
        replaces = λ triggered_below. rw (turn triggered_below, mode);
        adds = λ triggered_below. rw (turn triggered_below, mode);
        p = λ triggered_below. rw (turn triggered_below, p_at, turn false);
        sends = λ triggered_below. rw (turn triggered_below, sends_at, turn false);
        triggers = λ triggered_below. rw (turn triggered_below, triggers_at, turn false);
        unit = λ q triggered_below. rw (turn triggered_below, turn false) (untold text u f triggered_below (rw mode q) ∙ sym (untold text u f false (rw mode q)));
        triggering = λ q. ap free (sym mode) ∙ and_first _ _ (sym (triggers-by text u f) ∙ (rw (triggers_at, turn false) at q));
        p-low = rw (p_at, turn false) (sounded-p-low text u f);
        alone = replaces-alone (run_mode_at text m g);
      }

  few : ticks_of m ≤ 256
  few = (valid-controls text m good.is-valid).t_high

  pub follows-settings : Follows (generators_of text) (settings_of text m) m
  follows-settings =
      record {
        own = own_turn text;
        dac-low = (sixteen text).dac-low;
        distance = refl;
        whole = good.whole;
        few = few;
        this-low = λ w h. valid-sum text m good.is-valid 0 w (omega arith) h;
        turns = λ g h. turn-follows g (omega (arith, few));
        source = λ a b i j. sends-alike text m good.is-valid a b (omega (arith, few)) (omega (arith, few));
      }
