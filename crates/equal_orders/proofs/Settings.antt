-- The generators of a machine follow the settings of every machine that has the same.
-- Assumes nothing.
use mathlib.Core.Path.{◌≡◌, refl, ap}
use mathlib.Core.Bool.{Bool, true, false, ◌&&◌}
use Prim.Native.Nat.{ℕ, ◌≤◌, ◌<◌}
use native.Mathlib.Omega.{arith}
use borrow.Author.Tests.{eqb-true}
use lib.Dec.{eqb}
use Rattle.layout_modes.specs.Modes.{wait, write_data, write_dac, free, adds, replaces}
use Rattle.layout.specs.Machine.{Machine, ticks_of}
use Rattle.layout_texts.specs.Texts.{run_mode_at, dac_number_at}
use Rattle.layout_texts.specs.declared.Text.{Text}
use Rattle.machine.proofs.ValidMachine.{valid-controls}
use Rattle.pass_model.specs.Generators.{generators_of}
use Rattle.pass_laws.specs.Good.{Good}
use Rattle.compare_agreement.specs.Agreement.{settings_of}
use Rattle.equal_endings.specs.AsCoded.{Follows}
use Rattle.equal_endings.proofs.Alike.{Alike, follows-alike}
use Rattle.equal_contents.proofs.Settings.{follows-settings}
use Rattle.equal_orders.specs.Equal.{SameSettings}
use Rattle.equal_orders.proofs.Texts.{run-same, dac-same, source-same}

module _ (text : Text) (m n : Machine) (s : SameSettings text m n) where
  feeds-same : (d g : ℕ) → g < 256 → (settings_of text m).feeds d g ≡ (settings_of text n).feeds d g
  feeds-same d g h = rw (← (run-same text m n s g h)) (go (eqb (run_mode_at text m g) write_dac) refl)
    where
      go : (b : Bool) → eqb (run_mode_at text m g) write_dac ≡ b → (b && eqb (dac_number_at text m g) d) ≡ (b && eqb (dac_number_at text n g) d)
      go true e = ap (λ (x : ℕ). eqb x d) (dac-same text m n s g h (eqb-true (run_mode_at text m g) write_dac e))
      go false e = refl

  settings-alike : ticks_of m ≤ 256 → Alike (settings_of text m) (settings_of text n)
  settings-alike few =
      record {
        ticks = s.ticks;
        distance = refl;
        waits = λ g h. ap (λ (r : ℕ). eqb r wait) (run-same text m n s g (omega arith));
        triggering = λ g h. ap free (run-same text m n s g (omega arith));
        feeds = λ d g h. feeds-same d g (omega arith);
        writes = λ g h. ap (λ (r : ℕ). eqb r write_data) (run-same text m n s g (omega arith));
        source = λ g h. source-same text m n s g (omega arith);
        on_word = λ w g h. ap (λ (x : ℕ). eqb x w) (s.words g (omega arith));
        replacing = λ g h. ap replaces (run-same text m n s g (omega arith));
        adding = λ g h. ap adds (run-same text m n s g (omega arith));
      }

  pub follows : Good text m → Good text n → Follows (generators_of text) (settings_of text m) n
  follows good goodn =
      follows-alike (generators_of text) (settings_of text m) (settings_of text n) n (settings-alike (valid-controls text m good.is-valid).t_high) (follows-settings text n goodn)
