-- The machine in which every envelope that is on overflows.
-- Assumes nothing.
use mathlib.Core.Path.{◌≡◌, refl, sym, ◌∙◌}
use mathlib.Core.Logic.{◌≢◌}
use mathlib.Core.Bool.{Bool, true, false, cond}
use Prim.Native.Nat.{ℕ, ◌<◌}
use lib.Dec.{lit<}
use Rattle.layout.specs.Layout.{GP, GQ}
use Rattle.layout.specs.Machine.{Machine}
use Rattle.layout_texts.specs.Texts.{run_mode_at}
use Rattle.layout_texts.specs.declared.Text.{Text}
use Rattle.layout_modes.specs.Modes.{free}
use Rattle.base_words.specs.Words.{signed, exact_sum, outside}
use Rattle.generator_envelope.specs.Envelope.{overflows}
use Rattle.machine.specs.Questions.{regions}
use Rattle.pass_sums.specs.Sums.{f_at, sums_of}
use Rattle.pass_model.specs.Generators.{generator_of, generators_of}
use Rattle.pass_model.proofs.Turns.{turn-parts}
use Rattle.generator_turn.specs.AsCoded.{run_of}
use Rattle.pass_laws.specs.Good.{Good}
use Rattle.pass_laws.proofs.PassCounts.{run-mode-loaded}
use Rattle.parts_model.specs.Contents.{overflowing, inactive_modifiers, triggering_contents}
use Rattle.equal_endings.specs.AsCoded.{triggers_at}
use Rattle.equal_contents.proofs.Words.{columns-word}
use Rattle.equal_contents.proofs.Content.{register_test, Content, run-kept, inactive-content, register-content}
use Rattle.equal_contents.proofs.Loaded.{is-loaded}
use Rattle.equal_contents.proofs.Settings.{triggers-by}

overflow : overflows 16777215 1 ≡ true
unfolding overflows exact_sum signed outside
overflow = refl

-- Of two words that differ the one that was chosen tells the choice.
pub choice-tells : {x y : ℕ} → x ≢ y → (a b : Bool) → cond a x y ≡ cond b x y → a ≡ b
choice-tells n true true e = refl
choice-tells n true false e = absurd (n e)
choice-tells n false true e = absurd (n (sym e))
choice-tells n false false e = refl

module _ (text : Text) (m : Machine) (good : Good text m) where
  pub triggering-content : Content text m (triggering_contents m)
  unfolding triggering_contents register_test regions
  triggering-content =
      register-content text (register-content text (inactive-content text m good) GP (λ g. 1) (lit< tt) refl (λ g h. refl)) GQ (λ g. 16777215) (lit< tt) refl (λ g h. refl)

  -- Run modes are as they were.
  pub same-mode : (g : ℕ) → g < 256 → run_of text (generator_of (triggering_contents m) g) ≡ run_mode_at text m g
  same-mode g h = run-mode-loaded text (triggering_contents m) triggering-content.good.is-valid g h ∙ run-kept text triggering-content g h

  all-overflow : (g : ℕ) → g < 256 → overflows (generator_of (triggering_contents m) g).gq (generator_of (triggering_contents m) g).gp ≡ true
  unfolding triggering_contents
  all-overflow g h =
      let loaded = is-loaded text (triggering_contents m) triggering-content.good.is-valid g h in
      let whole = (inactive-content text m good).good.whole in
      rw (
        loaded.gq ∙ columns-word overflowing (inactive_modifiers m) refl whole GQ g (lit< tt) h,
        loaded.gp ∙ columns-word overflowing (inactive_modifiers m) refl whole GP g (lit< tt) h,
      )
      overflow

  -- A generator that can trigger does.
  pub all-trigger : (g : ℕ) → g < 256 → free (run_mode_at text m g) ≡ true → triggers_at (generators_of text) (triggering_contents m) g ≡ true
  all-trigger g h f =
      let n = triggering_contents m in
      rw (triggers_at, turn-parts text n (sums_of n) g false) (triggers-by text (generator_of n g) (f_at (sums_of n) (generator_of n g).gfm) ∙ rw (same-mode g h, f) (all-overflow g h))
