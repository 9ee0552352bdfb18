-- What each text gives for the comparison of two orders: its generators follow their settings, and it has contents that tell orders apart.
-- Assumes nothing.
use mathlib.Core.Path.{◌≡◌, refl, sym, ap, ◌∙◌}
use Prim.Native.Nat.{ℕ, ◌/◌, ◌%◌, ◌^◌, ◌<◌}
use native.Mathlib.Nat.{add-zero}
use lib.Dec.{lit<}
use lib.ListN.{get_or}
use Rattle.layout.specs.Layout.{generator_at, GO, GN, GSUM, GFM, GMODE}
use Rattle.layout.specs.Machine.{Machine, gmode_at}
use Rattle.layout_modes.specs.Modes.{write_dac}
use Rattle.layout_old_modes.specs.OldModes.{negative_gn, old_run_mode}
use Rattle.layout_texts.specs.Texts.{run_mode_at, dac_number_at, source_at}
use Rattle.layout_texts.specs.declared.Text.{Text}
use Rattle.layout_texts.specs.declared.Text.TheVariants.{Of1978, Old}
use Rattle.pass_model.specs.Generators.{generators_of}
use Rattle.pass_laws.specs.Good.{Good}
use Rattle.compare_agreement.specs.Agreement.{settings_of}
use Rattle.parts_model.specs.Contents.{by_point, contents_for}
use Rattle.equal_witnesses.specs.AsCoded.{Contents}
use Rattle.equal_contents.proofs.Content.{Content}
use Rattle.equal_1978.proofs.Telling.{contents-1978, contents-are as contents-are-1978}
use Rattle.equal_old.proofs.Signs.{by_sign, feeds-in}
use Rattle.equal_old.proofs.Telling.{contents-old, contents-are as contents-are-old}
use Rattle.equal_orders.specs.Equal.{gn_at, SameSending, SameSettings}

-- Machines with the same settings have the same run modes, a generator that feeds a DAC feeds the same one, and what they send is told apart alike.
pub run-same : (text : Text) (m n : Machine) → SameSettings text m n → (g : ℕ) → g < 256 → run_mode_at text m g ≡ run_mode_at text n g
run-same Of1978 m n s g h = ap (λ (x : ℕ). x / 2 ^ 6) (s.modes g h)
run-same Old m n s g h = by_sign (gmode_at m g) (gn_at m g) (gn_at n g) (λ e. (s.sending g h e).0) ∙ ap (λ (x : ℕ). old_run_mode x (gn_at n g)) (s.modes g h)

pub dac-same : (text : Text) (m n : Machine) → SameSettings text m n → (g : ℕ) → g < 256 → run_mode_at text m g ≡ write_dac → dac_number_at text m g ≡ dac_number_at text n g
dac-same Of1978 m n s g h e = s.sending g h e
dac-same Old m n s g h e = (s.sending g h (feeds-in (gmode_at m g) (gn_at m g) e)).1

pub source-same : (text : Text) (m n : Machine) → SameSettings text m n → (g : ℕ) → g < 256 → source_at text m g ≡ source_at text n g
source-same Of1978 m n s g h = s.inputs g h
source-same Old m n s g h = refl

-- A content has the settings of its machine.
sending-kept : (text : Text) (m n : Machine) → Content text m n → (g : ℕ) → g < 256 → SameSending text m n g
sending-kept Of1978 m n r g h =
    let go : get_or n (generator_at g) 0 ≡ get_or m (generator_at g) 0 = rw (add-zero (generator_at g)) at (r.kept GO (lit< tt) refl g h) in
    λ e. ap (λ (x : ℕ). x % 2 ^ 4) (sym go)
sending-kept Old m n r g h = let gn = sym (r.kept GN (lit< tt) refl g h) in λ e. (ap negative_gn gn, ap (λ (x : ℕ). x % 2 ^ 4) gn)

pub content-settings : (text : Text) {m n : Machine} → Content text m n → SameSettings text m n
content-settings text {m} {n} r =
    record {
      ticks = sym r.ticks;
      modes = λ g h. sym (r.kept GMODE (lit< tt) refl g h);
      words = λ g h. sym (r.kept GSUM (lit< tt) refl g h);
      inputs = λ g h. sym (r.kept GFM (lit< tt) refl g h);
      sending = sending-kept text m n r;
    }

-- Contents that tell orders apart.
pub contents-of : (text : Text) (m : Machine) → Good text m → Contents (generators_of text) (settings_of text m) (Content text m)
contents-of Of1978 m good = contents-1978 m good
contents-of Old m good = contents-old m good

-- They are the contents for a point.
pub contents-are : (text : Text) (m : Machine) (good : Good text m) (point k : ℕ)
    → by_point point (contents-of text m good).triggering ((contents-of text m good).sounding k) (contents-of text m good).sending ≡ contents_for text m point k
unfolding contents-of
contents-are Of1978 m good point k = contents-are-1978 m good point k
contents-are Old m good point k = contents-are-old m good point k
