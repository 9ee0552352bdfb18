-- A generator's words: nothing changes where what is put stands there already; the run mode and GFM read from them are those of the generator as it is loaded.
-- Assumes nothing.
use mathlib.Core.Path.{◌≡◌, sym, ◌∙◌}
use mathlib.Core.List.{List}
use Prim.Native.Nat.{ℕ, ◌%◌, ◌^◌}
use lib.Seq.{set-get_or, get_or-drop}
use Rattle.layout.specs.Layout.{generator_at, GJ, GK, GQ, GFM, GMODE}
use Rattle.layout.specs.Widths.{gj_bits, gk_bits, gq_bits, gmode_bits}
use Rattle.layout.specs.Machine.{Sums, gfm_at}
use Rattle.layout_texts.specs.Texts.{run_mode_at}
use Rattle.layout_texts.specs.declared.Text.{Text}
use Rattle.pass_sums.specs.Sums.{f_at}
use Rattle.generator.specs.Generator.{loaded, stored}
use Rattle.generator_turn.specs.AsCoded.{run_of}
use Rattle.pass_model.specs.Generators.{generator_of}
use Rattle.pass_model.proofs.Puts.{at_width}
use Rattle.pass_model.proofs.Turns.{run-loaded}
use Rattle.pass_generators.specs.AsCoded.{WithinWidths}

-- To put a generator back as it was loaded changes nothing.
pub put_same : (words : List ℕ) (g : ℕ) → WithinWidths words g → stored words (generator_at g) (generator_of words g) ≡ words
unfolding stored generator_of loaded
put_same words g low =
    rw (
      at_width words (generator_at g) GJ gj_bits low.gj-low,
      set-get_or,
      at_width words (generator_at g) GK gk_bits low.gk-low,
      set-get_or,
      at_width words (generator_at g) GQ gq_bits low.gq-low,
      set-get_or,
      at_width words (generator_at g) GMODE gmode_bits low.gmode-low,
      set-get_or,
    )

-- The run mode that is read from the machine's words.
pub run-same : (text : Text) (words : List ℕ) (g : ℕ) → WithinWidths words g → {r : ℕ} → r ≡ run_mode_at text words g → r ≡ run_of text (generator_of words g)
unfolding generator_of loaded
run-same text words g low e = e ∙ sym (run-loaded text words g (at_width words (generator_at g) GMODE gmode_bits low.gmode-low))

-- F by the GFM that is read from them.
pub f-same : (sums : Sums) (words : List ℕ) (g : ℕ) {x f : ℕ} → x ≡ gfm_at words g → f ≡ f_at sums (x % 2 ^ 7) → f ≡ f_at sums (generator_of words g).gfm
unfolding generator_of loaded
f-same sums words g ex ef = ef ∙ rw (ex, get_or-drop (generator_at g) words GFM 0)
