-- The generators of a text: the DACs that they name, and the words that they are loaded from.
-- Assumes nothing.
use mathlib.Core.Path.{◌≡◌}
use Prim.Native.Nat.{ℕ, ◌+◌, ◌<◌}
use lib.Dec.{lit<}
use lib.ListN.{get_or, drop}
use lib.Seq.{get_or-drop}
use Rattle.layout.specs.Layout.{generator_at}
use Rattle.layout.specs.Machine.{Machine}
use Rattle.layout_texts.specs.declared.Text.{Text}
use Rattle.generator.specs.Generator.{loaded}
use Rattle.pass_model.specs.Generators.{generator_of, generators_of}
use Rattle.pass_model.proofs.Keeps.{turn-keeps}
use Rattle.pass_laws.proofs.Frames.{Sixteen}

-- A DAC number is below 16.
pub sixteen : (text : Text) → Sixteen (generators_of text)
sixteen text = record { dac-low = λ words sums g triggered_below. (turn-keeps text words sums g triggered_below).dac-low }

-- A generator is its eleven words.
pub same-generator : (l m : Machine) (k : ℕ) → ((j : ℕ) → j < 11 → get_or l (generator_at k + j) 0 ≡ get_or m (generator_at k + j) 0) → generator_of l k ≡ generator_of m k
unfolding generator_of loaded
same-generator l m k e =
    let at : (j : ℕ) → j < 11 → get_or (drop (generator_at k) l) j 0 ≡ get_or (drop (generator_at k) m) j 0
    = λ j h. rw (get_or-drop (generator_at k) l j 0, get_or-drop (generator_at k) m j 0) (e j h) in
    rw (
      at 0 (lit< tt),
      at 1 (lit< tt),
      at 2 (lit< tt),
      at 3 (lit< tt),
      at 4 (lit< tt),
      at 5 (lit< tt),
      at 6 (lit< tt),
      at 7 (lit< tt),
      at 8 (lit< tt),
      at 9 (lit< tt),
      at 10 (lit< tt),
    )
