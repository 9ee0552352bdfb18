-- The adding generators of a word as the code asks about them, by the places of the generators in two orders.
-- Readers need only `sounding_at`, to which a law joins this. Assumes nothing.
use Rattle.std.specs.Prelude.{ℕ, Bool, true, cond}
use Rattle.layout.specs.Machine.{Machine}
use Rattle.layout_texts.specs.declared.Text.{Text}
use Rattle.compare_agreement.specs.Agreement.{settings_of, adds_to_word}
use Rattle.compare_points.specs.AsCoded.{Sides, side_by}

-- Whether g, if it adds to word w, stands on the same side of generator l in both orders.
unfoldable pub adder_on : Text → Machine → Sides → ℕ → ℕ → ℕ → Bool
adder_on text m sides w l g = cond (adds_to_word (settings_of text m) w g) (side_by sides l g) true
