-- Question 2 as it was while the pass counter had 20 bits (document 01; since document 02, Q-9, it has 32).
-- Assumes nothing.
use Rattle.std.specs.Prelude.{ℕ, Bool, cond, List, eqb, get_or}
use Rattle.base_lists.specs.Lists.{all_below}
use Rattle.layout.specs.Layout.{machine_length, counter_at}
use Rattle.layout_texts.specs.declared.Text.{Text}
use Rattle.machine.specs.Questions.{bits, word_passes}

-- The counter's width then.
abbrev pub narrow_counter_bits : ℕ
narrow_counter_bits = 20

-- The test of the word at place i of a machine: the counter by its width then, any other word as now.
unfoldable pub narrow_passes : Text → List ℕ → ℕ → Bool
narrow_passes text m i = cond (eqb i counter_at) (bits narrow_counter_bits (get_or m i 0)) (word_passes text m i)

-- Question 2 then.
unfoldable pub narrow_valid : Text → List ℕ → Bool
narrow_valid text m = all_below (narrow_passes text m) machine_length
