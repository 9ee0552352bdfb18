-- What document 02 claims of files (Q-7): "the bench program works it out again after a file's words, so files stay good".
-- Assumes nothing.
use Rattle.std.specs.Prelude.{ℕ, List, ◌≡◌, get_or}
use Rattle.base_lists.specs.Lists.{all_below}
use Rattle.layout.specs.Layout.{file_places}
use Rattle.layout_texts.specs.declared.Text.{Text}
use Rattle.machine.specs.Questions.{regions, test_at, valid}
use Rattle.file_bench.specs.BenchFile.{file_of}

pub record FileClaims : Type 0 where
  -- The machine that a file sets passes question 2, by either text, exactly where the word at each file place passes its own test: the update ticks never fail it.
  pub file-good : (text : Text) (file : List ℕ) → valid text (file_of file).machine ≡ all_below (λ i. test_at (regions text) i (get_or (file_of file).machine i 0)) file_places
