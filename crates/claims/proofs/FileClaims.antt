-- A file's machine passes question 2 by its file places alone: its update ticks are those of its T and N.
-- Assumes nothing.
use mathlib.Core.Path.{◌≡◌}
use mathlib.Core.Bool.{Bool}
use mathlib.Core.List.{List}
use Prim.Native.Nat.{ℕ}
use lib.ListN.{get_or}
use Rattle.base_lists.specs.Lists.{all_below}
use Rattle.base_lists.proofs.Below.{both_ways, below_at, below-from}
use Rattle.layout.specs.Layout.{file_places}
use Rattle.layout_texts.specs.declared.Text.{Text}
use Rattle.machine.specs.Questions.{regions, test_at, valid}
use Rattle.machine.proofs.ValidMachine.{valid-at, valid-from}
use Rattle.file_bench.specs.BenchFile.{file_of}
use Rattle.ring_steps.proofs.RungFile.{file-ticks}
use Rattle.claims.specs.FileClaims.{FileClaims}

file-good : (text : Text) (file : List ℕ) → valid text (file_of file).machine ≡ all_below (λ i. test_at (regions text) i (get_or (file_of file).machine i 0)) file_places
file-good text file =
    let m = (file_of file).machine in
    let passes : ℕ → Bool = λ i. test_at (regions text) i (get_or m i 0) in
    both_ways (valid text m) (all_below passes file_places)
    (λ e. below-from passes file_places (λ i h. valid-at text m e i h))
    (λ e. valid-from text m (λ i h. below_at passes file_places e i h) (file-ticks file))

pub file-claims : FileClaims
file-claims = record { file-good = file-good }
