-- `parts_levels::levels` meets its contract: GL of the generators passed is filled.
-- Assumes nothing.
use mathlib.Core.Path.{◌≡◌}
use Prim.Native.Nat.{◌≤◌}
use lib.ListN.{length}
use Rattle.layout.specs.Layout.{GL, generators, generator_words}
use Rattle.base_fills.specs.Fills.{filled}
use Rattle.parts_model.specs.Contents.{sounding_level}
use Rattle.parts_levels.proofs.levels.Given as goal

abbrev pub invariant-loop-g : goal.invariant-loop-g
invariant-loop-g l = (l.g ≤ generators) × (l.run ≡ filled GL generator_words l.g (sounding_level l.text l.m l.s) l.initial.run) × (length l.run ≡ length l.initial.run)
