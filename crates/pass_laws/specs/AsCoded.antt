-- The registers of a generator that a turn can change.
-- Assumes nothing.
use Rattle.std.specs.Prelude.{◌≡◌, ℕ, ◌+◌, get_or}
use Rattle.layout.specs.Layout.{generator_at, GJ, GK, GQ, GMODE}
use Rattle.layout.specs.Machine.{Machine}
use Rattle.generator.specs.declared.Generator.{Generator}

-- Those of generator g in a machine's words are those of u.
pub record RegistersOf (words : Machine) (g : ℕ) (u : Generator) : Type 0 where
  pub gj : get_or words (generator_at g + GJ) 0 ≡ u.gj
  pub gk : get_or words (generator_at g + GK) 0 ≡ u.gk
  pub gq : get_or words (generator_at g + GQ) 0 ≡ u.gq
  pub gmode : get_or words (generator_at g + GMODE) 0 ≡ u.gmode
