-- The parts of a generator's turn by the text that its machine follows. The turn itself, by each text, is `pass_model`'s; a law of `pass_generators` says that these are its parts.
-- Assumes nothing.
use Rattle.std.specs.Prelude.{ℕ, ◌%◌, ◌^◌, Bool}
use Rattle.generator.specs.declared.Generator.{Generator}
use Rattle.generator.specs.declared.Sounded.{Sounded}
use Rattle.generator.specs.Generator.{run_mode, after, sounded_of}
use Rattle.generator_old.specs.OldGenerator.{switched_mode, e_of, old_after, old_sounded}
use Rattle.layout_texts.specs.declared.Text.{Text}
use Rattle.layout_texts.specs.declared.Text.TheVariants.{Of1978, Old}

-- Its run mode, in the 1978 coding.
abbrev pub run_of : Text → Generator → ℕ
run_of Of1978 u = run_mode u
run_of Old u = switched_mode u

-- The generator after its turn, by F and what it is told.
abbrev pub after_of : Text → Generator → ℕ → Bool → Generator
after_of Of1978 = after
after_of Old = old_after

-- What it brings where its envelope is on, by F: its registers, P, whether it triggers.
abbrev pub sounded_by : Text → Generator → ℕ → Sounded
sounded_by Of1978 = sounded_of
sounded_by Old = old_sounded

-- Step 5. What it sends, by F: F itself; in the older text its own angle.
abbrev pub sends_of : Text → Generator → ℕ → ℕ
sends_of Of1978 u f = f
sends_of Old u f = e_of u f

-- The DAC to which it sends: the low 4 bits of GO; in the older text those of GN.
abbrev pub dac_of : Text → Generator → ℕ
dac_of Of1978 u = u.go % 2 ^ 4
dac_of Old u = u.gn % 2 ^ 4
