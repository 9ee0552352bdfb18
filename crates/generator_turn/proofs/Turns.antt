-- What is so of a generator's turn by either text.
-- Assumes nothing.
use mathlib.Core.Path.{◌≡◌}
use mathlib.Core.Bool.{Bool, false}
use Prim.Native.Nat.{ℕ, ◌^◌, ◌<◌}
use native.Mathlib.Omega.{arith}
use lib.Dec.{eqb}
use Rattle.layout_modes.specs.Modes.{oscillator_on, envelope_on, wait}
use Rattle.layout_modes.proofs.Exclusions.{quiet}
use Rattle.generator.specs.declared.Generator.{Generator}
use Rattle.generator.specs.Generator.{Ranged, triggers, sounded_of}
use Rattle.generator.proofs.Turns.{rests, after-untold}
use Rattle.generator.proofs.Registers.{p-low}
use Rattle.layout_old_modes.proofs.RunModes.{switched-low}
use Rattle.generator_old.specs.OldGenerator.{old_sounded}
use Rattle.generator_old.proofs.Switched.{triggers-switched}
use Rattle.generator_old.proofs.OldTurns.{old-rests, old-after-untold}
use Rattle.generator_old.proofs.Registers.{old-p-low}
use Rattle.layout_texts.specs.declared.Text.{Text}
use Rattle.layout_texts.specs.declared.Text.TheVariants.{Of1978, Old}
use Rattle.generator_turn.specs.AsCoded.{run_of, after_of, sounded_by}

-- A run mode in the 1978 coding has 4 bits.
pub run-low : (text : Text) (u : Generator) → Ranged u → run_of text u < 16
run-low Of1978 u r = omega (arith, r.gmode-low)
run-low Old u r = switched-low u.gmode u.gn

-- P is a word of 20 bits.
pub sounded-p-low : (text : Text) (u : Generator) (f : ℕ) → (sounded_by text u f).p < 2 ^ 20
unfolding sounded_of old_sounded
sounded-p-low Of1978 u f = p-low u f
sounded-p-low Old u f = old-p-low u f

-- What a generator that doesn't wait is told makes no difference.
pub untold : (text : Text) (u : Generator) (f : ℕ) (triggered_below : Bool) → eqb (run_of text u) wait ≡ false → after_of text u f triggered_below ≡ (sounded_by text u f).unit
unfolding sounded_of old_sounded
untold Of1978 u f triggered_below h = after-untold u f triggered_below h
untold Old u f triggered_below h = old-after-untold u f triggered_below h

-- A generator with nothing on is as it was after its turn.
pub rests-in : (text : Text) (u : Generator) (f : ℕ) (triggered_below : Bool) → envelope_on (run_of text u) ≡ false → oscillator_on (run_of text u) ≡ false → after_of text u f triggered_below ≡ u
rests-in Of1978 u f triggered_below e o = rests u f triggered_below e o
rests-in Old u f triggered_below e o = old-rests u f triggered_below e o

-- Only an envelope that is on triggers.
pub no-trigger : (text : Text) (u : Generator) (f : ℕ) → envelope_on (run_of text u) ≡ false → (sounded_by text u f).triggers ≡ false
unfolding sounded_of old_sounded triggers
no-trigger Of1978 u f e = rw (quiet (run_of Of1978 u) e).not_free
no-trigger Old u f e = rw (triggers-switched u, (quiet (run_of Old u) e).not_free)
