-- `add_output` meets its contract by whether the output adds.
use mathlib.Core.Path.{◌≡◌, refl, ◌∙◌}
use mathlib.Core.Bool.{false}
use Rattle.layout_modes.specs.declared.Output.{Output}
use Rattle.layout_modes.specs.declared.Output.TheVariants.{Silent, Adds, Replaces}
use Rattle.layout_modes.specs.Modes.{is_adds}
use Rattle.pass_outputs.specs.AsCoded.{heard}
use Rattle.pass_outputs.proofs.Taking.add_output.Goals as goal

pub returns-in-Adds : goal.returns-in-Adds
unfolding heard
returns-in-Adds c = c.add.ensures ∙ rw c.in-Adds.is refl

other : (output : Output) → (output ≡ Adds → ⊥) → is_adds output ≡ false
other Silent n = refl
other Adds n = absurd (n refl)
other Replaces n = refl

pub returns-in_default : goal.returns-in_default
unfolding heard
returns-in_default c = c.replace.ensures ∙ rw (other c.args.output c.in_default.not-Adds) refl
