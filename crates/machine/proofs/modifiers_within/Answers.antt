-- `machine::modifiers_within` meets its contract: the sweep by the limits, the addresses and the functions.
-- Assumes nothing.
use mathlib.Core.Path.{◌≡◌, refl}
use Rattle.base_lists.specs.Lists.{tabulate}
use Rattle.layout_texts.specs.declared.Text.{Text}
use Rattle.layout_texts.specs.declared.Text.TheVariants.{Of1978, Old}
use Rattle.base_lists.proofs.Below.{both}
use Rattle.layout.specs.Layout.{modifier_at}
use Rattle.machine.specs.Questions.{modifier_registers}
use Rattle.machine.specs.AsCoded.{limits_of, repeated, modifiers_within}
use Rattle.machine.proofs.Limits.{limits-swept}
use Rattle.machine.proofs.modifiers_within.Goals as goal

-- Both texts' modifiers have these limits.
any-text : (text : Text) → repeated (limits_of (modifier_registers Of1978)) 16 ≡ repeated (limits_of (modifier_registers text)) 16
any-text Of1978 = refl
any-text Old = refl

pub returns : goal.returns
unfolding modifiers_within repeated tabulate
returns c =
    let a = c.args in
    both
    (both
    (both
    (limits-swept _ (repeated (limits_of (modifier_registers a.text)) 16) a.m.now (modifier_at 0) 8 c.swept.result (any-text a.text) c.swept.ensures)
    c.words_below.ensures)
    c.words_below-2.ensures)
    c.functions_built.ensures
