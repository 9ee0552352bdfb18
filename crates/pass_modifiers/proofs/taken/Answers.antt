-- `taken` meets its contract by whether the modifier invokes a delay unit.
-- Assumes nothing.
use mathlib.Core.Path.{sym, ◌∙◌}
use Rattle.pass_modifiers.proofs.Turns.{turn-invoking, plain-taken}
use Rattle.pass_modifiers.proofs.taken.Goals as goal

pub invoked-requires : goal.invoked-requires
invoked-requires c = record { reaches = c.requires.reaches; k_bound = c.requires.k_bound; ranged = c.requires.ranged; u_value = (sym c.invokes.ensures ∙ c.if-invokes.true, c.look-a.ensures.low) }

pub returns-then-invokes : goal.returns-then-invokes
returns-then-invokes c =
    let a = c.args in
    rw (turn-invoking a.text _ _ _ _ _ a.u (sym c.invokes.ensures ∙ c.if-invokes.true), ← c.look-a.ensures.is) c.invoked.ensures

pub returns : goal.returns
returns c =
    let a = c.args in
    plain-taken a.text _ _ _ _ _ a.u _ _ (sym c.invokes.ensures ∙ c.if-invokes.false) c.plain.ensures
