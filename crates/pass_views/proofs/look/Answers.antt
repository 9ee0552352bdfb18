-- `look` meets its contract by the address's top bits.
use mathlib.Core.Path.{◌≡◌}
use Prim.Native.Nat.{◌/◌}
use native.Mathlib.Omega.{arith}
use borrow.Author.Tests.{ne_eqb}
use Rattle.pass_model.specs.Modifiers.{seen}
use Rattle.pass_views.proofs.look.Goals as goal

pub returns-in-0 : goal.returns-in-0
unfolding seen
returns-in-0 c = rw c.in-0.is c.quadrant_word.ensures

pub returns-in-1 : goal.returns-in-1
unfolding seen
returns-in-1 c = rw c.in-1.is c.quadrant_word-in-1.ensures

pub returns-in_default : goal.returns-in_default
unfolding seen
returns-in_default c =
    let high = c.args.address / 64 in
    let not-0 : high ≡ 0 → ⊥ = λ e. omega arith in
    let not-1 : high ≡ 1 → ⊥ = λ e. omega arith in
    rw (ne_eqb high 0 not-0, ne_eqb high 1 not-1) c.word_at.ensures
