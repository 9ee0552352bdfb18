-- `mark_left` meets its contract by whether the sum left its range.
use mathlib.Core.Path.{◌≡◌, refl}
use Prim.Native.Nat.{◌%◌}
use native.Mathlib.Nat.{mod-eq_of_lt}
use Rattle.pass_model.specs.Clipped.{marked_at}
use Rattle.pass_outputs.proofs.Taking.mark_left.Goals as goal

pub returns-then-left : goal.returns-then-left
unfolding marked_at
returns-then-left c =
    let low : c.args.gsum % 64 ≡ c.args.gsum = mod-eq_of_lt c.requires in
    rw (c.if-left.true, low) refl

pub returns : goal.returns
unfolding marked_at
returns c = rw c.if-left.false refl
