-- `command_fields::flag` meets its contract: a field of one bit.
-- Assumes nothing.
use mathlib.Core.Path.{◌≡◌, refl}
use Prim.Native.Nat.{◌+◌, ◌-◌}
use native.Mathlib.Omega.{arith}
use Rattle.command_fields.proofs.flag.Goals as goal

pub returns : goal.returns
returns c =
    let b = c.args.b in
    let one : b + 1 - b ≡ 1 = omega arith in
    rw one refl
