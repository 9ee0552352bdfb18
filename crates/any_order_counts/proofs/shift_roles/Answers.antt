-- `any_order_counts::shift_roles` meets its contract: the generators passed have moved.
-- Assumes nothing.
use mathlib.Core.Path.{◌≡◌, ap, ◌∙◌}
use Prim.Native.Nat.{◌-◌}
use native.Mathlib.Omega.{arith}
use Rattle.any_order_counts.specs.AsCoded.{roles_moved}
use Rattle.any_order_counts.proofs.Steps.{roles-none, roles-next}
use Rattle.any_order_counts.proofs.shift_roles.Goals as goal

pub loop-g-init : goal.loop-g-init
loop-g-init c = let a = c.args in (omega arith, omega arith, roles-none a.up a.m.now a.kept.now a.from)

pub shift_role-requires : goal.shift_role-requires
shift_role-requires c = record { countable = c.requires.countable; g_lt_generators = omega (arith, c.requires.end_le_generators) }

pub loop-g-preserved : goal.loop-g-preserved
loop-g-preserved c =
    let a = c.args in
    let inv = c.loop-g.invariant in
    (omega (arith, inv.0), omega (arith, inv.0), roles-next a.up a.m.now a.kept.now a.from c.loop-g.g inv.0 inv.2 c.shift_role.ensures)

pub returns : goal.returns
returns c =
    let a = c.args in
    let inv = c.loop-g.invariant in
    let e : c.loop-g.g - a.from ≡ a.end - a.from = omega (arith, inv.0, inv.1) in
    inv.2 ∙ ap (roles_moved a.up a.m.now a.kept.now a.from) e
