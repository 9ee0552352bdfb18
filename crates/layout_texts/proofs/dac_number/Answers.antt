-- `layout_texts::dac_number` meets its contract: the low 4 bits of GO, or of GN, are a number below 16.
-- Assumes nothing.
use mathlib.Core.Path.{◌≡◌}
use Prim.Native.Nat.{◌+◌, ◌*◌, ◌%◌}
use native.Mathlib.Nat.{mod-lt, add-zero}
use native.Mathlib.Omega.{arith}
use lib.ListN.{get_or}
use Rattle.layout_texts.proofs.dac_number.Goals as goal

pub returns-in-Of1978 : goal.returns-in-Of1978
returns-in-Of1978 c =
    let a = c.args in
    let e : c.wide.result ≡ get_or a.m.now (11 * a.g) 0 % 16 = rw (add-zero (11 * a.g)) at c.wide.ensures in
    rw c.in-Of1978.is (e, rw e (mod-lt (get_or a.m.now (11 * a.g) 0) {m = 16} (omega arith)))

pub returns-in-Old : goal.returns-in-Old
returns-in-Old c =
    let a = c.args in
    let x = get_or a.m.now (11 * a.g + 3) 0 in
    rw c.in-Old.is (c.wide-in-Old.ensures, rw c.wide-in-Old.ensures (mod-lt x {m = 16} (omega arith)))
