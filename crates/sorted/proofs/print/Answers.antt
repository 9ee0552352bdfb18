-- `print` meets its contract: all that is printed lies within its buffer.
-- Assumes nothing.
use mathlib.Core.Path.{refl}
use native.Mathlib.Omega.{arith}
use lib.ListN.{length-take}
use Rattle.sorted_findings.proofs.WholeFile.{findings-within}
use Rattle.sorted.proofs.print.Goals as goal

pub slice_bounds-out-end : goal.slice_bounds-out-end
slice_bounds-out-end c =
    let a = c.args in
    findings-within a.file.now a.by a.listing.now _ refl (c.findings-length.ensures.value, c.findings-length.ensures.out_after)

pub slice_bounds-write_all-end : goal.slice_bounds-write_all-end
slice_bounds-write_all-end c =
    let a = c.args in
    omega (arith, length-take c.findings-length.result c.findings-length.new.out, findings-within a.file.now a.by a.listing.now _ refl (c.findings-length.ensures.value, c.findings-length.ensures.out_after))
