-- `sorted_findings::put_found` meets its contract: equal orders, or a point and by what passes differ.
-- Assumes nothing.
use mathlib.Core.Path.{refl}
use Rattle.std.specs.Prelude.{Some, None, Ok}
use native.Mathlib.Omega.{arith}
use Rattle.parts.specs.Parts.{parting_of}
use Rattle.sorted_findings.proofs.Places.{place-small}
use Rattle.sorted_findings.proofs.Comparing.{found-equal, found-failing}
use Rattle.sorted_findings.proofs.put_found.Goals as goal

pub returns-in-None : goal.returns-in-None
returns-in-None c =
    let a = c.args in
    let equal = found-equal a.text a.first.now a.second.now (parting_of (Ok None) a.contents.now a.items.now) refl in
    rw c.in-None.is (record { value = rw equal c.put.ensures.value; out_after = rw equal c.put.ensures.out_after })

pub put_failing-requires : goal.put_failing-requires
put_failing-requires c =
    let a = c.args in
    record { line_bytes_bound = c.requires.line_bytes_bound; difference_bound = rw c.differ_by-difference.ensures (place-small a.text a.contents.now a.items.now a.first.now a.second.now c.requires.contents_len) }

pub returns-in-Some : goal.returns-in-Some
returns-in-Some c =
    let a = c.args in
    let p = c.in-Some.point in
    let named = rw c.in-Some.is at c.requires.some_point in
    let failing = found-failing a.text a.first.now a.second.now (parting_of (Ok (Some p)) a.contents.now a.items.now) (λ z. omega (arith, named, z)) in
    rw c.in-Some.is (record { value = rw (failing, ← c.differ_by-difference.ensures) c.put_failing.ensures.value; out_after = rw (failing, ← c.differ_by-difference.ensures) c.put_failing.ensures.out_after })
