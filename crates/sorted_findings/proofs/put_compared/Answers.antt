-- `sorted_findings::put_compared` meets its contract: a refusal, or the second order's lines and what was found.
-- Assumes nothing.
use native.Mathlib.Omega.{arith}
use Rattle.base_questions.proofs.Refusals.{numbered}
use Rattle.sorted_findings.proofs.Comparing.{none-number, says-refused, says_both, lines-room, line-room}
use borrow.Author.Rules.{rules}
use Rattle.sorted_findings.proofs.put_compared.Goals as goal

pub returns-in-Err : goal.returns-in-Err
returns-in-Err c =
    let a = c.args in
    let refused = says-refused a.text a.m.now a.second.now c.requires c.in-Err.ensures.value (numbered _) in
    record { value = rw refused c.put_refusal.ensures.value; out_after = rw refused c.put_refusal.ensures.out_after }

pub order_lines-at-requires : goal.order_lines-at-requires
order_lines-at-requires c =
    let a = c.args in
    omega (arith, lines-room a.text a.m.now a.second.now c.requires c.in-Ok.ensures.value (none-number c.in-Ok.parted _ _))

pub put_found-requires : goal.put_found-requires
put_found-requires c =
    let a = c.args in
    record { line_bytes_bound = line-room a.text a.m.now a.second.now c.requires c.in-Ok.ensures.value (none-number c.in-Ok.parted _ _) c.order_lines-at.ensures.value; contents_len = search rules; some_point = c.in-Ok.ensures.some_point }

pub returns-in-Ok : goal.returns-in-Ok
returns-in-Ok c =
    let a = c.args in
    let both = says_both a.text a.m.now a.second.now c.requires c.in-Ok.ensures.value (none-number c.in-Ok.parted _ _) a.out.now (c.order_lines-at.ensures.value, c.order_lines-at.ensures.out_after) (c.put_found.ensures.value, c.put_found.ensures.out_after) in
    record { value = both.0; out_after = both.1 }
