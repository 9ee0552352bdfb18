-- `file_printed::put_digits` meets its contract; k falls at each call.
-- Assumes nothing.
use native.Mathlib.Omega.{arith}
use Rattle.file_printed.proofs.Lines as lines
use Rattle.file_printed.proofs.+put_digits.Goals as goal

pub returns-then-k-eq0 : goal.returns-then-k-eq0
returns-then-k-eq0 t c =
    let a = c.args in
    let r = lines.put-none a.line.now a.at a.k a.n c.if-k-eq0.true in
    record { value = r.0; line_after = r.1 }

pub returns-then-n-lt10 : goal.returns-then-n-lt10
returns-then-n-lt10 t c =
    let a = c.args in
    let r = lines.put_small a.line.now a.at a.k a.n c.if-k-eq0.false c.if-n-lt10.true in
    record { value = r.0; line_after = r.1 }

pub bounds-line-next : goal.bounds-line-next
bounds-line-next t c = omega (arith, lines.digits-end _ _ _ c.put_digits-next.ensures.value)

pub overflow_add-result-2 : goal.overflow_add-result-2
overflow_add-result-2 t c = omega (arith, lines.digits-end _ _ _ c.put_digits-next.ensures.value)

pub returns : goal.returns
returns t c =
    let a = c.args in
    let e = c.put_digits-next.ensures in
    let r = lines.put-large a.line.now a.at a.k a.n c.if-k-eq0.false c.if-n-lt10.false (e.value, e.line_after) in
    record { value = r.0; line_after = r.1 }
