-- `file_numbers::value` meets its contract: the digits that are left go on from the number so far.
-- Assumes nothing.
use mathlib.Core.Path.{refl, sym, ◌∙◌}
use Prim.Native.Nat.{◌+◌, ◌*◌, ◌≤◌, ◌<◌}
use native.Mathlib.Omega.{arith}
use native.Mathlib.Nat.{mul-le-mul_left}
use lib.ListN.{get_or, drop}
use Rattle.file_numbers.specs.Numbers.{digit_value}
use Rattle.file_numbers.proofs.Digits as digits
use Rattle.file_numbers.proofs.value.Goals as goal

pub returns-then-base-d : goal.returns-then-base-d
returns-then-base-d c =
    let d : c.args.base ≤ digit_value (get_or c.args.bytes.now c.loop-b.b-index 0) = omega (arith, c.digit-d.ensures) in
    sym (digits.number-none _ _ _ (c.loop-b.invariant.1 ∙ digits.digits-stop _ _ c.loop-b-test.true _ d))

pub overflow_mul-v : goal.overflow_mul-v
overflow_mul-v c = omega (arith, mul-le-mul_left c.loop-b.v c.requires.0)

pub overflow_add-v : goal.overflow_add-v
overflow_add-v c = omega (arith, mul-le-mul_left c.loop-b.v c.requires.0)

pub returns-then-limit-v : goal.returns-then-limit-v
returns-then-limit-v c =
    let a = c.args in
    let g = digits.written_grows a.base (c.loop-b.v * a.base + c.digit-d.result) (drop (c.loop-b.b-index + 1) a.bytes.now) (omega arith) in
    let e = c.loop-b.invariant.2 ∙ digits.written_on _ _ c.loop-b-test.true a.base c.loop-b.v in
    sym (digits.number-large _ _ _ (rw (e, ← c.digit-d.ensures) (omega (arith, g, c.if-limit-v.true))))

pub loop-b-preserved : goal.loop-b-preserved
loop-b-preserved c =
    let a = c.args in
    let h : digit_value (get_or a.bytes.now c.loop-b.b-index 0) < a.base = omega (arith, c.digit-d.ensures) in (
      c.if-limit-v.false,
      c.loop-b.invariant.1 ∙ digits.digits-on _ _ c.loop-b-test.true _ h,
      rw c.digit-d.ensures (c.loop-b.invariant.2 ∙ digits.written_on _ _ c.loop-b-test.true _ _),
    )

pub returns : goal.returns
returns c =
    let w = c.loop-b in
    sym
    (digits.number_is _ _ _ _ (w.invariant.1 ∙ digits.digits-end _ _ _ c.loop-b-test.false) (w.invariant.2 ∙ digits.written-end _ _ _ _ c.loop-b-test.false) w.invariant.0)

pub loop-b-init : goal.loop-b-init
loop-b-init c = (omega arith, refl, refl)
