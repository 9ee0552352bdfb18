-- `generator_oscillator::sum_of_cosines` meets its contract: index, quotient and sign are the definition's, by the laws of the sum of cosines.
-- Assumes nothing.
use native.Mathlib.Omega.{arith}
use Rattle.generator_oscillator.proofs.Waves.{sign_bit}
use Rattle.generator_oscillator.proofs.Cosines.{index-low, shifted-exact, shifted-positive, smaller-low, cap-first, cosines-are}
use Rattle.generator_oscillator.proofs.sum_of_cosines.Goals as goal

pub magnitude-s-requires : goal.magnitude-s-requires
magnitude-s-requires c = rw c.multiple_index-index.ensures (index-low _ _)

pub overflow_mul-magnitude : goal.overflow_mul-magnitude
overflow_mul-magnitude c = omega (arith, smaller-low c.multiple_index-index.result _ c.min.ensures c.magnitude-s.ensures)

pub nonzero_div-magnitude : goal.nonzero_div-magnitude
nonzero_div-magnitude c = rw (c.magnitude-d.ensures, shifted-exact c.args.k c.args.gm c.requires.2) (shifted-positive _ _)

pub sign-requires : goal.sign-requires
sign-requires c = rw c.multiple_index-index.ensures (index-low _ _)

pub overflow_add-sign : goal.overflow_add-sign
overflow_add-sign c = rw (c.sign.ensures, c.sign-2.ensures) (omega (arith, sign_bit c.multiple_index-index.result, sign_bit c.args.k))

pub returns : goal.returns
returns c =
    let exact = shifted-exact c.args.k c.args.gm c.requires.2 in
    cosines-are c.args.k c.args.gn c.args.gm _ _ _
    c.multiple_index-index.ensures
    (rw (c.min.ensures, c.magnitude-s.ensures, c.magnitude-d.ensures, exact) (cap-first _ _ (shifted-positive c.args.k c.args.gm)))
    (rw (c.sign.ensures, c.sign-2.ensures))
