-- `modifier_product::low20` meets its contract: a multiple of 2^20 that is added makes the number positive and leaves its low bits.
-- Assumes nothing.
use mathlib.Core.Path.{◌≡◌, ap, ◌∙◌, subst⁻¹}
use Prim.Native.Nat.{◌+◌, ◌-◌, ◌%◌, ◌^◌, ◌≤◌}
use native.Mathlib.Omega.{arith}
use lib.Dec.{T}
use lib.IntN.{ℤ, pos, ◌+ℤ◌, nat_abs}
use lib.Signed.{non_neg}
use mir.Syntax.{w64}
use mir.Val.{Fits}
use Rattle.base_words.proofs.Differences.{up, down}
use Rattle.modifier_product.proofs.Integers.{held, Is, is-fits, kept, known, raised, up_le, offset, low-offset}
use Rattle.modifier_product.proofs.low20.Goals as goal

module _ (z : ℤ) (h : nat_abs z ≤ 2 ^ 42) where
  number : Is (held z +ℤ pos (2 ^ 42)) (z +ℤ pos (2 ^ 42)) (2 ^ 43)
  number = raised (2 ^ 42) (kept (known z h) tt)

  number_is : held (held z +ℤ pos (2 ^ 42)) ≡ pos (up z + 2 ^ 42 - down z)
  number_is = (kept number tt).same ∙ offset (2 ^ 42) z h

pub overflow_add-result : goal.overflow_add-result
overflow_add-result c = is-fits (number c.args.z c.requires) tt

pub overflow_cast-result : goal.overflow_cast-result
overflow_cast-result c = subst⁻¹ (λ (z : ℤ). T (non_neg z) × Fits w64 (nat_abs z)) (number_is c.args.z c.requires) (tt, record { fits = omega (arith, up_le c.args.z) })

pub returns : goal.returns
returns c = ap (λ (z : ℤ). nat_abs z % 2 ^ 20) (number_is c.args.z c.requires) ∙ low-offset 20 (2 ^ 22) c.args.z c.requires
