-- How large an integer's sums, products and words are, and that the code's operations of 64 bits give the integer where it is small.
-- Assumes nothing.
use mathlib.Core.Path.{◌≡◌, refl, sym, ap, ◌∙◌, subst⁻¹}
use mathlib.Core.Bool.{Bool, true, false, cond}
use Prim.Native.Nat.{ℕ, zero, suc, ◌+◌, ◌-◌, ◌*◌, ◌/◌, ◌%◌, ◌^◌, ◌<◌, ◌≤◌}
use native.Mathlib.Nat.{mul-le-mul, div-le_self, le_trans, le_refl, mod-lt, mod-eq_of_lt, add-mul-mod_self_right}
use native.Mathlib.Omega.{arith}
use lib.Dec.{T, leb, ltb, leb→le, ltb→lt}
use lib.Pow.{pow_pos, pow_mono}
use lib.IntN.{ℤ, pos, negsuc, neg_ℤ, sub_ℕ, ◌+ℤ◌, ◌-ℤ◌, ◌*ℤ◌, -ℤ-+ℤ_cancel, nat_abs}
use lib.Signed.{lt_z, shr_z}
use mir.Syntax.{w32, w64}
use mir.Val.{SFits, to_z, of_z}
use mir.Facts.{to_z_pos, to_z-of_z}
use borrow.Author.Tests.{lt-ltb, le-ltb, ltb-true, ltb-false}
use Rattle.base_words.specs.Words.{signed, low_bits}
use Rattle.base_words.proofs.Differences.{up, down, Difference, is-difference, is-minus}
use Rattle.base_words.proofs.Residues.{low-is}
use Rattle.base_words.proofs.Ranges.{alike, bias}
use Rattle.modifier_product.specs.Product.{scaled}

abs_neg : (n : ℕ) → nat_abs (neg_ℤ (pos n)) ≡ n
abs_neg zero = refl
abs_neg (suc n) = refl

abs-mul : (x y : ℤ) → nat_abs (x *ℤ y) ≡ nat_abs x * nat_abs y
abs-mul (pos a) (pos b) = refl
abs-mul (pos a) (negsuc b) = abs_neg (a * suc b)
abs-mul (negsuc a) (pos b) = abs_neg (suc a * b)
abs-mul (negsuc a) (negsuc b) = refl

abs-by : (c : Bool) (a b : ℕ) → (T c → a < b) → nat_abs (cond c (negsuc (b - suc a)) (pos (a - b))) ≤ a + b
abs-by true a b f = omega (arith, f tt)
abs-by false a b f = omega arith

abs-sub : (a b : ℕ) → nat_abs (sub_ℕ a b) ≤ a + b
abs-sub a b = abs-by (ltb a b) a b (ltb→lt a b)

abs-raised : (x : ℤ) (k : ℕ) → nat_abs (x +ℤ pos k) ≤ nat_abs x + k
abs-raised (pos a) k = le_refl (a + k)
abs-raised (negsuc a) k = omega (arith, abs-sub k (suc a))

abs-shr : (z : ℤ) (m : ℕ) → nat_abs (shr_z z m) ≤ nat_abs z
abs-shr (pos a) m = div-le_self a m
abs-shr (negsuc a) m = omega (arith, div-le_self a m)

-- n - k with n below 2k is at most k: so a word of 20 bits stands for an integer of at most 2^19.
abs-difference : {z : ℤ} {n k : ℕ} → Difference z n k → n < k + k → nat_abs z ≤ k
abs-difference {z = pos a} d h = omega arith
abs-difference {z = negsuc a} d h = omega arith

abs_word : (n : ℕ) → n < 2 ^ 20 → nat_abs (signed 20 n) ≤ 2 ^ 19
abs_word n h = abs-difference (is-difference ((n + 2 ^ 19) % 2 ^ 20) (2 ^ 19) (bias 20 n refl h)) (mod-lt (n + 2 ^ 19) (pow_pos 20))

-- Two integers n - k with one k are in the order of the n.
pub less-difference : {x y : ℤ} {m n k : ℕ} → Difference x m k → Difference y n k → lt_z x y ≡ ltb m n
less-difference {x = pos a} {y = pos b} {m} {n} p q =
    alike _ _ (λ e. lt-ltb m n (omega (arith, ltb-true))) (λ e. le-ltb m n (omega (arith, ltb-false)))
less-difference {x = pos a} {y = negsuc b} {m} {n} p q = sym (le-ltb m n (omega arith))
less-difference {x = negsuc a} {y = pos b} {m} {n} p q = sym (lt-ltb m n (omega arith))
less-difference {x = negsuc a} {y = negsuc b} {m} {n} p q =
    alike _ _ (λ e. lt-ltb m n (omega (arith, ltb-true))) (λ e. le-ltb m n (omega (arith, ltb-false)))

-- Half of n - k with k added is half of n.
pub half-difference : (k : ℕ) {z : ℤ} {n : ℕ} → Difference z n k → n < 2 ^ 20 → low_bits 20 (shr_z (z +ℤ pos k) 2) ≡ n / 2
unfolding low_bits
half-difference k {z} {n} d h =
    ap (λ (x : ℤ). low_bits 20 (shr_z (x +ℤ pos k) 2)) (is-minus d)
    ∙ ap (λ (x : ℤ). low_bits 20 (shr_z x 2)) (-ℤ-+ℤ_cancel (pos n) (pos k))
    ∙ mod-eq_of_lt (omega arith)

fits64 : (z : ℤ) → nat_abs z < 2 ^ 63 → SFits w64 z
fits64 (pos n) h = record { sfits = h }
fits64 (negsuc n) h = record { sfits = omega arith }

-- An integer, out of its 64 bits.
abbrev pub held : ℤ → ℤ
held z = to_z w64 (of_z w64 z)

-- A term t of the code is the integer z, of at most n. A record, so that a use shows what they are.
pub record Is (t z : ℤ) (n : ℕ) : Type 0 where
  pub same : t ≡ z
  pub small : nat_abs z ≤ n

-- What is below 2^63 fits, and is itself out of its bits.
pub is-fits : {t z : ℤ} {n : ℕ} → Is t z n → T (ltb n (2 ^ 63)) → SFits w64 t
is-fits {t} {z} {n} i h = subst⁻¹ (SFits w64) i.same (fits64 z (omega (arith, i.small, ltb→lt n (2 ^ 63) h)))

pub kept : {t z : ℤ} {n : ℕ} → Is t z n → T (ltb n (2 ^ 63)) → Is (held t) z n
kept i h = record { same = to_z-of_z (is-fits i h) ∙ i.same; small = i.small }

pub is-small : {t z : ℤ} {n k : ℕ} → Is t z n → T (leb n k) → nat_abs t ≤ k
is-small {t} {z} {n} {k} i h = rw i.same (le_trans i.small (leb→le n k h))

pub known : (z : ℤ) {n : ℕ} → nat_abs z ≤ n → Is z z n
known z h = record { same = refl; small = h }

pub times : {s t x y : ℤ} {m n : ℕ} → Is s x m → Is t y n → Is (s *ℤ t) (x *ℤ y) (m * n)
times {s} {t} {x} {y} {m} {n} i j = record {
  same = ap (λ (z : ℤ). z *ℤ t) i.same ∙ ap (λ (z : ℤ). x *ℤ z) j.same;
  small = subst⁻¹ (λ (k : ℕ). k ≤ m * n) (abs-mul x y) (mul-le-mul i.small j.small);
}

pub raised : (k : ℕ) {s x : ℤ} {m : ℕ} → Is s x m → Is (s +ℤ pos k) (x +ℤ pos k) (m + k)
raised k {s} {x} {m} i = record { same = ap (λ (z : ℤ). z +ℤ pos k) i.same; small = omega (arith, abs-raised x k, i.small) }

pub shifted : (k : ℕ) {s x : ℤ} {m : ℕ} → Is s x m → Is (shr_z s k) (shr_z x k) m
shifted k {s} {x} i = record { same = ap (λ (z : ℤ). shr_z z k) i.same; small = le_trans (abs-shr x k) i.small }

-- The integer of a word of 20 bits, from its bias.
pub unbiased : (a r : ℕ) → a < 2 ^ 20 → r < 2 ^ 20 → signed 20 a ≡ pos r -ℤ pos (2 ^ 19) → Is (to_z w64 r -ℤ pos (2 ^ 19)) (signed 20 a) (2 ^ 19)
unbiased a r h k e = record {
  same = ap (λ (z : ℤ). z -ℤ pos (2 ^ 19)) (to_z_pos w64 {n = r} (omega (arith, k))) ∙ sym e;
  small = abs_word a h;
}

-- A power of two below 2^4, made by a shift at 32 bits.
pub scale : (s : ℕ) → s < 4 → Is (to_z w32 (1 * 2 ^ s % 2 ^ 32)) (pos (2 ^ s)) 8
scale s h = record { same = ap (to_z w32) whole ∙ to_z_pos w32 (omega (arith, small)); small = small }
  where
    small : 2 ^ s ≤ 2 ^ 3
    small = pow_mono {i = s} {j = 3} (omega (arith, h))

    whole : 1 * 2 ^ s % 2 ^ 32 ≡ 2 ^ s
    whole = omega (arith, small)

-- Two words multiplied, exactly and then at a scale.
module _ (a b : ℕ) {x y : ℤ} (ha : a < 2 ^ 20) (hb : b < 2 ^ 20) (ex : x ≡ signed 20 a) (ey : y ≡ signed 20 b) where
  pub exact : Is (held x *ℤ held y) (signed 20 a *ℤ signed 20 b) (2 ^ 38)
  exact = times (kept (record { same = ex; small = abs_word a ha }) tt) (kept (record { same = ey; small = abs_word b hb }) tt)

  pub at-scale : (s : ℕ) → s < 4 → Is (held (held x *ℤ held y) *ℤ held (to_z w32 (1 * 2 ^ s % 2 ^ 32))) (scaled s a b) (2 ^ 41)
  unfolding scaled
  at-scale s h = times (kept exact tt) (kept (scale s h) tt)

pub scaled-is : (s a b : ℕ) {z : ℤ} → (s < 4) × (a < 2 ^ 20) × (b < 2 ^ 20) → z ≡ scaled s a b → Is (held z) (scaled s a b) (2 ^ 41)
scaled-is s a b h e = kept (record { same = e; small = (at-scale a b h.1 h.2 refl refl s h.0).small }) tt

pub up_le : (z : ℤ) → up z ≤ nat_abs z
up_le (pos n) = omega arith
up_le (negsuc n) = omega arith

down_le : (z : ℤ) → down z ≤ nat_abs z
down_le (pos n) = omega arith
down_le (negsuc n) = omega arith

-- An integer with an offset that makes it a number.
pub offset : (k : ℕ) (z : ℤ) → nat_abs z ≤ k → z +ℤ pos k ≡ pos (up z + k - down z)
offset k (pos n) h = ap pos (omega arith)
offset k (negsuc n) h = simp (le-ltb k (suc n) h) (ap pos (omega arith))

-- With an offset that is a multiple of 2^w, the number has the integer's low bits.
pub low-offset : (w q : ℕ) (z : ℤ) → nat_abs z ≤ q * 2 ^ w → (up z + q * 2 ^ w - down z) % 2 ^ w ≡ low_bits w z
low-offset w q z h =
    sym (low-is w z (up z + q * 2 ^ w - down z) (ap (λ (n : ℕ). n % 2 ^ w) back ∙ add-mul-mod_self_right (up z) q (2 ^ w)))
  where
    back : up z + q * 2 ^ w - down z + down z ≡ up z + q * 2 ^ w
    back = omega (arith, down_le z, h)
