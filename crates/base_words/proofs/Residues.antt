-- Low bits at any width: a number that is congruent to an integer has its low bits, so those of a sum are those of the sum of the low bits.
-- Assumes nothing.
use Rattle.std.proofs.Common.{◌≡◌, ℕ, suc, ◌+◌, ◌-◌, ◌*◌, ◌/◌, ◌%◌, ◌^◌, ◌<◌, ◌≤◌, Bool, true, false, cond, ltb, ℤ, pos, negsuc, ◌+ℤ◌, ◌-ℤ◌, ◌*ℤ◌, neg_ℤ, sym, refl, ap, ◌∙◌, add-zero, mod-lt, mod-eq_of_lt, mul_assoc, suc-mul, mul_comm, add-mul, zero-add, le-mul_of_pos_right, arith, pow_pos, pow-add}
use native.Mathlib.Nat.{mod_self, zero-mod, mod-add-mod, add-mod, mod-add-div', add-mul-mod_self_right}
use lib.Pow.{mod-mod-pow}
use Rattle.base_words.specs.Words.{low_bits, signed, sum, extended, sum_into, exact_sum}
use Rattle.base_words.proofs.Differences.{up, down, neg-up, neg-down, add-law, Difference, is-difference}

module _ (m : ℕ) (m-pos : 0 < m) where
  plus : (a b c d : ℕ) → a % m ≡ b % m → c % m ≡ d % m → (a + c) % m ≡ (b + d) % m
  plus a b c d p q =
      add-mod a c m ∙ ap (λ (n : ℕ). (n + c % m) % m) p ∙ ap (λ (n : ℕ). (b % m + n) % m) q ∙ sym (add-mod b d m)

  cancel : (a b k : ℕ) → (a + k) % m ≡ (b + k) % m → a % m ≡ b % m
  cancel a b k p = sym (over a) ∙ plus (a + k) (b + k) (k * m - k) (k * m - k) p refl ∙ over b
    where
      over : (a : ℕ) → (a + k + (k * m - k)) % m ≡ a % m
      over a = ap (λ (n : ℕ). n % m) (back a) ∙ add-mul-mod_self_right a k m
        where
          back : (a : ℕ) → a + k + (k * m - k) ≡ a + k * m
          back a = omega (arith, le-mul_of_pos_right k m-pos)

-- A choice between two numbers below a bound is below it.
pub either-low : (b : Bool) {x y n : ℕ} → x < n → y < n → cond b x y < n
either-low true h k = h
either-low false h k = k

pub low-lt : (w : ℕ) (z : ℤ) → low_bits w z < 2 ^ w
unfolding low_bits
low-lt w (pos n) = mod-lt n (pow_pos w)
low-lt w (negsuc n) = omega (arith, pow_pos w)

-- The low bits of up - down.
low-law : (w : ℕ) (z : ℤ) → (low_bits w z + down z) % 2 ^ w ≡ up z % 2 ^ w
unfolding low_bits
low-law w (pos n) = mod-add-mod n (2 ^ w) 0 ∙ ap (λ (k : ℕ). k % 2 ^ w) (add-zero n)
low-law w (negsuc n) = ap (λ (k : ℕ). k % 2 ^ w) whole ∙ add-mul-mod_self_right 0 (suc (n / 2 ^ w)) (2 ^ w)
  where
    whole : 2 ^ w - 1 - n % 2 ^ w + suc n ≡ 0 + suc (n / 2 ^ w) * 2 ^ w
    whole = omega (arith, mod-add-div' n (2 ^ w), mod-lt n (pow_pos w), suc-mul (n / 2 ^ w) (2 ^ w))

-- A number has an integer's low bits where it is congruent to it.
pub low-is : (w : ℕ) (z : ℤ) (n : ℕ) → (n + down z) % 2 ^ w ≡ up z % 2 ^ w → low_bits w z ≡ n % 2 ^ w
low-is w z n p =
    sym (mod-eq_of_lt (low-lt w z)) ∙ cancel (2 ^ w) (pow_pos w) (low_bits w z) n (down z) (low-law w z ∙ sym p)

-- The same, where the integer is the difference of a and b.
low_by : (w : ℕ) {z : ℤ} {a b : ℕ} (n : ℕ) → Difference z a b → (n + b) % 2 ^ w ≡ a % 2 ^ w → low_bits w z ≡ n % 2 ^ w
low_by w {z} {a} {b} n d p =
    low-is w z n
    (cancel (2 ^ w) (pow_pos w) (n + down z) (up z) b
    (ap (λ (k : ℕ). k % 2 ^ w) left
    ∙ plus (2 ^ w) (pow_pos w) (n + b) a (down z) (down z) p refl
    ∙ ap (λ (k : ℕ). k % 2 ^ w) right))
  where
    left : n + down z + b ≡ n + b + down z
    left = omega arith

    right : a + down z ≡ up z + b
    right = omega (arith, d.said)

-- The low bits of a sum of integers.
pub low-add : (w : ℕ) (x y : ℤ) → low_bits w (x +ℤ y) ≡ (low_bits w x + low_bits w y) % 2 ^ w
low-add w x y =
    low_by w (low_bits w x + low_bits w y) (record { said = add-law x y })
    (ap (λ (n : ℕ). n % 2 ^ w) pairs
    ∙ plus (2 ^ w) (pow_pos w) (low_bits w x + down x) (up x) (low_bits w y + down y) (up y) (low-law w x) (low-law w y))
  where
    pairs : low_bits w x + low_bits w y + (down x + down y) ≡ low_bits w x + down x + (low_bits w y + down y)
    pairs = omega arith

-- The low bits of low bits.
lower : (w v n : ℕ) → w ≤ v → n % 2 ^ v % 2 ^ w ≡ n % 2 ^ w
lower w v n h = ap (λ (k : ℕ). n % 2 ^ k % 2 ^ w) whole ∙ mod-mod-pow n (v - w) w
  where
    whole : v ≡ v - w + w
    whole = omega (arith, h)

pub low-low : (w v : ℕ) (z : ℤ) → w ≤ v → low_bits v z % 2 ^ w ≡ low_bits w z
low-low w v z h =
    sym
    (low-is w z (low_bits v z)
    (sym (lower w v (low_bits v z + down z) h) ∙ ap (λ (n : ℕ). n % 2 ^ w) (low-law v z) ∙ lower w v (up z) h))

-- A word stands for an integer whose low bits it is, whatever number t its sign is told by.
same_low : (t w n : ℕ) → n < 2 ^ w → low_bits w (cond (ltb n t) (pos n) (negsuc (2 ^ w - suc n))) ≡ n
same_low t w n h = by (ltb n t)
  where
    whole : n + suc (2 ^ w - suc n) ≡ 2 ^ w
    whole = omega (arith, h)

    by : (c : Bool) → low_bits w (cond c (pos n) (negsuc (2 ^ w - suc n))) ≡ n
    by true = low-is w (pos n) n (ap (λ (k : ℕ). k % 2 ^ w) (add-zero n)) ∙ mod-eq_of_lt h
    by false =
        low-is w (negsuc (2 ^ w - suc n)) n (ap (λ (k : ℕ). k % 2 ^ w) whole ∙ mod_self (2 ^ w) ∙ sym (zero-mod (2 ^ w)))
        ∙ mod-eq_of_lt h

pub low_signed : (w n : ℕ) → n < 2 ^ w → low_bits w (signed w n) ≡ n
unfolding signed
low_signed w n h = same_low _ w n h

-- The sum of two words of w bits as signed numbers, reduced, is their sum as numbers, reduced.
pub sum_is : (w a b : ℕ) → a < 2 ^ w → b < 2 ^ w → sum w a b ≡ (a + b) % 2 ^ w
unfolding sum
sum_is w a b ha hb =
    low-add w (signed w a) (signed w b)
    ∙ ap (λ (n : ℕ). (n + low_bits w (signed w b)) % 2 ^ w) (low_signed w a ha)
    ∙ ap (λ (n : ℕ). (a + n) % 2 ^ w) (low_signed w b hb)

pub sum_low : (w a b : ℕ) → sum w a b < 2 ^ w
unfolding sum
sum_low w a b = low-lt w (signed w a +ℤ signed w b)

-- A sum into a register of u bits is the same for a signed register and for an unsigned one.
low-plus : (u a : ℕ) (z : ℤ) → low_bits u (pos a +ℤ z) ≡ (a + low_bits u z) % 2 ^ u
unfolding low_bits
low-plus u a z = low-add u (pos a) z ∙ mod-add-mod a (2 ^ u) (low_bits u z)

pub sum_into-is : (u w a b : ℕ) → a < 2 ^ u → sum_into u w a b ≡ low_bits u (exact_sum w a b)
unfolding sum_into exact_sum
sum_into-is u w a b ha =
    low-add u (signed u a) (signed w b)
    ∙ ap (λ (n : ℕ). (n + low_bits u (signed w b)) % 2 ^ u) (low_signed u a ha)
    ∙ sym (low-plus u a (signed w b))

pub sum_into-low : (u w a b : ℕ) → sum_into u w a b < 2 ^ u
unfolding sum_into
sum_into-low u w a b = low-lt u (signed u a +ℤ signed w b)

-- The code: a result r at 32 bits, and a remainder at w bits.
-- Of a sum that wrapped at 32 bits, the low w bits are the sum's.
pub wrapped : (w n : ℕ) → w ≤ 32 → n % 2 ^ 32 % 2 ^ w ≡ n % 2 ^ w
wrapped w n h = lower w 32 n h

-- The sum of two numbers, and of two signed words.
pub plus-code : (w n : ℕ) {r : ℕ} → w ≤ 32 → r ≡ n % 2 ^ 32 → r % 2 ^ w ≡ low_bits w (pos n)
unfolding low_bits
plus-code w n h e = ap (λ (k : ℕ). k % 2 ^ w) e ∙ wrapped w n h

pub sum-code : (w a b : ℕ) {r : ℕ} → w ≤ 32 → a < 2 ^ w → b < 2 ^ w → r ≡ (a + b) % 2 ^ 32 → r % 2 ^ w ≡ sum w a b
sum-code w a b h ha hb e = ap (λ (n : ℕ). n % 2 ^ w) e ∙ wrapped w (a + b) h ∙ sym (sum_is w a b ha hb)

-- A difference of numbers.
pub minus-code : (w n k r : ℕ) → w ≤ 32 → (r + k) % 2 ^ 32 ≡ n → r % 2 ^ w ≡ low_bits w (pos n -ℤ pos k)
minus-code w n k r h e =
    sym
    (low_by w r (is-difference n k refl) (sym (wrapped w (r + k) h) ∙ ap (λ (m : ℕ). m % 2 ^ w) e))

-- A signed word of w bits, extended to 32, added into a register of u bits.
pub into-code : (u w a b : ℕ) {x r : ℕ} → u ≤ 32 → x ≡ extended w 32 b → r ≡ (a + x) % 2 ^ 32 → r % 2 ^ u ≡ low_bits u (exact_sum w a b)
unfolding extended exact_sum
into-code u w a b {x} h p e =
    ap (λ (n : ℕ). n % 2 ^ u)
    (e ∙ ap (λ (n : ℕ). (a + n) % 2 ^ 32) p ∙ sym (low-plus 32 a (signed w b)))
    ∙ low-low u 32 (pos a +ℤ signed w b) h

-- The low w bits of a signed word of v bits times a number are those of the product of the word itself.
pub low-times : (w v k n : ℕ) → w ≤ v → k < 2 ^ v → low_bits w (signed v k *ℤ pos n) ≡ k * n % 2 ^ w
unfolding signed low_bits
low-times w v k n h l = by (ltb k (2 ^ (v - 1)))
  where
    taken : ℕ
    taken = suc (2 ^ v - suc k) * n

    all : k + suc (2 ^ v - suc k) ≡ 2 ^ v
    all = omega (arith, l)

    split : 2 ^ v ≡ 2 ^ (v - w) * 2 ^ w
    split = ap (λ (x : ℕ). 2 ^ x) (omega (arith, h)) ∙ pow-add 2 (v - w) w

    whole : k * n + taken ≡ n * 2 ^ (v - w) * 2 ^ w
    whole = sym (add-mul k (suc (2 ^ v - suc k)) n) ∙ ap (λ (x : ℕ). x * n) (all ∙ split) ∙ mul_comm _ n ∙ sym (mul_assoc n (2 ^ (v - w)) (2 ^ w))

    by : (c : Bool) → low_bits w (cond c (pos k) (negsuc (2 ^ v - suc k)) *ℤ pos n) ≡ k * n % 2 ^ w
    by true = refl
    by false =
        low-is w (neg_ℤ (pos taken)) (k * n)
        (ap (λ (x : ℕ). (k * n + x) % 2 ^ w) (neg-down taken)
        ∙ ap (λ (x : ℕ). x % 2 ^ w) (whole ∙ sym (zero-add (n * 2 ^ (v - w) * 2 ^ w)))
        ∙ add-mul-mod_self_right 0 (n * 2 ^ (v - w)) (2 ^ w)
        ∙ ap (λ (x : ℕ). x % 2 ^ w) (sym (neg-up taken)))
