-- What a digit more does to the number that digits write, and the ways a text is a number or none.
-- Assumes nothing.
use mathlib.Core.Path.{◌≡◌, refl, sym, ◌∙◌}
use mathlib.Core.List.{List, [], ◌∷◌}
use mathlib.Core.Bool.{Bool, true, false, ◌&&◌}
use Prim.Native.Nat.{ℕ, ◌+◌, ◌-◌, ◌*◌, ◌≤◌, ◌<◌, ◌^◌}
use Prim.Native.Char.{code}
use borrow.Author.Tests.{eq-eqb, ne_eqb, le-leb, lt-leb, lt-ltb, le-ltb}
use native.Mathlib.Omega.{arith}
use native.Mathlib.Nat.{mul-le-mul_left, mul-one}
use lib.Dec.{eqb, leb}
use lib.ListN.{length, get_or, drop, drop_of_length-le}
use Rattle.file_bytes.proofs.Searches.{next}
use Rattle.file_numbers.specs.Numbers.{digit_value, all_digits, written_after, number_in, leading_zero, decimal_in, hexadecimal_in}
use Rattle.std.specs.Prelude.{Option, Some, None}

-- A test that fails in its second part fails.
pub and-false : (a : Bool) {b : Bool} → b ≡ false → (a && b) ≡ false
and-false true e = e
and-false false e = refl

-- Digits: 0 to 9, A to F, and other bytes.
pub digit-decimal : (b : ℕ) → code "0" ≤ b → b ≤ code "9" → b - code "0" ≡ digit_value b
unfolding digit_value
digit-decimal b h g = simp (le-leb (code "0") b h, le-leb b (code "9") g)

module _ (b : ℕ) (o : code "9" < b) where
  past : (leb (code "0") b && leb b (code "9")) ≡ false
  past = and-false (leb (code "0") b) (lt-leb b (code "9") o)

  pub digit-capital : code "A" ≤ b → b ≤ code "F" → b - code "A" + 10 ≡ digit_value b
  unfolding digit_value
  digit-capital h g = rw (past, le-leb (code "A") b h, le-leb b (code "F") g)

  pub digit-above : code "F" < b → 16 ≡ digit_value b
  unfolding digit_value
  digit-above g = rw (past, and-false (leb (code "A") b) (lt-leb b (code "F") g))

  pub digit-between : b < code "A" → 16 ≡ digit_value b
  unfolding digit_value
  digit-between g = rw (past, lt-leb (code "A") b g)

pub digit-below : (b : ℕ) → b < code "0" → 16 ≡ digit_value b
unfolding digit_value
digit-below b g = let h : b < code "A" = omega arith in rw (lt-leb (code "0") b g, lt-leb (code "A") b h)

module _ (l : List ℕ) (i : ℕ) where
  pub digits-end : (b : ℕ) → length l ≤ i → all_digits b (drop i l) ≡ true
  unfolding all_digits
  digits-end b h = rw (drop_of_length-le l h)

  pub written-end : (b v : ℕ) → length l ≤ i → written_after b v (drop i l) ≡ v
  unfolding written_after
  written-end b v h = rw (drop_of_length-le l h)

  module _ (h : i < length l) where
    pub digits-stop : (b : ℕ) → b ≤ digit_value (get_or l i 0) → all_digits b (drop i l) ≡ false
    unfolding all_digits
    digits-stop b e = rw (next l i h, le-ltb (digit_value (get_or l i 0)) b e)

    pub digits-on : (b : ℕ) → digit_value (get_or l i 0) < b → all_digits b (drop i l) ≡ all_digits b (drop (i + 1) l)
    unfolding all_digits
    digits-on b e = rw (next l i h, lt-ltb (digit_value (get_or l i 0)) b e)

    pub written_on : (b v : ℕ) → written_after b v (drop i l) ≡ written_after b (v * b + digit_value (get_or l i 0)) (drop (i + 1) l)
    unfolding written_after
    written_on b v = rw (next l i h)

-- More digits make no smaller number.
pub written_grows : (b v : ℕ) (l : List ℕ) → 0 < b → v ≤ written_after b v l
unfolding written_after
written_grows b v [] h = omega arith
written_grows b v (c ∷ l) h =
    let g = written_grows b (v * b + digit_value c) l h in
    let p : v * 1 ≤ v * b = mul-le-mul_left v h in
    omega (arith, mul-one v)

-- None number: another byte than a digit, or too large; and a number.
pub number-none : (b limit : ℕ) (l : List ℕ) → all_digits b l ≡ false → number_in b limit l ≡ None
unfolding number_in
number-none b limit l e = rw e

pub number-large : (b limit : ℕ) (l : List ℕ) → limit ≤ written_after b 0 l → number_in b limit l ≡ None
unfolding number_in
number-large b limit l h = rw (and-false (all_digits b l) (le-ltb (written_after b 0 l) limit h))

pub number_is : (b limit v : ℕ) (l : List ℕ) → all_digits b l ≡ true → written_after b 0 l ≡ v → v < limit → number_in b limit l ≡ Some v
unfolding number_in
number_is b limit v l d e h = rw (d, e, lt-ltb v limit h)

-- A decimal number: empty, with a leading zero, or by its digits.
pub short-zero : (l : List ℕ) → length l ≤ 1 → false ≡ leading_zero l
unfolding leading_zero
short-zero l h = sym (and-false (eqb (get_or l 0 0) (code "0")) (le-ltb 1 (length l) h))

pub long-zero : (l : List ℕ) → 1 < length l → eqb (get_or l 0 0) (code "0") ≡ leading_zero l
unfolding leading_zero
long-zero l h = rw (lt-ltb 1 (length l) h) (same-with (eqb (get_or l 0 0) (code "0")))
  where
    same-with : (b : Bool) → b ≡ (b && true)
    same-with true = refl
    same-with false = refl

pub decimal-empty : (limit : ℕ) (l : List ℕ) → length l ≡ 0 → None ≡ decimal_in limit l
unfolding decimal_in
decimal-empty limit l e = rw (eq-eqb (length l) 0 e)

module _ (limit : ℕ) (l : List ℕ) (some : length l ≡ 0 → ⊥) {z : Bool} (e : z ≡ leading_zero l) where
  pub decimal-zero : z ≡ true → None ≡ decimal_in limit l
  unfolding decimal_in
  decimal-zero t = rw (ne_eqb (length l) 0 some, sym e ∙ t)

  pub decimal-by : z ≡ false → {n : Option ℕ} → n ≡ number_in 10 limit l → n ≡ decimal_in limit l
  unfolding decimal_in
  decimal-by f g = rw (ne_eqb (length l) 0 some, sym e ∙ f) g

pub hexadecimal-by : (l : List ℕ) → length l ≡ 8 → {n : Option ℕ} → n ≡ number_in 16 (2 ^ 32) l → n ≡ hexadecimal_in l
unfolding hexadecimal_in
hexadecimal-by l e g = rw (eq-eqb (length l) 8 e) g

pub hexadecimal-none : (l : List ℕ) → (length l ≡ 8 → ⊥) → None ≡ hexadecimal_in l
unfolding hexadecimal_in
hexadecimal-none l n = rw (ne_eqb (length l) 8 n)
