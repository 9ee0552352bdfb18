-- A number that is printed with digits enough is read as that number: each digit that printing puts, reading takes back.
-- Assumes nothing.
use mathlib.Core.Path.{◌≡◌, refl, sym, ap, ◌∙◌}
use mathlib.Core.Logic.{◌≢◌}
use mathlib.Core.Bool.{Bool, true, false, cond, ◌&&◌}
use mathlib.Core.List.{List, [], ◌∷◌, ◌++◌}
use Prim.Native.Nat.{ℕ, zero, suc, ◌+◌, ◌*◌, ◌/◌, ◌%◌, ◌^◌, ◌<◌, ◌≤◌}
use Prim.Native.Char.{code}
use native.Mathlib.Omega.{arith}
use native.Mathlib.Nat.{pow-suc}
use borrow.Author.Tests.{ltb-true, ltb-false, lt-ltb, le-leb, eqb-true, eqb-false, ne_eqb}
use lib.Dec.{eqb, ltb, lit<}
use lib.ListN.{length, get_or, length-append}
use Rattle.base_lists.proofs.Below.{and_first, and_second, and_both}
use Rattle.layout.specs.Widths.{counter_bits}
use Rattle.file_printed.specs.Text.{digits, decimal}
use Rattle.file_numbers.specs.Numbers.{digit_value, all_digits, written_after, number_in, leading_zero, decimal_in}
use Rattle.std.specs.Prelude.{Some}

-- A file of digits that writes n, and begins with 0 only if it is that digit alone.
record Writes (n : ℕ) (file : List ℕ) : Type 0 where
  all : all_digits 10 file ≡ true
  number : written_after 10 0 file ≡ n
  some : 0 < length file
  alone : n ≡ 0 → length file ≡ 1
  first : n ≢ 0 → get_or file 0 0 ≢ code "0"

digit_value_lem : (d : ℕ) → d < 10 → digit_value (code "0" + d) ≡ d
unfolding digit_value
digit_value_lem d h = rw (le-leb 48 (48 + d) (omega arith), le-leb (48 + d) 57 (omega arith)) (omega arith)

digit-all : (d : ℕ) → d < 10 → all_digits 10 ((code "0" + d) ∷ []) ≡ true
unfolding all_digits
digit-all d h = rw (digit_value_lem d h, lt-ltb d 10 h)

digit-number : (d n : ℕ) → d < 10 → written_after 10 n ((code "0" + d) ∷ []) ≡ n * 10 + d
unfolding written_after
digit-number d n h = rw (digit_value_lem d h)

one-digit : (n : ℕ) → n < 10 → Writes n ((code "0" + n) ∷ [])
one-digit n h =
    record {
      all = digit-all n h;
      number = digit-number n 0 h ∙ omega arith;
      some = lit< tt;
      alone = λ e. refl;
      first = λ p q. p (omega arith);
    }

-- A file with one more after it.
all_more : (more file : List ℕ) → all_digits 10 file ≡ true → all_digits 10 more ≡ true → all_digits 10 (file ++ more) ≡ true
unfolding all_digits
all_more more [] p q = q
all_more more (x ∷ file) p q =
    let digit = ltb (digit_value x) 10 in
    and_both digit (all_digits 10 (file ++ more)) (and_first digit (all_digits 10 file) p) (all_more more file (and_second digit (all_digits 10 file) p) q)

number_more : (more file : List ℕ) (n : ℕ) → written_after 10 n (file ++ more) ≡ written_after 10 (written_after 10 n file) more
unfolding written_after
number_more more [] n = refl
number_more more (x ∷ file) n = number_more more file (n * 10 + digit_value x)

first_more : (more file : List ℕ) → 0 < length file → get_or (file ++ more) 0 0 ≡ get_or file 0 0
first_more more [] h = absurd (omega arith)
first_more more (x ∷ file) h = refl

more-digits : (n : ℕ) (file : List ℕ) → 10 ≤ n → Writes (n / 10) file → Writes n (file ++ ((code "0" + n % 10) ∷ []))
more-digits n file h w =
    let last = (code "0" + n % 10) ∷ [] in
    record {
      all = all_more last file w.all (digit-all (n % 10) (omega arith));
      number =
          number_more last file 0 ∙ digit-number (n % 10) (written_after 10 0 file) (omega arith)
          ∙ ap (λ (k : ℕ). k * 10 + n % 10) w.number ∙ omega arith;
      some = omega (arith, length-append file last, w.some);
      alone = λ e. absurd (omega arith);
      first = λ p q. w.first (λ z. omega arith) (sym (first_more last file w.some) ∙ q);
    }

digits-write : (k n : ℕ) → n < 10 ^ suc k → Writes n (digits (suc k) n)
unfolding digits
digits-write zero n h = let l : n < 10 = omega arith in rw (lt-ltb n 10 l) (one-digit n l)
digits-write (suc k) n h = go (ltb n 10) refl (digits-write k (n / 10) (omega (arith, h, pow-suc 10 (suc k)))) where
  go : (b : Bool) → ltb n 10 ≡ b → Writes (n / 10) (digits (suc k) (n / 10))
      → Writes n (cond b ((code "0" + n) ∷ []) (digits (suc k) (n / 10) ++ ((code "0" + n % 10) ∷ [])))
  go true e w = one-digit n (ltb-true n 10 e)
  go false e w = more-digits n (digits (suc k) (n / 10)) (ltb-false n 10 e) w

no-leading-zero : (n : ℕ) (file : List ℕ) → Writes n file → leading_zero file ≡ false
unfolding leading_zero
no-leading-zero n file w = go (eqb n 0) refl where
  go : (b : Bool) → eqb n 0 ≡ b → (eqb (get_or file 0 0) (code "0") && ltb 1 (length file)) ≡ false
  go true e = rw (w.alone (eqb-true n 0 e)) (short (eqb (get_or file 0 0) (code "0")))
    where
      short : (b : Bool) → (b && false) ≡ false
      short true = refl
      short false = refl
  go false e = rw (ne_eqb (get_or file 0 0) (code "0") (w.first (eqb-false n 0 e)))

-- Ten digits are enough for 32 bits.
module _ (n : ℕ) (h : n < 2 ^ counter_bits) where
  pub decimal-digits : all_digits 10 (decimal n) ≡ true
  decimal-digits = (digits-write 9 n (omega arith)).all

  pub printed-below : (limit : ℕ) → n < limit → decimal_in limit (decimal n) ≡ Some n
  unfolding decimal_in number_in
  printed-below limit l =
      let w = digits-write 9 n (omega arith) in
      rw (ne_eqb (length (digits 10 n)) 0 (λ e. omega (arith, w.some)), no-leading-zero n (digits 10 n) w, w.all, w.number, lt-ltb n limit l)

  pub number-printed : decimal_in (2 ^ counter_bits) (decimal n) ≡ Some n
  number-printed = printed-below (2 ^ counter_bits) h
