-- Laws of text in a line: one text after another, and how long each may be.
-- Assumes nothing.
use mathlib.Core.Path.{◌≡◌, refl, ap, ◌∙◌}
use mathlib.Core.List.{List, [], ◌∷◌, ◌++◌}
use Prim.Native.Nat.{ℕ, zero, suc, ◌+◌, ◌-◌, ◌/◌, ◌%◌, ◌^◌, ◌≤◌, ◌<◌}
use Prim.Native.Char.{code}
use borrow.Author.Tests.{lt-ltb, le-ltb}
use native.Mathlib.Omega.{arith}
use native.Mathlib.Nat.{zero-add}
use lib.Dec.{ltb}
use lib.ListN.{length, set, length-append}
use lib.Seq.{sets}
use Rattle.base_lists.proofs.Choices.{of-cond}
use Rattle.file_bytes.proofs.Puts.{Put, done, then}
use Rattle.file_printed.specs.Text.{digits, decimal, named, minus, signed_decimal, pass_text, left_text, right_text, refused_text, order_refused_text, newline, pass_line, refusal_line, order_refusal_line}

pub digits-none : (k n : ℕ) → k ≡ 0 → digits k n ≡ []
unfolding digits
digits-none k n e = rw e

module _ (k n : ℕ) (h : k ≡ 0 → ⊥) where
  some : k ≡ suc (k - 1)
  some = omega arith

  pub digits-small : n < 10 → digits k n ≡ (code "0" + n) ∷ []
  unfolding digits
  digits-small l = ap (λ (j : ℕ). digits j n) some ∙ rw (lt-ltb n 10 l)

  pub digits-large : 10 ≤ n → digits k n ≡ digits (k - 1) (n / 10) ++ ((code "0" + n % 10) ∷ [])
  unfolding digits
  digits-large l = ap (λ (j : ℕ). digits j n) some ∙ rw (le-ltb n 10 l)

-- A number has at most as many digits as it is given.
pub digits-length : (k n : ℕ) → length (digits k n) ≤ k
unfolding digits
digits-length zero n = omega arith
digits-length (suc k) n =
    of-cond (λ l. length l ≤ suc k) (ltb n 10) {x = (code "0" + n) ∷ []} {y = digits k (n / 10) ++ ((code "0" + n % 10) ∷ [])} (omega arith)
    (let h = digits-length k (n / 10) in omega (arith, length-append (digits k (n / 10)) ((code "0" + n % 10) ∷ [])))

pub named-length : (name : List ℕ) (n : ℕ) → length (named name n) ≤ length name + 10
unfolding named
named-length name n = omega (arith, length-append name (digits 10 n), digits-length 10 n)

pub signed-length : (n : ℕ) → length (signed_decimal n) ≤ 11
unfolding signed_decimal
signed-length n =
    of-cond (λ l. length l ≤ 11) (ltb n (2 ^ 19)) {x = digits 10 n} {y = minus ++ digits 10 (2 ^ 20 - n)}
    (omega (arith, digits-length 10 n)) (omega (arith, digits-length 10 (2 ^ 20 - n)))

-- Where they end, at most.
pub digits-end : (at k n : ℕ) {i : ℕ} → i ≡ at + length (digits k n) → i ≤ at + k
digits-end at k n e = omega (arith, e, digits-length k n)

pub named_end : (at : ℕ) (name : List ℕ) (n : ℕ) {i : ℕ} → i ≡ at + length (named name n) → i ≤ at + length name + 10
named_end at name n e = omega (arith, e, named-length name n)

pub signed-end : (at n : ℕ) {i : ℕ} → i ≡ at + length (signed_decimal n) → i ≤ at + 11
signed-end at n e = omega (arith, e, signed-length n)

-- A line fits its buffer.
pub pass-line-length : (counter left right : ℕ) → length (pass_line counter left right) ≤ 51
unfolding pass_line
pass-line-length counter left right =
    simp length-append (omega (arith, named-length pass_text counter, signed-length left, signed-length right))

pub refusal-line-length : (n : ℕ) → length (refusal_line n) ≤ 19
unfolding refusal_line
refusal-line-length n = simp length-append (omega (arith, named-length refused_text n))

pub order-refusal-line-length : (n : ℕ) → length (order_refusal_line n) ≤ 25
unfolding order_refusal_line
order-refusal-line-length n = simp length-append (omega (arith, named-length order_refused_text n))

-- The digits of n as the code puts them: none, one, or those of n / 10 and one more.
module _ (d : List ℕ) (at k n : ℕ) where
  pub put-none : k ≡ 0 → (at ≡ at + length (digits k n)) × (d ≡ sets d at (digits k n))
  put-none e = rw (digits-none k n e) (omega arith, refl)

  module _ (h : k ≡ 0 → ⊥) where
    pub put_small : n < 10 → (at + 1 ≡ at + length (digits k n)) × (set d at (code "0" + n) ≡ sets d at (digits k n))
    put_small l = rw (digits-small k n h l) (refl, refl)

    pub put-large : 10 ≤ n → {i : ℕ} {e : List ℕ} → (i ≡ at + length (digits (k - 1) (n / 10))) × (e ≡ sets d at (digits (k - 1) (n / 10)))
        → (i + 1 ≡ at + length (digits k n)) × (set e i (code "0" + n % 10) ≡ sets d at (digits k n))
    put-large l p =
        let q = then d at (digits (k - 1) (n / 10)) ((code "0" + n % 10) ∷ []) (done p) (record { ends = refl; leaves = refl }) in
        rw (digits-large k n h l) (q.ends, q.leaves)

-- A name and a number as the code puts them: one after the other.
pub put-named : (d : List ℕ) (at : ℕ) (name : List ℕ) (n : ℕ) {i j : ℕ} {e f : List ℕ} → Put d at name i e → Put e i (decimal n) j f
    → (j ≡ at + length (named name n)) × (f ≡ sets d at (named name n))
unfolding named
put-named d at name n p q = let r = then d at name (decimal n) p q in (r.ends, r.leaves)

-- A signed number as the code puts it: its digits, or a minus sign and the digits of its magnitude.
module _ (d : List ℕ) (at n : ℕ) where
  pub put-positive : n < 524288 → {i : ℕ} {e : List ℕ} → (i ≡ at + length (digits 10 n)) × (e ≡ sets d at (digits 10 n))
      → (i ≡ at + length (signed_decimal n)) × (e ≡ sets d at (signed_decimal n))
  unfolding signed_decimal
  put-positive l p = rw (lt-ltb n 524288 l) p

  pub put-negative : 524288 ≤ n → {i j : ℕ} {e f : List ℕ} → Put d at minus i e → Put e i (digits 10 (1048576 - n)) j f
      → (j ≡ at + length (signed_decimal n)) × (f ≡ sets d at (signed_decimal n))
  unfolding signed_decimal
  put-negative l p q =
      let r = then d at minus (digits 10 (1048576 - n)) p q in
      rw (le-ltb n 524288 l) (r.ends, r.leaves)

-- The six texts of a pass's line, and the two of a refusal's and of an order file's refusal.
pub put-pass : (d : List ℕ) (counter left right : ℕ) {i₁ i₂ i₃ i₄ i₅ i₆ : ℕ} {d₁ d₂ d₃ d₄ d₅ d₆ : List ℕ}
    → Put d 0 (named pass_text counter) i₁ d₁
    → Put d₁ i₁ left_text i₂ d₂
    → Put d₂ i₂ (signed_decimal left) i₃ d₃
    → Put d₃ i₃ right_text i₄ d₄
    → Put d₄ i₄ (signed_decimal right) i₅ d₅
    → Put d₅ i₅ newline i₆ d₆
    → (i₆ ≡ length (pass_line counter left right)) × (d₆ ≡ sets d 0 (pass_line counter left right))
unfolding pass_line
put-pass d counter left right p₁ p₂ p₃ p₄ p₅ p₆ =
    let q₅ = then _ _ (signed_decimal right) newline p₅ p₆ in
    let q₄ = then _ _ right_text (signed_decimal right ++ newline) p₄ q₅ in
    let q₃ = then _ _ (signed_decimal left) (right_text ++ (signed_decimal right ++ newline)) p₃ q₄ in
    let q₂ = then _ _ left_text (signed_decimal left ++ (right_text ++ (signed_decimal right ++ newline))) p₂ q₃ in
    let q₁ = then d 0 (named pass_text counter) (left_text ++ (signed_decimal left ++ (right_text ++ (signed_decimal right ++ newline)))) p₁ q₂ in
    (q₁.ends ∙ zero-add _, q₁.leaves)

pub put-refusal : (d : List ℕ) (n : ℕ) {i₁ i₂ : ℕ} {d₁ d₂ : List ℕ} → Put d 0 (named refused_text n) i₁ d₁ → Put d₁ i₁ newline i₂ d₂
    → (i₂ ≡ length (refusal_line n)) × (d₂ ≡ sets d 0 (refusal_line n))
unfolding refusal_line
put-refusal d n p₁ p₂ = let q₁ = then d 0 (named refused_text n) newline p₁ p₂ in (q₁.ends ∙ zero-add _, q₁.leaves)

pub put-order-refusal : (d : List ℕ) (n : ℕ) {i₁ i₂ : ℕ} {d₁ d₂ : List ℕ} → Put d 0 (named order_refused_text n) i₁ d₁ → Put d₁ i₁ newline i₂ d₂
    → (i₂ ≡ length (order_refusal_line n)) × (d₂ ≡ sets d 0 (order_refusal_line n))
unfolding order_refusal_line
put-order-refusal d n p₁ p₂ = let q = then d 0 (named order_refused_text n) newline p₁ p₂ in (q.ends ∙ zero-add _, q.leaves)
