-- What an argument asks for, and what an order that was filled in is.
-- Assumes nothing.
use mathlib.Core.Path.{◌≡◌, refl, sym, ap, ◌∙◌}
use mathlib.Core.Logic.{◌≢◌}
use mathlib.Core.Bool.{Bool, true, false}
use mathlib.Core.List.{List}
use Prim.Native.Nat.{ℕ, ◌≤◌}
use native.Mathlib.Omega.{arith}
use borrow.Author.Tests.{eq-eqb, ne_eqb, eqb-true, eqb-false}
use lib.Dec.{eqb}
use lib.ListN.{length, take, replicate, length-replicate}
use lib.Seq.{sets, length-sets}
use Rattle.base_lists.specs.Lists.{zeros}
use Rattle.base_lists.proofs.Choices.{of-cond}
use Rattle.base_lists.proofs.Zeros.{zeros-length}
use Rattle.layout.specs.Layout.{generators}
use Rattle.layout.specs.Machine.{Machine, Order, ticks_of}
use Rattle.file_bytes.specs.Bytes.{ascii, starts_with}
use Rattle.file_bytes.proofs.Puts.{first_part}
use Rattle.pass_pitch.specs.Pitch.{by_pitch}
use Rattle.pass_pitch.proofs.Sorted.{by-pitch-sorted}
use Rattle.file_order.specs.OrderFile.{OrderAnswer, is_order_file, order_of, no_order_file, read_of}
use Rattle.file_order.proofs.Answers.{number-zero, number-nine, count-within, entries-are}
use Rattle.ring_pass.specs.BenchPass.{Ordering, throughout}
use Rattle.ring_order.specs.RungOrder.{by_name, order_refusal}
use Rattle.ring_order.specs.declared.By.TheVariants.{Pitch, File}

-- An argument of another length, the one that is `-`, and one of its length that is not.
pub name-long : (name : List ℕ) → length name ≢ 1 → File ≡ by_name name
unfolding by_name
name-long name h = rw (ne_eqb (length name) 1 h)

pub name-dash : (name : List ℕ) {r : Bool} → length name ≡ 1 → r ≡ starts_with name (ascii "-") → r ≡ true → Pitch ≡ by_name name
unfolding by_name
name-dash name e s t = rw (eq-eqb (length name) 1 e, ← s, t)

pub name-other : (name : List ℕ) {r : Bool} → length name ≡ 1 → r ≡ starts_with name (ascii "-") → r ≡ false → File ≡ by_name name
unfolding by_name
name-other name e s t = rw (eq-eqb (length name) 1 e, ← s, t)

-- The order by pitch is the first T entries of what was filled.
pub pitch-part : (m : Machine) {order : Order} {t : ℕ} → ticks_of m ≤ generators → order ≡ sets (replicate generators 0) 0 (by_pitch m) → t ≡ ticks_of m → take t order ≡ by_pitch m
pitch-part m {order} {t} few filled et =
    let all = (by-pitch-sorted m).is-order.entries in
    let k : t ≡ length (by_pitch m) = omega (arith, et, all) in
    rw (k, filled) (first_part (by_pitch m) (replicate generators 0) (omega (arith, all, few, length-replicate {A = ℕ} generators 0)))

pub pitch-within : (m : Machine) {order : Order} {t : ℕ} → order ≡ sets (replicate generators 0) 0 (by_pitch m) → t ≤ generators → t ≤ length order
pitch-within m filled h = omega (arith, h, ap length filled, length-sets (replicate generators 0) 0 (by_pitch m), length-replicate {A = ℕ} generators 0)

-- One order throughout, by what it is.
pub same-order : {o₁ o₂ : Order} → o₁ ≡ o₂ → ◌≡◌ {A = Ordering} (throughout o₁) (throughout o₂)
same-order e = ap throughout e

-- The entries that were read, with those after them, are as many as there are generators.
entries-length : (file : List ℕ) → length (read_of file).entries ≡ generators
unfolding read_of no_order_file
entries-length file =
    of-cond (λ (a : OrderAnswer). length a.entries ≡ generators) (is_order_file file) (length-sets (zeros generators) 0 (order_of file) ∙ zeros-length generators) (zeros-length generators)

-- What reading an order file answers.
module _ (file : List ℕ) {a : OrderAnswer} (read : a ≡ read_of file) where
  number_is : a.number ≡ (read_of file).number
  number_is = ap (λ (b : OrderAnswer). b.number) read

  pub file-refusal : a.number ≡ order_refusal File file
  file-refusal = go (eqb (read_of file).number 0) refl
    where
      go : (b : Bool) → eqb (read_of file).number 0 ≡ b → a.number ≡ order_refusal File file
      go true e = let z = eqb-true (read_of file).number 0 e in number_is ∙ z ∙ rw (number-zero file z)
      go false e = let n = number-nine file (eqb-false (read_of file).number 0 e) in number_is ∙ n.1 ∙ rw n.0

  pub file-count : a.count ≤ length a.entries
  file-count = omega (arith, ap (λ (b : OrderAnswer). b.count) read, ap (λ (b : OrderAnswer). length b.entries) read, count-within file, entries-length file)

  pub file-order : a.number ≡ 0 → take a.count a.entries ≡ order_of file
  file-order z = ap (λ (b : OrderAnswer). take b.count b.entries) read ∙ entries-are file (number-zero file (sym number_is ∙ z))
