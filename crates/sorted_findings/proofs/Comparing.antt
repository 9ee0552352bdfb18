-- What is printed of a machine and two orders, by what the code finds.
-- Assumes nothing.
use mathlib.Core.Path.{◌≡◌, refl, sym, ap, ◌∙◌}
use mathlib.Core.Logic.{◌≢◌}
use mathlib.Core.List.{List, [], ◌∷◌, ◌++◌}
use Prim.Native.Nat.{ℕ, ◌+◌, ◌*◌, ◌-◌, ◌≤◌}
use native.Mathlib.Omega.{arith}
use native.Mathlib.Nat.{zero-add, sub-zero}
use borrow.Author.Tests.{eqb-true, eq-eqb, ne_eqb}
use lib.Dec.{eqb}
use lib.ListN.{length, take, replicate, length-append}
use lib.Seq.{sets}
use Rattle.std.specs.Prelude.{Option, Some, None, Ok}
use Rattle.base_lists.specs.Lists.{zeros}
use Rattle.base_lists.proofs.Choices.{of-cond, of_test}
use Rattle.layout.specs.Layout.{machine_length, generators}
use Rattle.layout.specs.Machine.{Machine, Order, Items, ticks_of}
use Rattle.layout_texts.specs.declared.Text.{Text}
use Rattle.base_questions.specs.Questions.{asked}
use Rattle.base_questions.specs.Refusals.{number_of}
use Rattle.sorted_findings.specs.declared.Refused.{Refused}
use Rattle.sorted_findings.specs.declared.Refused.TheVariants.{Bench, OrderFile}
use Rattle.machine.specs.Questions.{question1, question2}
use Rattle.base_sequences.specs.Sequences.{by_number}
use Rattle.base_sequences.proofs.ByNumber.{by-number-length, first-entries}
use Rattle.compare.proofs.Asked.{refused-first}
use Rattle.parts.specs.Parts.{Parting, parting_of, parts_of}
use Rattle.parts.specs.declared.Parted.{Parted}
use Rattle.parts.proofs.Answers.{is-ready, refused-compare, parts-number}
use Rattle.parts_shown.specs.Shown.{difference_shown}
use Rattle.file_bytes.proofs.Puts.{done, then}
use Rattle.file_printed.specs.Text.{line_bytes, refusal_line}
use Rattle.file_printed.proofs.Lines.{refusal-line-length, order-refusal-line-length}
use Rattle.sorted_lines.specs.SortedLines.{order_lines, equal_line, failing_line, entry_bytes}
use Rattle.sorted_lines.proofs.Lines.{order-lines-length, failing-line-length}
use Rattle.sorted_findings.specs.Findings.{refused_line, parting_from, found_line, compared_lines, findings_room}

-- The line of what is refused has room in its buffer.
pub refused-line-length : (r : Refused) → length (refused_line r) ≤ line_bytes
refused-line-length (Bench refusal) = omega (arith, refusal-line-length (number_of refusal))
refused-line-length (OrderFile refusal) = omega (arith, order-refusal-line-length (number_of refusal))

-- No question refuses what the call answers.
pub none-number : (parted : Option Parted) (contents : Machine) (items : Items) → (parting_of (Ok parted) contents items).number ≡ 0
none-number (Some p) contents items = refl
none-number None contents items = refl

-- The line of what was found: that of equal orders, or of a point.
module _ (text : Text) (o₁ o₂ : Order) (p : Parting) where
  pub found-equal : p.point ≡ 0 → found_line text o₁ o₂ p ≡ equal_line
  unfolding found_line
  found-equal e = rw (eq-eqb p.point 0 e)

  pub found-failing : p.point ≢ 0 → found_line text o₁ o₂ p ≡ failing_line p.point p.place (difference_shown text p.contents p.items o₁ o₂)
  unfolding found_line
  found-failing h = rw (ne_eqb p.point 0 h)

  found-length : length (found_line text o₁ o₂ p) ≤ line_bytes
  unfolding found_line
  found-length =
      of-cond (λ (l : List ℕ). length l ≤ line_bytes) (eqb p.point 0) {x = equal_line} (omega arith)
      (omega (arith, failing-line-length p.point p.place (difference_shown text p.contents p.items o₁ o₂)))

module _ (text : Text) (m : Machine) (order : Order) where
  compared-refused : (parting_from text m order).number ≢ 0 → compared_lines text m order ≡ refusal_line (parting_from text m order).number
  unfolding compared_lines
  compared-refused h = rw (ne_eqb (parting_from text m order).number 0 h)

  compared-found : (parting_from text m order).number ≡ 0 → compared_lines text m order ≡ order_lines order ++ found_line text (by_number (ticks_of m)) order (parting_from text m order)
  unfolding compared_lines
  compared-found e = rw (eq-eqb (parting_from text m order).number 0 e)

  -- Questions 1 and 2 of the machine are asked first.
  pub first-asked : {n : ℕ} → n ≡ asked (question1 m ∷ question2 text m ∷ []) → n ≢ 0 → compared_lines text m order ≡ refusal_line n
  first-asked {n} e h =
      let numbers = by_number (ticks_of m) in
      let is : n ≡ (parting_from text m order).number =
      refused-compare text m numbers order (zeros machine_length) (zeros generators) (refused-first text m numbers order e h) h
      ∙ sym (parts-number text m numbers order (zeros machine_length) (zeros generators)) in
      compared-refused (λ z. h (is ∙ z)) ∙ ap refusal_line (sym is)

  -- A second order that is not refused has at most 256 entries.
  few-entries : (parting_from text m order).number ≡ 0 → length order ≤ generators
  few-entries passed =
      let numbers = by_number (ticks_of m) in
      let ready = is-ready text m numbers order (zeros machine_length) (zeros generators) (sym (parts-number text m numbers order (zeros machine_length) (zeros generators)) ∙ passed) in
      omega (arith, ready.ordered.1.entries, ready.traceable.ticks)

  -- All that is printed has room.
  pub compared-length : length (compared_lines text m order) ≤ findings_room
  unfolding compared_lines
  compared-length =
      let p = parting_from text m order in
      let found = found_line text (by_number (ticks_of m)) order p in
      of_test (λ (l : List ℕ). length l ≤ findings_room) (eqb p.number 0)
      (λ t. omega (arith, length-append (order_lines order) found, order-lines-length order, few-entries (eqb-true p.number 0 t), found-length text (by_number (ticks_of m)) order p))
      (λ f. omega (arith, refusal-line-length p.number))

  -- As the code has it: what the call answers, about the order by number.
  module _ {first : Order} (by_number_lem : first ≡ by_number (ticks_of m)) {p : Parting}
      (parted : p ≡ parts_of text m first order (replicate machine_length 0) (replicate generators 0)) where
    is-parting : p ≡ parting_from text m order
    unfolding zeros
    is-parting = parted ∙ ap (λ (o : Order). parts_of text m o order (replicate machine_length 0) (replicate generators 0)) by_number_lem

    pub says-refused : p.number ≢ 0 → compared_lines text m order ≡ refusal_line p.number
    says-refused h =
        compared-refused (λ z. h (ap (λ (q : Parting). q.number) is-parting ∙ z)) ∙ ap (λ (q : Parting). refusal_line q.number) (sym is-parting)

    module _ (none : p.number ≡ 0) where
      passed : (parting_from text m order).number ≡ 0
      passed = sym (ap (λ (q : Parting). q.number) is-parting) ∙ none

      says-found : compared_lines text m order ≡ order_lines order ++ found_line text first order p
      says-found = compared-found passed ∙ rw (is-parting, by_number_lem)

      -- The order has at most 256 entries, so its lines and one more have room.
      few : length order ≤ generators
      few = few-entries passed

      pub lines-room : entry_bytes * length order ≤ findings_room
      lines-room = omega (arith, few)

      pub line-room : {at : ℕ} → at ≡ length (order_lines order) → at + line_bytes ≤ findings_room
      line-room e = omega (arith, e, order-lines-length order, few)

      pub says_both : (out : List ℕ) {at end : ℕ} {out₁ out₂ : List ℕ} → (at ≡ length (order_lines order)) × (out₁ ≡ sets out 0 (order_lines order))
          → (end ≡ at + length (found_line text first order p)) × (out₂ ≡ sets out₁ at (found_line text first order p))
          → (end ≡ length (compared_lines text m order)) × (out₂ ≡ sets out 0 (compared_lines text m order))
      says_both out (ea, eo) found =
          let both = then out 0 (order_lines order) (found_line text first order p) (done (ea ∙ sym (zero-add _), eo)) (done found) in
          rw says-found (both.ends ∙ zero-add _, both.leaves)

-- The first T entries of the order by number of 256 generators are that of T.
module _ (m : Machine) (few : ticks_of m ≤ generators) {numbers : Order} {t : ℕ} (all : numbers ≡ by_number 256) (et : t ≡ ticks_of m) where
  pub numbers-part : take (t - 0) numbers ≡ by_number (ticks_of m)
  numbers-part = rw (sub-zero, all, et) (first-entries (ticks_of m) 256 few)

  pub numbers-within : t ≤ length numbers
  numbers-within = omega (arith, et, few, by-number-length 256, ap length all)
