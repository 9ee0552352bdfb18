-- What is printed of a file, by what reading it and an order file answers.
-- Assumes nothing.
use mathlib.Core.Path.{◌≡◌, refl, sym, ap, ◌∙◌}
use mathlib.Core.Logic.{◌≢◌, ◌⊎◌, inl, inr}
use mathlib.Core.Bool.{true}
use mathlib.Core.List.{List}
use Prim.Native.Nat.{ℕ, ◌-◌, ◌≤◌}
use native.Mathlib.Omega.{arith}
use native.Mathlib.Nat.{sub-zero}
use borrow.Author.Tests.{eq-eqb, ne_eqb}
use lib.Dec.{eqb}
use lib.ListN.{length, take, replicate, length-replicate}
use lib.Seq.{sets, length-sets}
use Rattle.base_lists.specs.Lists.{zeros}
use Rattle.base_lists.proofs.Choices.{of-cond}
use Rattle.base_lists.proofs.Zeros.{zeros-length}
use Rattle.layout.specs.Layout.{generators}
use Rattle.layout.specs.Machine.{Machine, Order, ticks_of}
use Rattle.layout_texts.specs.declared.Text.{Text}
use Rattle.pass_pitch.specs.Pitch.{by_pitch}
use Rattle.pass_pitch.proofs.Sorted.{by-pitch-sorted}
use Rattle.file_order.specs.OrderFile.{OrderAnswer, is_order_file, order_of, no_order_file, read_of}
use Rattle.file_order.proofs.Answers.{number-zero, number-nine, count-within, entries-are}
use Rattle.ring_order.specs.declared.By.{By}
use Rattle.ring_order.specs.declared.By.TheVariants.{Number, Pitch, File}
use Rattle.file_bytes.proofs.Puts.{first_part}
use Rattle.file_printed.specs.Text.{refusal_line}
use Rattle.file_printed.proofs.Lines.{refusal-line-length}
use Rattle.file_bench.specs.BenchFile.{file_of, text_of, file_refusal, BenchAnswer as FileAnswer, read_of as file_read_of}
use Rattle.file_bench.proofs.WholeFile.{read_number}
use Rattle.file_printed.specs.Text.{order_refusal_line}
use Rattle.file_printed.proofs.Lines.{order-refusal-line-length}
use Rattle.sorted_findings.specs.Findings.{compared_lines, by_file_lines, second_lines, findings_of, findings_room}
use Rattle.sorted_findings.proofs.Comparing.{compared-length}

-- The order by pitch is the first T entries of what was filled.
module _ (m : Machine) (few : ticks_of m ≤ generators) {order : Order} {t : ℕ} (filled : order ≡ sets (replicate generators 0) 0 (by_pitch m)) (et : t ≡ ticks_of m) where
  pitch-length : length (by_pitch m) ≡ ticks_of m
  pitch-length = (by-pitch-sorted m).is-order.entries

  pub pitch-within : t ≤ length order
  pitch-within = omega (arith, et, few, ap length filled, length-sets (replicate generators 0) 0 (by_pitch m), length-replicate {A = ℕ} generators 0)

  pub pitch-part : take (t - 0) order ≡ by_pitch m
  pitch-part =
      let k : t - 0 ≡ length (by_pitch m) = omega (arith, et, pitch-length) in
      rw (k, filled) (first_part (by_pitch m) (replicate generators 0) (omega (arith, pitch-length, few, length-replicate {A = ℕ} generators 0)))

-- The entries that were read, with those after them, are as many as there are generators.
entries-length : (file : List ℕ) → length (read_of file).entries ≡ generators
unfolding read_of no_order_file
entries-length file =
    of-cond (λ (a : OrderAnswer). length a.entries ≡ generators) (is_order_file file) (length-sets (zeros generators) 0 (order_of file) ∙ zeros-length generators) (zeros-length generators)

-- An order file.
module _ (text : Text) (m : Machine) (file : List ℕ) {a : OrderAnswer} (read : a ≡ read_of file) where
  pub file-refused : a.number ≢ 0 → by_file_lines text m file ≡ order_refusal_line a.number
  unfolding by_file_lines
  file-refused h =
      let q = number-nine file (λ z. h (ap (λ (b : OrderAnswer). b.number) read ∙ z)) in
      rw q.0 (ap order_refusal_line (sym (ap (λ (b : OrderAnswer). b.number) read ∙ q.1)))

  pub file-within : a.count ≤ length a.entries
  file-within =
      omega (arith, ap (λ (b : OrderAnswer). b.count) read, ap (λ (b : OrderAnswer). length b.entries) read, count-within file, entries-length file)

  pub file-compared : a.number ≡ 0 → by_file_lines text m file ≡ compared_lines text m (take (a.count - 0) a.entries)
  unfolding by_file_lines
  file-compared z =
      let good = number-zero file (sym (ap (λ (b : OrderAnswer). b.number) read) ∙ z) in
      rw (sub-zero, read, entries-are file good, good)

-- A bench file.
module _ (file m room : List ℕ) {a : FileAnswer} (read : a ≡ file_read_of file m room) where
  number_is : a.number ≡ file_refusal file
  number_is = ap (λ (b : FileAnswer). b.number) read ∙ read_number file m room

  good : file_refusal file ≡ 0 → (a.text ≡ text_of (file_of file).title) × (a.machine ≡ (file_of file).machine)
  unfolding file_read_of
  good e = rw (read, eq-eqb (file_refusal file) 0 e) (refl, refl)

  pub bench-refused : a.number ≢ 0 → (by : By) (order_file : List ℕ) → findings_of file by order_file ≡ refusal_line a.number
  unfolding findings_of
  bench-refused h by order_file = rw (← number_is, ne_eqb a.number 0 h)

  module _ (z : a.number ≡ 0) where
    none : eqb (file_refusal file) 0 ≡ true
    none = eq-eqb (file_refusal file) 0 (sym number_is ∙ z)

    as_read : (a.text ≡ text_of (file_of file).title) × (a.machine ≡ (file_of file).machine)
    as_read = good (sym number_is ∙ z)

    pub bench-found : (by : By) (order_file : List ℕ) → findings_of file by order_file ≡ second_lines by a.text a.machine order_file
    unfolding findings_of
    bench-found by order_file = rw (none, as_read.0, as_read.1)

-- By number or by pitch it is the order by pitch that is printed.
pub pitch-lines : {by : By} (text : Text) (m : Machine) (order_file : List ℕ) → (by ≡ Number) ⊎ (by ≡ Pitch) → second_lines by text m order_file ≡ compared_lines text m (by_pitch m)
pitch-lines text m order_file (inl e) = rw e refl
pitch-lines text m order_file (inr e) = rw e refl

-- All that is printed has room in its buffer.
by-file-length : (text : Text) (m : Machine) (file : List ℕ) → length (by_file_lines text m file) ≤ findings_room
unfolding by_file_lines
by-file-length text m file =
    of-cond (λ (l : List ℕ). length l ≤ findings_room) (is_order_file file) (compared-length text m (order_of file)) (omega (arith, order-refusal-line-length 9))

second-length : (by : By) (text : Text) (m : Machine) (order : List ℕ) → length (second_lines by text m order) ≤ findings_room
second-length Number text m order = compared-length text m (by_pitch m)
second-length Pitch text m order = compared-length text m (by_pitch m)
second-length File text m order = by-file-length text m order

findings-length : (file : List ℕ) (by : By) (order : List ℕ) → length (findings_of file by order) ≤ findings_room
unfolding findings_of
findings-length file by order =
    of-cond (λ (l : List ℕ). length l ≤ findings_room) (eqb (file_refusal file) 0) (second-length by (text_of (file_of file).title) (file_of file).machine order)
    (omega (arith, refusal-line-length (file_refusal file)))

pub findings-within : (file : List ℕ) (by : By) (order out : List ℕ) {size : ℕ} {after : List ℕ} → length out ≡ findings_room
    → (size ≡ length (findings_of file by order)) × (after ≡ sets out 0 (findings_of file by order)) → size ≤ length after
findings-within file by order out e (es, ea) =
    omega (arith, e, es, ap length ea, length-sets out 0 (findings_of file by order), findings-length file by order)
