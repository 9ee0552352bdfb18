-- What is printed and what sounds of a file are the same where what is heard is.
-- Assumes nothing.
use mathlib.Core.Path.{◌≡◌, refl, sym, ap, ◌∙◌}
use mathlib.Core.Bool.{true, cond}
use mathlib.Core.List.{List, [], ◌∷◌}
use Prim.Native.Nat.{ℕ, ◌<◌}
use borrow.Author.Tests.{eq-eqb}
use lib.Dec.{eqb}
use lib.ListN.{length, get_or}
use Rattle.layout.specs.Layout.{n_at}
use Rattle.layout.specs.Machine.{ticks_of}
use Rattle.base_questions.specs.Questions.{asked}
use Rattle.machine.specs.Questions.{question1, question2}
use Rattle.base_sequences.specs.Sequences.{by_number}
use Rattle.compare_agreement.specs.Agreement.{Agree}
use Rattle.equal_any_order.specs.EveryOrder.{Passes}
use Rattle.equal_ringings.specs.Ringings.{NoneWaits}
use Rattle.file_order.specs.OrderFile.{is_order_file, order_of}
use Rattle.file_printed.specs.Text.{refusal_line}
use Rattle.file_bench.specs.BenchFile.{file_of, text_of, file_refusal}
use Rattle.ring_pass.specs.BenchPass.{Ordering, throughout}
use Rattle.ring_order.specs.RungOrder.{ordering_by, order_refusal}
use Rattle.ring_order.specs.declared.By.{By}
use Rattle.ring_order.specs.declared.By.TheVariants.{Number, File}
use Rattle.ring_steps.specs.Heard.{Heard, heard, lines_heard}
use Rattle.ring_steps.specs.Ringing.{memory_at_first, heard_by, output_of}
use Rattle.ring_wave.specs.Wave.{silent, sound_written, sounded_from, wave_output_of}
use Rattle.ring_alike.specs.RungClaims.{RungClaims}
use Rattle.ring_alike.proofs.Alike.{agreeing-heard}
use Rattle.ring_alike.proofs.Listed.{listed-heard}

-- What is heard of a file that is not refused, by an ordering.
abbrev heard_of : List ℕ → Ordering → Heard
heard_of file by = heard (text_of (file_of file).title) by (file_of file).passes (file_of file).machine memory_at_first (file_of file).commands

heard-by : (by : By) (f file : List ℕ) → heard_by by f (file_of file) ≡ heard_of file (ordering_by by f (file_of file).machine)
unfolding heard_by
heard-by by f file = refl

module _ (by₁ by₂ : By) (f₁ f₂ file : List ℕ) (q₁ : order_refusal by₁ f₁ ≡ 0) (q₂ : order_refusal by₂ f₂ ≡ 0)
    (e : heard_of file (ordering_by by₁ f₁ (file_of file).machine) ≡ heard_of file (ordering_by by₂ f₂ (file_of file).machine)) where
  same-output : output_of by₁ f₁ file ≡ output_of by₂ f₂ file
  unfolding output_of
  same-output =
      rw (eq-eqb (order_refusal by₁ f₁) 0 q₁, eq-eqb (order_refusal by₂ f₂) 0 q₂)
      (ap (λ (h : Heard). cond (eqb (file_refusal file) 0) (lines_heard h) (refusal_line (file_refusal file))) (heard-by by₁ f₁ file ∙ e ∙ sym (heard-by by₂ f₂ file)))

  same-wave : wave_output_of by₁ f₁ file ≡ wave_output_of by₂ f₂ file
  unfolding wave_output_of sounded_from
  same-wave =
      let m = (file_of file).machine in
      let first = asked (question1 m ∷ question2 (text_of (file_of file).title) m ∷ []) in
      rw (eq-eqb (order_refusal by₁ f₁) 0 q₁, eq-eqb (order_refusal by₂ f₂) 0 q₂)
      (ap (λ (h : Heard). cond (eqb (file_refusal file) 0) (cond (eqb first 0) (sound_written (get_or m n_at 0) h) (silent (refusal_line first))) (silent (refusal_line (file_refusal file)))) e)

rung-alike : (by₁ by₂ : By) (f₁ f₂ file : List ℕ) → let text = text_of (file_of file).title in
    let m = (file_of file).machine in
    let o₁ = ordering_by by₁ f₁ m (ticks_of m) in
    let o₂ = ordering_by by₂ f₂ m (ticks_of m) in
    (file_of file).commands ≡ [] → NoneWaits text m → order_refusal by₁ f₁ ≡ 0 → order_refusal by₂ f₂ ≡ 0 → Passes m o₁ → Passes m o₂ → Agree text m o₁ o₂
    → (output_of by₁ f₁ file ≡ output_of by₂ f₂ file) × (wave_output_of by₁ f₁ file ≡ wave_output_of by₂ f₂ file)
rung-alike by₁ by₂ f₁ f₂ file none quiet q₁ q₂ p₁ p₂ agree =
    let text = text_of (file_of file).title in
    let m = (file_of file).machine in
    let used₁ = ordering_by by₁ f₁ m in
    let used₂ = ordering_by by₂ f₂ m in
    let without : (used : Ordering) → heard_of file used ≡ heard text used (file_of file).passes m memory_at_first [] =
    λ used. ap (λ (cs : List ℕ). heard text used (file_of file).passes m memory_at_first cs) none in
    let e : heard_of file used₁ ≡ heard_of file used₂ = without used₁ ∙ agreeing-heard text used₁ used₂ (file_of file).passes m memory_at_first quiet p₁ p₂ agree ∙ sym (without used₂) in
    (same-output by₁ by₂ f₁ f₂ file q₁ q₂ e, same-wave by₁ by₂ f₁ f₂ file q₁ q₂ e)

by-number-listed : (f order_file file : List ℕ) → let m = (file_of file).machine in
    let ms = (heard_by Number f (file_of file)).machines in
    is_order_file order_file ≡ true → order_of order_file ≡ by_number (ticks_of m) → ((k : ℕ) → k < length ms → ticks_of (get_or ms k []) ≡ ticks_of m)
    → (output_of Number f file ≡ output_of File order_file file) × (wave_output_of Number f file ≡ wave_output_of File order_file file)
unfolding heard_by
by-number-listed f order_file file is lists stay =
    let text = text_of (file_of file).title in
    let m = (file_of file).machine in
    let q : order_refusal File order_file ≡ 0 = rw is in
    let listed = listed-heard text by_number (ticks_of m) (file_of file).passes m memory_at_first (file_of file).commands refl stay in
    let e : heard_of file by_number ≡ heard_of file (throughout (order_of order_file)) = sym listed ∙ ap (λ (o : List ℕ). heard_of file (throughout o)) (sym lists) in
    (same-output Number File f order_file file refl q e, same-wave Number File f order_file file refl q e)

pub rung-claims : RungClaims
rung-claims = record { rung-alike = rung-alike; by-number-listed = by-number-listed }
