-- A file by how its ringing begins: something is refused before it, or it is rung; in each case what is made of it is what there is to write.
-- Assumes nothing.
use mathlib.Core.Path.{◌≡◌, refl, sym, ap, subst, ◌∙◌}
use mathlib.Core.Logic.{◌≢◌}
use mathlib.Core.Bool.{Bool, true, false}
use mathlib.Core.List.{List, [], ◌∷◌}
use Prim.Native.Nat.{ℕ, ◌≤◌}
use native.Mathlib.Omega.{arith}
use borrow.Author.Tests.{eqb-true, eqb-false, eq-eqb, ne_eqb}
use lib.Dec.{eqb}
use lib.ListN.{length, get_or, take}
use Rattle.base_lists.specs.Lists.{zeros}
use Rattle.base_lists.proofs.Zeros.{zeros-length}
use Rattle.base_lists.proofs.Choices.{of-cond}
use Rattle.layout.specs.Layout.{n_at, generators}
use Rattle.layout.specs.Machine.{Machine, Memory, Commands, ticks_of}
use Rattle.layout_texts.specs.declared.Text.{Text}
use Rattle.base_questions.specs.Questions.{asked}
use Rattle.machine.specs.Questions.{question1, question2}
use Rattle.pass_model.proofs.Asked.{few-ticks}
use Rattle.file_printed.specs.Text.{refusal_line}
use Rattle.file_lines.specs.Lines.{most_passes}
use Rattle.file_bench.specs.BenchFile.{file_of, file_refusal, command_places, BenchAnswer, read_of}
use Rattle.ring_pass.specs.BenchPass.{Ordering}
use Rattle.ring_order.specs.RungOrder.{ordering_by, order_refusal}
use Rattle.ring_order.specs.declared.By.{By}
use Rattle.ring_steps.specs.Ringing.{memory_at_first}
use Rattle.ring_steps.specs.Heard.{Heard, heard}
use Rattle.ring_steps.specs.AsCoded.{Ringing, ringing_begun}
use Rattle.ring_begin.specs.AsCoded.{refusals_line, refused_line, ringing_of}
use Rattle.ring_begin.specs.Begun.{Begins, used_by}
use Rattle.ring_begin.specs.declared.Beginning.{Beginning}
use Rattle.ring_begin.proofs.Begun.{by-numbers, none-refused, begun-whole, read-text}
use Rattle.ring_wave.specs.Wave.{Written, silent, sound_written, wave_file, sounded_from, wave_output_of}
use Rattle.ring_wave.proofs.FewPasses.{few-passes}

-- The line of a ringing's number, as there is to write.
pub number-line : (n : ℕ) (h : Heard) → refusals_line h.number 0 ≡ (sound_written n h).error
unfolding refusals_line
number-line n h = refl

pub first-line : (n : ℕ) → n ≢ 0 → refusals_line n 0 ≡ refusal_line n
unfolding refusals_line
first-line n h = rw (ne_eqb n 0 h)

-- What there is to write, by questions 1 and 2.
module _ (text : Text) (by : Ordering) (passes : ℕ) (m : Machine) (memory : Memory) (commands : Commands) where
  abbrev first : ℕ
  first = asked (question1 m ∷ question2 text m ∷ [])

  abbrev all : Written
  all = sounded_from text by passes m memory commands

  -- The three promises.
  abbrev pub Writes : ℕ → List ℕ → ℕ → Type 0
  Writes size out number = (size ≡ length all.output) × ((take size out ≡ all.output) × (refusals_line number 0 ≡ all.error))

  from_first : first ≢ 0 → all ≡ silent (refusal_line first)
  unfolding sounded_from
  from_first h = rw (ne_eqb first 0 h)

  from-heard : first ≡ 0 → all ≡ sound_written (get_or m n_at 0) (heard text by passes m memory commands)
  unfolding sounded_from
  from-heard z = rw (eq-eqb first 0 z)

  pub writes-refusal : {n : ℕ} (out : List ℕ) → n ≡ first → n ≢ 0 → Writes 0 out n
  writes-refusal {n} out e h = rw (from_first (λ z. h (e ∙ z))) (refl, (refl, first-line n h ∙ ap refusal_line e))

  pub writes-sound : {number size : ℕ} (out : List ℕ) → first ≡ 0
      → let h = heard text by passes m memory commands in (number ≡ h.number) × ((size ≡ length (wave_file (get_or m n_at 0) h)) × (take size out ≡ wave_file (get_or m n_at 0) h))
      → Writes size out number
  writes-sound {number} out z (en, (es, et)) =
      let h = heard text by passes m memory commands in
      rw (from-heard z) (es, (et, ap (λ (i : ℕ). refusals_line i 0) en ∙ number-line (get_or m n_at 0) h))

-- A ringing begins with few passes.
few-read : (file m room : List ℕ) → (read_of file m room).passes ≤ most_passes
unfolding read_of
few-read file m room = of-cond (λ (a : BenchAnswer). a.passes ≤ most_passes) (eqb (file_refusal file) 0) (few-passes file) (omega arith)

pub few-begun : (file m room : List ℕ) {passes : ℕ} → passes ≡ (read_of file m room).passes → passes ≤ most_passes
few-begun file m room e = rw e (few-read file m room)

-- The ringing of a beginning.
begun-ringing : (b : Beginning) (by : By) (order_file : List ℕ) (a : BenchAnswer) {m memory room : List ℕ} → Begins b by order_file a → m ≡ a.machine → memory ≡ memory_at_first → room ≡ a.room
    → ringing_of b m memory room ≡ ringing_begun a
begun-ringing b by order_file a f em el er = rw (f.passes, f.count, em, el, er) refl

-- By an ordering that is another one where T is in its range.
from-alike : (text : Text) (by₁ by₂ : Ordering) (passes : ℕ) (m : Machine) (memory : Memory) (commands : Commands) → (ticks_of m ≤ generators → by₁ ≡ by₂)
    → sounded_from text by₁ passes m memory commands ≡ sounded_from text by₂ passes m memory commands
from-alike text by₁ by₂ passes m memory commands same = go (eqb (asked (question1 m ∷ question2 text m ∷ [])) 0) refl
  where
    go : (b : Bool) → eqb (asked (question1 m ∷ question2 text m ∷ [])) 0 ≡ b → sounded_from text by₁ passes m memory commands ≡ sounded_from text by₂ passes m memory commands
    go true e = ap (λ (by : Ordering). sounded_from text by passes m memory commands) (same (few-ticks text m [] (eqb-true (asked (question1 m ∷ question2 text m ∷ [])) 0 e)))
    go false e =
        let h = eqb-false (asked (question1 m ∷ question2 text m ∷ [])) 0 e in
        from_first text by₁ passes m memory commands h ∙ sym (from_first text by₂ passes m memory commands h)

module _ (by : By) (order_file file : List ℕ) where
  wave-refused : file_refusal file ≢ 0 → wave_output_of by order_file file ≡ silent (refusal_line (file_refusal file))
  unfolding wave_output_of
  wave-refused h = rw (ne_eqb (file_refusal file) 0 h)

  -- Something is refused before the ringing.
  pub wave-silent : length (refused_line by order_file file) ≢ 0 → wave_output_of by order_file file ≡ silent (refused_line by order_file file)
  unfolding wave_output_of
  wave-silent =
      by-numbers (file_refusal file) (order_refusal by order_file) (λ line. length line ≢ 0 → wave_output_of by order_file file ≡ silent line) (λ h e. wave-refused h)
      (λ z h e. rw (eq-eqb (file_refusal file) 0 z, ne_eqb (order_refusal by order_file) 0 h)) (λ z y e. absurd (e refl))

  pub told-refused : {line : List ℕ} (out : List ℕ) → refused_line by order_file file ≢ [] → line ≡ refused_line by order_file file
      → let w = wave_output_of by order_file file in (0 ≡ length w.output) × ((take 0 out ≡ w.output) × (line ≡ w.error))
  told-refused out h e = rw (wave-silent (λ z. h (empty (refused_line by order_file file) z))) (refl, (refl, e))
    where
      empty : (l : List ℕ) → length l ≡ 0 → l ≡ []
      empty [] z = refl
      empty (x ∷ l) z = absurd (omega (arith, z))

  module _ (m room : List ℕ) (l : length room ≡ command_places) where
    -- Nothing is refused before it.
    module _ (none : length (refused_line by order_file file) ≡ 0) {text : Text} {r : Ringing} {used : Ordering} (et : text ≡ (read_of file m room).text)
        (er : r ≡ ringing_begun (read_of file m room)) (same : ticks_of r.machine ≤ generators → used ≡ ordering_by by order_file r.machine) where
      wave-from : wave_output_of by order_file file ≡ sounded_from text used r.passes r.machine r.memory r.commands
      unfolding wave_output_of
      wave-from =
          let q = none-refused (file_refusal file) (order_refusal by order_file) none in
          let reading = file_of file in
          let whole = er ∙ begun-whole by order_file file m room l q.0 in
          let title = et ∙ read-text by order_file file m room l q.0 in
          rw (eq-eqb (file_refusal file) 0 q.0, eq-eqb (order_refusal by order_file) 0 q.1)
          (sym
          (from-alike text used (ordering_by by order_file r.machine) r.passes r.machine r.memory r.commands same
          ∙ ap (λ (x : Ringing). sounded_from text (ordering_by by order_file x.machine) x.passes x.machine x.memory x.commands) whole
          ∙ ap (λ (t : Text). sounded_from t (ordering_by by order_file reading.machine) reading.passes reading.machine memory_at_first reading.commands) title))

      -- With the ordering and the commands as the code hands them over.
      told-rung : (out : List ℕ) (number : ℕ) {size : ℕ} {used' : Ordering} {commands : Commands} → used' ≡ used → commands ≡ r.commands
          → Writes text used' r.passes r.machine r.memory commands size out number
          → let w = wave_output_of by order_file file in (size ≡ length w.output) × ((take size out ≡ w.output) × (refusals_line number 0 ≡ w.error))
      told-rung out number eu ec writes = rw wave-from (rw (eu, ec) at writes)

  -- By its beginning.
  pub told-begun : (m : List ℕ) (b : Beginning) (out : List ℕ) (number : ℕ) {m' memory room : List ℕ} {size : ℕ} {used' : Ordering} → let a = read_of file m (zeros command_places) in
      [] ≡ refused_line by order_file file → Begins b by order_file a → m' ≡ a.machine → memory ≡ memory_at_first → room ≡ a.room → used' ≡ used_by b
      → Writes b.text used' b.passes m' memory (take b.count room) size out number
      → let w = wave_output_of by order_file file in (size ≡ length w.output) × ((take size out ≡ w.output) × (refusals_line number 0 ≡ w.error))
  told-begun m b out number none f em el er eu writes =
      let a = read_of file m (zeros command_places) in
      told-rung m (zeros command_places) (zeros-length command_places) (ap length (sym none)) f.text (begun-ringing b by order_file a f em el er)
      (subst (λ (k : Machine). ticks_of k ≤ generators → used_by b ≡ ordering_by by order_file k) (sym em) f.ordering) out number eu refl writes
