-- The parts of one step: the commands still left, the machine that a line is made of, and the ways a step ends.
-- Assumes nothing.
use mathlib.Core.Path.{◌≡◌, refl, sym, ◌∙◌, ap}
use mathlib.Core.Logic.{◌≢◌}
use mathlib.Core.List.{List, [], ◌∷◌}
use Prim.Native.Nat.{ℕ, ◌+◌, ◌-◌, ◌≤◌, ◌<◌}
use native.Mathlib.Omega.{arith}
use native.Mathlib.Nat.{add-zero}
use borrow.Author.Tests.{eq-eqb, ne_eqb}
use lib.Dec.{eqb, lit<}
use lib.ListN.{length, take, drop, length-drop, drop_of_length-le}
use lib.Seq.{sets, drop-drop}
use Rattle.base_questions.specs.Questions.{asked}
use Rattle.machine.specs.Questions.{question1, question2}
use Rattle.machine.proofs.ValidMachine.{reaches, valid-dac}
use Rattle.pass_model.specs.Pass.{Outcome as Passed}
use Rattle.pass_model.proofs.Asked.{is-valid, is_whole}
use Rattle.command_update.specs.Update.{UpdateOutcome, outcome, update_of, taken_count}
use Rattle.base_lists.proofs.Choices.{of-cond}
use Rattle.base_lists.proofs.Parts.{part-from}
use Rattle.file_printed.proofs.Lines.{pass-line-length, refusal-line-length}
use Rattle.file_wave.proofs.Numbers.{frame-length}
use Rattle.ring_pass.specs.BenchPass.{Ordering, passed}
use Rattle.ring_steps.specs.Heard.{update_after, line_after, frame_after}
use Rattle.ring_steps.specs.AsCoded.{taken_after, Lined, given_after, given_refused, Ringing, Step, step_of, commands_taken}
use Rattle.ring_steps.specs.declared.Output.{Output}
use Rattle.ring_steps.specs.declared.Output.TheVariants.{Lines, Frames}
use Rattle.layout_texts.specs.declared.Text.{Text}
use Rattle.layout_texts.specs.declared.Text.TheVariants.{Old}
use Rattle.ring_steps.proofs.Updates.{update-after-valid, update-after-length, left_after}

-- A place past the end of the commands leaves none, as their end does.
pub start-end : (cs : List ℕ) (from : ℕ) → length cs < from → drop (length cs) cs ≡ drop from cs
start-end cs from h =
    let l : length cs ≤ length cs = omega arith in
    let k : length cs ≤ from = omega arith in
    drop_of_length-le cs l ∙ sym (drop_of_length-le cs k)

-- An update with the commands from a place on: how many it takes, and what it leaves.
pub update-from : (m cs : List ℕ) (start from : ℕ) → start ≤ length cs → drop start cs ≡ drop from cs → {n count : ℕ} {l : List ℕ} → let part = take (length cs - start) (drop start cs) in
    (count ≤ length part) × (outcome n l (drop count part) ≡ update_of m part)
    → (count ≡ taken_count m (drop from cs)) × (outcome n l (drop (from + count) cs) ≡ update_of m (drop from cs))
update-from m cs start from within same_rest {n} {count} {l} (h, e) =
    let part-is : take (length cs - start) (drop start cs) ≡ drop from cs = part-from cs start ∙ same_rest in
    let e' : outcome n l (drop count (drop from cs)) ≡ update_of m (drop from cs) = rw part-is at e in
    let h' : count ≤ length (drop from cs) = rw part-is at h in (
      omega (arith, length-drop count (drop from cs), ap (λ (o : UpdateOutcome). length o.rest) e'),
      ap (outcome n l) (sym (drop-drop count from cs)) ∙ e',
    )

-- After an old pass none is taken, and all are left.
pub none_from : (m cs : List ℕ) (from : ℕ) → (0 ≡ taken_after Old m (drop from cs)) × (outcome 0 m (drop (from + 0) cs) ≡ update_after Old m (drop from cs))
none_from m cs from = (omega arith, rw (add-zero from))

-- No more are taken than there are from that place on.
pub taken-most : (text : Text) (m cs : List ℕ) (from : ℕ) {count : ℕ} → count ≡ taken_after text m (drop from cs) → count ≤ length cs - from
taken-most text m cs from e = omega (arith, e, length-drop from cs)

-- The line can be made of what an update leaves of a machine that passes questions 1 and 2.
pub lined : (text : Text) (m cs : List ℕ) → asked (question1 m ∷ question2 text m ∷ []) ≡ 0 → {n : ℕ} {last left : List ℕ} → outcome n last left ≡ update_after text m cs → Lined last
lined text m cs q e =
    let s = update-after-valid text m cs (is-valid text m [] q) in
    rw (ap (λ (o : UpdateOutcome). o.machine) e)
    (record {
      reaches = reaches (update_after text m cs).machine (update-after-length text m cs ∙ is_whole text m [] q);
      left = valid-dac text (update_after text m cs).machine s 0 (lit< tt);
      right = valid-dac text (update_after text m cs).machine s 1 (lit< tt);
    })

-- A step by its passes and by the two numbers.
module _ (text : Text) (by : Ordering) (o : Output) (r : Ringing) where
  abbrev pass : Passed
  pass = passed text by r.machine r.memory

  abbrev update : UpdateOutcome
  update = update_after text pass.machine r.commands

  module _ (some : r.passes ≢ 0) where
    pub by-pass : pass.number ≢ 0
        → step_of text by o r ≡ record { bytes = given_refused o pass.number; next = record { passes = 0; machine = pass.machine; memory = pass.memory; commands = r.commands; number = pass.number } }
    unfolding step_of
    by-pass h = rw (ne_eqb r.passes 0 some, ne_eqb pass.number 0 h)

    module _ (z : pass.number ≡ 0) where
      pub by-update : update.number ≢ 0
          → step_of text by o r ≡ record { bytes = given_refused o update.number; next = record { passes = 0; machine = update.machine; memory = pass.memory; commands = update.rest; number = update.number } }
      unfolding step_of
      by-update h = rw (ne_eqb r.passes 0 some, eq-eqb pass.number 0 z, ne_eqb update.number 0 h)

      pub by_both : update.number ≡ 0
          → step_of text by o r ≡ record { bytes = given_after o update.machine; next = record { passes = r.passes - 1; machine = update.machine; memory = pass.memory; commands = update.rest; number = 0 } }
      unfolding step_of
      by_both h = rw (ne_eqb r.passes 0 some, eq-eqb pass.number 0 z, eq-eqb update.number 0 h)

-- What a step promises: the length of what it gives out, that at the start of its buffer, what is left to ring, and the commands taken then.
module _ (text : Text) (by : Ordering) (o : Output) (r : Ringing) (line : List ℕ) (from : ℕ) where
  abbrev pub Stepped : List ℕ → ℕ → Ringing → ℕ → Type 0
  Stepped line' size next taken =
      (size ≡ length (step_of text by o r).bytes)
      × ((line' ≡ sets line 0 (step_of text by o r).bytes) × ((next ≡ (step_of text by o r).next) × (taken ≡ from + commands_taken r (step_of text by o r))))

  stepped : (bytes : List ℕ) {line' : List ℕ} {size taken : ℕ} {next : Ringing} → step_of text by o r ≡ record { bytes = bytes; next = next }
      → (size ≡ length bytes) × (line' ≡ sets line 0 bytes) → taken ≡ from + (length r.commands - length next.commands) → Stepped line' size next taken
  stepped bytes e (es, el) et = rw e (es, (el, (refl, et)))

  module _ (some : r.passes ≢ 0) {n : ℕ} {after memory : List ℕ} (en : n ≡ (passed text by r.machine r.memory).number) (ea : after ≡ (passed text by r.machine r.memory).machine)
      (ey : memory ≡ (passed text by r.machine r.memory).memory) where
    -- The pass is refused.
    pub step-refused : n ≢ 0 → {line' : List ℕ} {size : ℕ} → (size ≡ length (given_refused o n)) × (line' ≡ sets line 0 (given_refused o n))
        → Stepped line' size (record { passes = 0; machine = after; memory = memory; commands = r.commands; number = n }) from
    step-refused h puts = stepped (given_refused o n) (by-pass text by o r some (λ e. h (en ∙ e)) ∙ rw (← en, ea, ey)) puts (omega arith)

    module _ (z : n ≡ 0) {k count : ℕ} {last left : List ℕ} (eu : record { number = k; machine = last; rest = left } ≡ update_after text after r.commands)
        (ec : count ≡ taken_after text after r.commands) where
      updated : record { number = k; machine = last; rest = left } ≡ update_after text (passed text by r.machine r.memory).machine r.commands
      updated = eu ∙ ap (λ (l : List ℕ). update_after text l r.commands) ea

      number_is : k ≡ (update_after text (passed text by r.machine r.memory).machine r.commands).number
      number_is = ap (λ (u : UpdateOutcome). u.number) updated

      taken_is : from + count ≡ from + (length r.commands - length left)
      taken_is = ap (λ (i : ℕ). from + i) (ec ∙ ap (λ (u : UpdateOutcome). length r.commands - length u.rest) (sym eu))

      -- The update is refused.
      pub step-update-refused : k ≢ 0 → {line' : List ℕ} {size : ℕ} → (size ≡ length (given_refused o k)) × (line' ≡ sets line 0 (given_refused o k))
          → Stepped line' size (record { passes = 0; machine = last; memory = memory; commands = left; number = k }) (from + count)
      step-update-refused h puts =
          stepped (given_refused o k)
          (by-update text by o r some (sym en ∙ z) (λ e. h (number_is ∙ e)) ∙ rw (← updated, ← ey))
          puts taken_is

      -- Neither is.
      pub step-goes : k ≡ 0 → {line' : List ℕ} {size : ℕ} → (size ≡ length (given_after o last)) × (line' ≡ sets line 0 (given_after o last))
          → Stepped line' size (record { passes = r.passes - 1; machine = last; memory = memory; commands = left; number = k }) (from + count)
      step-goes h puts =
          stepped (given_after o last)
          (by_both text by o r some (sym en ∙ z) (sym number_is ∙ h) ∙ rw (← updated, ← ey, h))
          puts taken_is

-- What a step gives out has at most 51 bytes.
line-length : (m : List ℕ) → length (line_after m) ≤ 51
unfolding line_after
line-length m = pass-line-length _ _ _

pub frame-after-length : (m : List ℕ) → length (frame_after m) ≡ 6
unfolding frame_after
frame-after-length m = frame-length _ _

given-length : (o : Output) (m : List ℕ) → length (given_after o m) ≤ 51
unfolding given_after
given-length Lines m = line-length m
given-length Frames m = omega (arith, frame-after-length m)

refused-length : (o : Output) (n : ℕ) → length (given_refused o n) ≤ 51
unfolding given_refused
refused-length Lines n = omega (arith, refusal-line-length n)
refused-length Frames n = omega arith

Short : Step → Type 0
Short s = length s.bytes ≤ 51

pub step-length : (text : Text) (by : Ordering) (o : Output) (r : Ringing) → length (step_of text by o r).bytes ≤ 51
unfolding step_of Short
step-length text by o r =
    of-cond Short (eqb r.passes 0) (omega arith)
    (of-cond Short (eqb (passed text by r.machine r.memory).number 0)
    (of-cond Short (eqb (update_after text (passed text by r.machine r.memory).machine r.commands).number 0) (given-length o _) (refused-length o _))
    (refused-length o _))

-- A step takes commands from the front: no more are left than before.
Fewer : Ringing → Step → Type 0
Fewer r s = length s.next.commands ≤ length r.commands

pub step-takes : (text : Text) (by : Ordering) (o : Output) (r : Ringing) → length (step_of text by o r).next.commands ≤ length r.commands
unfolding step_of Fewer
step-takes text by o r =
    let l = left_after text (passed text by r.machine r.memory).machine r.commands in
    of-cond (Fewer r) (eqb r.passes 0) (omega arith)
    (of-cond (Fewer r) (eqb (passed text by r.machine r.memory).number 0)
    (of-cond (Fewer r) (eqb (update_after text (passed text by r.machine r.memory).machine r.commands).number 0) l l)
    (omega arith))

-- A step gives out a frame of six bytes, or none.
OneFrame : Step → Type 0
OneFrame s = length s.bytes ≤ 6

pub frame_step : (text : Text) (by : Ordering) (r : Ringing) → length (step_of text by Frames r).bytes ≤ 6
unfolding step_of given_after given_refused OneFrame
frame_step text by r =
    let p = passed text by r.machine r.memory in
    let u = update_after text p.machine r.commands in
    of-cond OneFrame (eqb r.passes 0) (omega arith)
    (of-cond OneFrame (eqb p.number 0) (of-cond OneFrame (eqb u.number 0) (omega (arith, frame-after-length u.machine)) (omega arith)) (omega arith))
