-- A beginning by what was read, cleared, filled and put: what is printed from there is the program's whole output.
-- Assumes nothing.
use mathlib.Core.Path.{◌≡◌, refl, sym, ap, subst, ◌∙◌}
use mathlib.Core.Logic.{◌≢◌}
use mathlib.Core.Bool.{Bool, true, false}
use mathlib.Core.List.{List, [], ◌∷◌}
use Prim.Native.Nat.{ℕ, ◌≤◌}
use native.Mathlib.Omega.{arith}
use borrow.Author.Tests.{eqb-true, eqb-false, eq-eqb, ne_eqb}
use lib.Dec.{eqb}
use lib.ListN.{length, take, length-append}
use Rattle.base_lists.specs.Lists.{zeros}
use Rattle.base_lists.proofs.Zeros.{zeros-length}
use Rattle.layout.specs.Layout.{generators}
use Rattle.layout.specs.Machine.{Machine, Memory, Commands, ticks_of}
use Rattle.layout_texts.specs.declared.Text.{Text}
use Rattle.base_questions.specs.Questions.{asked}
use Rattle.machine.specs.Questions.{question1, question2}
use Rattle.pass_model.proofs.Asked.{few-ticks}
use Rattle.file_bytes.proofs.Puts.{first_part}
use Rattle.std.specs.Prelude.{Option, option_map}
use Rattle.layout.specs.Layout.{memory_words}
use Rattle.file_order.specs.declared.Entries.{Entries}
use Rattle.ring_pass.specs.BenchPass.{ordering_of}
use Rattle.ring_order.specs.Filled.{filled_part, InRoom}
use Rattle.ring_begin.specs.Begun.{Begins}
use lib.ListN.{replicate}
use Rattle.file_printed.specs.Text.{line_bytes, named, newline, refused_text, order_refused_text, refusal_line, order_refusal_line}
use Rattle.file_printed.proofs.Lines.{refusal-line-length, order-refusal-line-length}
use Rattle.file_bench.specs.BenchFile.{file_of, text_of, file_refusal, command_places, BenchAnswer, read_of}
use Rattle.file_bench.proofs.WholeFile.{unrefused, read_number}
use Rattle.file_bench.proofs.FewCommands.{few-commands}
use Rattle.ring_pass.specs.BenchPass.{Ordering}
use Rattle.ring_order.specs.RungOrder.{ordering_by, order_refusal}
use Rattle.ring_order.specs.declared.By.{By}
use Rattle.ring_steps.specs.Heard.{heard, lines_heard}
use Rattle.ring_steps.specs.Ringing.{memory_at_first, heard_by, output_of}
use Rattle.ring_steps.specs.AsCoded.{Ringing, ringing_begun}
use Rattle.ring_steps.specs.declared.Output.TheVariants.{Lines}
use Rattle.ring_steps.proofs.Printing.{lines-given}
use Rattle.ring_steps.proofs.RungFile.{read-within}
use Rattle.ring_gathering.specs.AsCoded.{printed_by}
use Rattle.ring_gathering.proofs.Gatherings.{gatherings-are-given}
use Rattle.ring_begin.specs.AsCoded.{refusals_line, refused_line}
use Rattle.ring_begin.proofs.Refused.{line_first, line_second, line-none}
use Rattle.ring_begin.proofs.AnyOrdering.{any-ordering}

-- The line of a refusal is never empty, and fits its buffer.
some-line : (n : ℕ) → length (refusal_line n) ≢ 0
unfolding refusal_line
some-line n e = omega (arith, e, length-append (named refused_text n) newline)

some-order-line : (n : ℕ) → length (order_refusal_line n) ≢ 0
unfolding order_refusal_line
some-order-line n e = omega (arith, e, length-append (named order_refused_text n) newline)

module _ (number other : ℕ) where
  abbrev line : List ℕ
  line = refusals_line number other

  -- Which of the two it is.
  pub by-numbers : (P : List ℕ → Type 0) → (number ≢ 0 → P (refusal_line number)) → (number ≡ 0 → other ≢ 0 → P (order_refusal_line other)) → (number ≡ 0 → other ≡ 0 → P []) → P line
  by-numbers P a b c = go (eqb number 0) refl (eqb other 0) refl
    where
      go : (x : Bool) → eqb number 0 ≡ x → (y : Bool) → eqb other 0 ≡ y → P line
      go true e true f = let z = eqb-true number 0 e in let y = eqb-true other 0 f in rw (line-none number other z y) (c z y)
      go true e false f = let z = eqb-true number 0 e in let h = eqb-false other 0 f in rw (line_second number other z h) (b z h)
      go false e y f = let h = eqb-false number 0 e in rw (line_first number other h) (a h)

  pub line-fits : length line ≤ line_bytes
  line-fits = by-numbers (λ l. length l ≤ line_bytes) (λ h. omega (arith, refusal-line-length number)) (λ z h. omega (arith, order-refusal-line-length other)) (λ z y. omega arith)

  pub none-refused : length line ≡ 0 → (number ≡ 0) × (other ≡ 0)
  none-refused =
      by-numbers (λ l. length l ≡ 0 → (number ≡ 0) × (other ≡ 0)) (λ h e. absurd (some-line number e)) (λ z h e. absurd (some-order-line other e)) (λ z y e. (z, y))

-- An ordering that is another one where T is in its range is so heard.
pub heard-alike : (text : Text) (by₁ by₂ : Ordering) (n : ℕ) (m : Machine) (memory : Memory) (commands : Commands) → (ticks_of m ≤ generators → by₁ ≡ by₂)
    → heard text by₁ n m memory commands ≡ heard text by₂ n m memory commands
heard-alike text by₁ by₂ n m memory commands same = go (eqb (asked (question1 m ∷ question2 text m ∷ [])) 0) refl
  where
    go : (b : Bool) → eqb (asked (question1 m ∷ question2 text m ∷ [])) 0 ≡ b → heard text by₁ n m memory commands ≡ heard text by₂ n m memory commands
    go true e = ap (λ (by : Ordering). heard text by n m memory commands) (same (few-ticks text m [] (eqb-true (asked (question1 m ∷ question2 text m ∷ [])) 0 e)))
    go false e = any-ordering text m memory commands (eqb-false (asked (question1 m ∷ question2 text m ∷ [])) 0 e) by₁ by₂ n

module _ (by : By) (order_file file : List ℕ) where
  output-refused : file_refusal file ≢ 0 → output_of by order_file file ≡ refusal_line (file_refusal file)
  unfolding output_of
  output-refused h = rw (ne_eqb (file_refusal file) 0 h)

  output-other : file_refusal file ≡ 0 → order_refusal by order_file ≢ 0 → output_of by order_file file ≡ order_refusal_line (order_refusal by order_file)
  unfolding output_of
  output-other z h = rw (eq-eqb (file_refusal file) 0 z, ne_eqb (order_refusal by order_file) 0 h)

  output-lines : file_refusal file ≡ 0 → order_refusal by order_file ≡ 0 → output_of by order_file file ≡ lines_heard (heard_by by order_file (file_of file))
  unfolding output_of
  output-lines z y = rw (eq-eqb (file_refusal file) 0 z, eq-eqb (order_refusal by order_file) 0 y)

  module _ (m room : List ℕ) (l : length room ≡ command_places) where
    -- A file that is not refused begins so.
    pub begun-whole : file_refusal file ≡ 0 → let reading = file_of file in
        ringing_begun (read_of file m room) ≡ record { passes = reading.passes; machine = reading.machine; memory = memory_at_first; commands = reading.commands; number = 0 }
    unfolding read_of
    begun-whole z =
        let reading = file_of file in
        rw (eq-eqb (file_refusal file) 0 z)
        (ap (λ (cs : Commands). record { passes = reading.passes; machine = reading.machine; memory = memory_at_first; commands = cs; number = 0 })
        (first_part reading.commands room (omega (arith, l, few-commands file (unrefused file z)))))

    pub read-text : file_refusal file ≡ 0 → (read_of file m room).text ≡ text_of (file_of file).title
    unfolding read_of
    read-text z = rw (eq-eqb (file_refusal file) 0 z)

    pub read-machine : file_refusal file ≡ 0 → (read_of file m room).machine ≡ (file_of file).machine
    unfolding read_of
    read-machine z = rw (eq-eqb (file_refusal file) 0 z)

    -- What is heard from there, by an ordering that is the one asked for where T is in its range.
    module _ (used : Ordering) where
      abbrev Asked : Machine → Type 0
      Asked l = ticks_of l ≤ generators → used ≡ ordering_by by order_file l

      heard-begun : Asked (read_of file m room).machine → file_refusal file ≡ 0 → let r = ringing_begun (read_of file m room) in
          heard (read_of file m room).text used r.passes r.machine r.memory r.commands ≡ heard_by by order_file (file_of file)
      unfolding heard_by
      heard-begun same z =
          let reading = file_of file in
          ap (λ (x : Ringing). heard (read_of file m room).text used x.passes x.machine x.memory x.commands) (begun-whole z)
          ∙ ap (λ (t : Text). heard t used reading.passes reading.machine memory_at_first reading.commands) (read-text z)
          ∙ heard-alike (text_of reading.title) used (ordering_by by order_file reading.machine) reading.passes reading.machine memory_at_first reading.commands
          (subst Asked (read-machine z) same)

      -- So is what is printed from there.
      pub printed-lines : (size : ℕ) → line_bytes ≤ size → file_refusal file ≡ 0 → order_refusal by order_file ≡ 0 → Asked (read_of file m room).machine → let r = ringing_begun (read_of file m room) in
          printed_by (read_of file m room).text used Lines size r.passes r ≡ output_of by order_file file
      printed-lines size h z y same =
          let r = ringing_begun (read_of file m room) in
          gatherings-are-given (read_of file m room).text used Lines size r.passes r h (omega arith)
          ∙ lines-given (heard (read_of file m room).text used r.passes r.machine r.memory r.commands)
          ∙ ap lines_heard (heard-begun same z)
          ∙ sym (output-lines z y)

-- What a beginning promises, by what reading the bench file answers and leaves.
module _ (by : By) (order_file file m : List ℕ) where
  abbrev answer : BenchAnswer
  answer = read_of file m (zeros command_places)

  abbrev other : ℕ
  other = order_refusal by order_file

  told : answer.number ≡ file_refusal file
  told = read_number file m (zeros command_places)

  module _ {number : ℕ} {text : Text} {passes count : ℕ} {m' room room' : List ℕ} (cleared : room ≡ zeros command_places)
      (read : record { number = number; text = text; passes = passes; count = count; machine = m'; room = room' } ≡ read_of file m room) where
    as_read : record { number = number; text = text; passes = passes; count = count; machine = m'; room = room' } ≡ answer
    as_read = read ∙ ap (read_of file m) cleared

    pub machine-read : m' ≡ answer.machine
    machine-read = ap (λ (a : BenchAnswer). a.machine) as_read

    pub room-read : room' ≡ answer.room
    room-read = ap (λ (a : BenchAnswer). a.room) as_read

    number-read : number ≡ file_refusal file
    number-read = ap (λ (a : BenchAnswer). a.number) as_read ∙ told

    -- The bench file is refused.
    module _ (h : number ≢ 0) where
      pub file-line : {line : List ℕ} → line ≡ refusal_line number → line ≡ refused_line by order_file file
      file-line {line} e = e ∙ ap refusal_line number-read ∙ sym (line_first (file_refusal file) other (λ z. h (number-read ∙ z)))

      pub file-some : refused_line by order_file file ≢ []
      file-some e = some-line number (ap length (file-line refl ∙ e))

      pub file-output : {line : List ℕ} → line ≡ refusal_line number → line ≡ output_of by order_file file
      file-output e = e ∙ ap refusal_line number-read ∙ sym (output-refused by order_file file (λ z. h (number-read ∙ z)))

    -- It is not; the order file is.
    module _ (z : number ≡ 0) where
      good : file_refusal file ≡ 0
      good = sym number-read ∙ z

      module _ {n : ℕ} (eo : n ≡ other) where
        pub order-line : n ≢ 0 → {line : List ℕ} → line ≡ order_refusal_line n → line ≡ refused_line by order_file file
        order-line h e = e ∙ ap order_refusal_line eo ∙ sym (line_second (file_refusal file) other good (λ y. h (eo ∙ y)))

        pub order-some : n ≢ 0 → refused_line by order_file file ≢ []
        order-some h e = some-order-line n (ap length (order-line h refl ∙ e))

        pub order-output : n ≢ 0 → {line : List ℕ} → line ≡ order_refusal_line n → line ≡ output_of by order_file file
        order-output h e = e ∙ ap order_refusal_line eo ∙ sym (output-other by order_file file good (λ y. h (eo ∙ y)))

        -- Neither is.
        module _ (y : n ≡ 0) where
          pub no-line : [] ≡ refused_line by order_file file
          no-line = sym (line-none (file_refusal file) other good (sym eo ∙ y))

          module _ (order : Option Entries) (within : InRoom order) (same : ticks_of m' ≤ generators → ordering_of (option_map filled_part order) ≡ ordering_by by order_file m') where
            used-is : ticks_of answer.machine ≤ generators → ordering_of (option_map filled_part order) ≡ ordering_by by order_file answer.machine
            used-is = subst (λ (k : Machine). ticks_of k ≤ generators → ordering_of (option_map filled_part order) ≡ ordering_by by order_file k) machine-read same

            pub begins : Begins (record { text = text; passes = passes; count = count; order = order }) by order_file answer
            begins =
                record {
                  text = ap (λ (a : BenchAnswer). a.text) as_read;
                  passes = ap (λ (a : BenchAnswer). a.passes) as_read;
                  count = ap (λ (a : BenchAnswer). a.count) as_read;
                  commands = rw room-read at (read-within file m (zeros command_places) (zeros-length command_places) as_read);
                  entries = within;
                  ordering = used-is;
                }

            ringing-is : {memory' : List ℕ} → memory' ≡ memory_at_first → record { passes = passes; machine = m'; memory = memory'; commands = take count room'; number = 0 } ≡ ringing_begun answer
            ringing-is e = ap (λ (l : Memory). record { passes = passes; machine = m'; memory = l; commands = take count room'; number = 0 }) e ∙ ap ringing_begun as_read

            pub output-is : {memory' : List ℕ} → memory' ≡ memory_at_first → (size : ℕ) → line_bytes ≤ size
                → printed_by text (ordering_of (option_map filled_part order)) Lines size passes (record { passes = passes; machine = m'; memory = memory'; commands = take count room'; number = 0 }) ≡ output_of by order_file file
            output-is e size h =
                let used = ordering_of (option_map filled_part order) in
                ap (λ (r : Ringing). printed_by text used Lines size r.passes r) (ringing-is e)
                ∙ ap (λ (t : Text). printed_by t used Lines size answer.passes (ringing_begun answer)) (ap (λ (a : BenchAnswer). a.text) as_read)
                ∙ printed-lines by order_file file m (zeros command_places) (zeros-length command_places) used size h good (sym eo ∙ y) used-is

-- A delay memory that was cleared is that of a ringing as it begins.
pub memory-cleared : {memory : List ℕ} (before : List ℕ) → length before ≡ memory_words → memory ≡ replicate (length before) 0 → memory ≡ memory_at_first
unfolding memory_at_first zeros
memory-cleared before l e = e ∙ ap (λ (n : ℕ). replicate n 0) l

-- So is the room for commands that was.
pub room-cleared : {room : List ℕ} (before : List ℕ) → length before ≡ command_places → room ≡ replicate (length before) 0 → room ≡ zeros command_places
unfolding zeros
room-cleared before l e = e ∙ ap (λ (n : ℕ). replicate n 0) l
