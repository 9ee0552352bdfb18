-- The two sweeps together read a file: it is what its words and commands make, and a refused one changes nothing.
-- Assumes nothing.
use mathlib.Core.Path.{◌≡◌, refl, ap, sym, ◌∙◌}
use mathlib.Core.Logic.{◌≢◌}
use mathlib.Core.List.{List, [], ◌∷◌, ◌++◌, append-nil, append_assoc}
use mathlib.Core.Bool.{Bool, true, false}
use Prim.Native.Nat.{ℕ}
use native.Mathlib.Omega.{arith}
use borrow.Author.Tests.{eqb-true, eq-eqb, ne_eqb}
use lib.Dec.{eqb}
use lib.ListN.{length}
use lib.Seq.{sets}
use Rattle.layout.specs.Layout.{machine_length}
use Rattle.layout.specs.Machine.{Reaches, with_update_ticks}
use Rattle.layout_texts.specs.declared.Text.{Text}
use Rattle.layout_texts.specs.declared.Text.TheVariants.{Of1978}
use Rattle.std.specs.Prelude.{Some, None, Result}
use Rattle.std.specs.Result.{IsErrAnd}
use Rattle.std.proofs.lemmas.Result.{err_from_is_err_and}
use Rattle.base_questions.specs.declared.Refusal.{Refusal}
use Rattle.base_questions.specs.Refusals.{number_of}
use Rattle.file_bench.specs.declared.Contents.{Contents}
use Rattle.base_questions.specs.Questions.{asked}
use Rattle.base_questions.proofs.Asked.{both_yes}
use Rattle.base_lists.proofs.Choices.{of_test}
use Rattle.base_lists.proofs.Below.{and_first}
use Rattle.machine.specs.Questions.{fresh_machine, fresh_run}
use Rattle.machine.proofs.ValidMachine.{reaches}
use Rattle.machine.proofs.FreshMachine.{fresh-length}
use Rattle.file_lines.specs.Lines.{line_of, lines_of, ended}
use Rattle.file_phases.specs.Phases.{is_fit}
use Rattle.file_bench.specs.BenchFile.{commands_of, Reading, unread, with_line, with_lines, file_of, is_bench_file, is_known, text_of, question9, question13, file_refusal, BenchAnswer, bench_answer, read_of}
use Rattle.file_bench.specs.AsCoded.{outline, with_words, all_commands, Said, contents_of}
use Rattle.file_bench.specs.declared.File.{File}

-- The lines of a file set their words and their commands.
lines-hold : (r : Reading) (ls : List (List ℕ)) → ((with_lines r ls).machine ≡ with_words r.machine ls) × ((with_lines r ls).commands ≡ r.commands ++ all_commands ls)
unfolding with_lines with_line with_words all_commands
lines-hold r [] = (refl, sym (append-nil r.commands))
lines-hold r (l ∷ ls) =
    let q = lines-hold (with_line r (line_of l)) ls in (
      q.0,
      q.1 ∙ append_assoc r.commands (commands_of (line_of l)) (all_commands ls),
    )

module _ (file : List ℕ) where
  file-words : (file_of file).machine ≡ with_update_ticks (with_words fresh_machine (lines_of file))
  unfolding file_of
  file-words = ap with_update_ticks (lines-hold unread (lines_of file)).0

  pub file-commands : (file_of file).commands ≡ all_commands (lines_of file)
  unfolding file_of
  file-commands = (lines-hold unread (lines_of file)).1

  -- Question 9 in its parts, and a file that no question refuses.
  pub bench-file-ended : is_bench_file file ≡ true → ended file ≡ true
  unfolding is_bench_file
  bench-file-ended h = and_first (ended file) (is_fit (file_of file).phase) h

  pub read_number : (m room : List ℕ) → (read_of file m room).number ≡ file_refusal file
  unfolding read_of
  read_number m room = of_test (λ (a : BenchAnswer). a.number ≡ file_refusal file) (eqb (file_refusal file) 0) (λ e. sym (eqb-true (file_refusal file) 0 e)) (λ e. refl)

  pub unrefused : file_refusal file ≡ 0 → is_bench_file file ≡ true
  unfolding file_refusal
  unrefused e = (both_yes (question9 file) (question13 file) [] (λ q. omega (arith, q)) (λ q. omega (arith, q)) e).0

-- What a file says, by its tests.
module _ (file : List ℕ) {e : Bool} (p : e ≡ ended file) where
  pub unended : e ≡ false → record { number = 9; text = Of1978; passes = 0; count = 0 } ≡ contents_of file
  unfolding contents_of file_refusal asked is_bench_file
  unended h = rw (sym p ∙ h)

  module _ (h : e ≡ true) {f : File} (q : f ≡ outline (file_of file)) where
    number_is : file_refusal file ≡ asked (record { number = 9; yes = is_fit f.phase } ∷ record { number = 13; yes = is_known f.title } ∷ [])
    unfolding file_refusal is_bench_file
    number_is = rw (q, sym p ∙ h)

    pub unfit : is_fit f.phase ≡ false → record { number = 9; text = Of1978; passes = 0; count = 0 } ≡ contents_of file
    unfolding contents_of asked
    unfit g = rw (number_is, g)

    module _ (g : is_fit f.phase ≡ true) where
      pub unknown : f.title ≡ None → record { number = 13; text = Of1978; passes = 0; count = 0 } ≡ contents_of file
      unfolding contents_of asked
      unknown t = rw (number_is, g, t)

      pub fit : {text : Text} → f.title ≡ Some text → record { number = 0; text = text; passes = f.passes; count = f.count } ≡ contents_of file
      unfolding contents_of asked
      fit {text} t = let u : (file_of file).title ≡ Some text = sym (ap (λ (x : File). x.title) q) ∙ t in rw (number_is, g, t, u, q)

-- Reading, by what the file says.
module _ (file : List ℕ) {said : Said} (p : said ≡ contents_of file) where
  pub said-number : said.number ≡ file_refusal file
  unfolding contents_of
  said-number = rw p (of_test (λ (c : Said). c.number ≡ file_refusal file) (eqb (file_refusal file) 0) (λ e. sym (eqb-true (file_refusal file) 0 e)) (λ e. refl))

  -- What is said of a file that no question refuses.
  pub said-good : said.number ≡ 0
      → said ≡ record { number = 0; text = text_of (file_of file).title; passes = (file_of file).passes; count = length (file_of file).commands }
  unfolding contents_of
  said-good g = rw (p, eq-eqb (file_refusal file) 0 (sym said-number ∙ g))

  module _ (m room : List ℕ) where
    pub read-refused : said.number ≢ 0
        → record { number = said.number; text = said.text; passes = said.passes; count = said.count; machine = m; room = room } ≡ read_of file m room
    unfolding contents_of read_of
    read-refused g = rw (p, ne_eqb (file_refusal file) 0 (λ e. g (said-number ∙ e)))

    pub read-loaded : said.number ≡ 0 → {m' room' : List ℕ} → m' ≡ (file_of file).machine → room' ≡ sets room 0 (file_of file).commands
        → record { number = said.number; text = said.text; passes = said.passes; count = said.count; machine = m'; room = room' } ≡ read_of file m room
    unfolding read_of
    read-loaded g a b = rw (said-good g, a, b, eq-eqb (file_refusal file) 0 (sym said-number ∙ g))

-- A file that no question refuses, loaded.
module _ (file : List ℕ) where
  pub loads : {m₁ m₂ m₃ : List ℕ} → m₁ ≡ fresh_machine → m₂ ≡ with_words m₁ (lines_of file) → m₃ ≡ with_update_ticks m₂ → m₃ ≡ (file_of file).machine
  loads a b d = rw (d, b, a, file-words file)

  pub loads-commands : (room : List ℕ) {room₁ : List ℕ} → room₁ ≡ sets room 0 (all_commands (lines_of file)) → room₁ ≡ sets room 0 (file_of file).commands
  loads-commands room e = rw (e, file-commands file)

-- A run of the machine's length is made a fresh machine.
pub fresh-run : (m : List ℕ) → length m ≡ machine_length → fresh_run m ≡ fresh_machine
unfolding fresh_run
fresh-run m e = rw (eq-eqb (length m) machine_length e)

-- With the words of a file it still has the machine's length.
pub loaded-reaches : {m₁ m₂ : List ℕ} → m₁ ≡ fresh_machine → length m₂ ≡ length m₁ → Reaches m₂
loaded-reaches {m₁} {m₂} e l = reaches m₂ (l ∙ ap length e ∙ fresh-length)

-- What a refusal handed on answers.
pub refused_on : (m room : List ℕ) (r : Result Contents Refusal) (e : Refusal) → IsErrAnd r (λ y. y ≡ e) →
    bench_answer r m room ≡ record { number = number_of e; text = Of1978; passes = 0; count = 0; machine = m; room = room }
refused_on m room r e h = let p = err_from_is_err_and r h in rw (p.1, p.2) refl
