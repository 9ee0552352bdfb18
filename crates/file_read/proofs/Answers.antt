-- What the call answers and leaves, by its questions.
-- Assumes nothing.
use mathlib.Core.Path.{◌≡◌, refl, ap, sym, ◌∙◌}
use mathlib.Core.Logic.{◌≢◌}
use mathlib.Core.Bool.{true}
use mathlib.Core.List.{List, [], ◌∷◌}
use Prim.Native.Nat.{ℕ, ◌<◌, ◌≤◌}
use native.Mathlib.Omega.{arith}
use borrow.Author.Tests.{eq-eqb, ne_eqb, le-leb, lt-leb}
use lib.Dec.{eqb}
use lib.ListN.{length}
use lib.Seq.{sets}
use Rattle.layout.specs.Layout.{machine_length}
use Rattle.base_questions.specs.Questions.{asked}
use Rattle.base_questions.proofs.Asked.{asked-first, asked-later}
use Rattle.std.specs.Prelude.{Result}
use Rattle.std.specs.Result.{IsErrAnd}
use Rattle.std.proofs.lemmas.Result.{err_from_is_err_and}
use Rattle.base_questions.specs.declared.Refusal.{Refusal}
use Rattle.base_questions.specs.Refusals.{number_of}
use Rattle.file_read.specs.declared.ReadAnswer.{ReadAnswer}
use Rattle.machine.specs.Questions.{question1}
use Rattle.file_bench.specs.BenchFile.{file_of, question9, question13, file_refusal}
use Rattle.file_bench.specs.AsCoded.{Said, contents_of}
use Rattle.file_bench.proofs.WholeFile.{said-number, said-good}
use Rattle.file_read.specs.Read.{text_number, question8, read_refusal, read_answer, read_into}

module _ (file m places : List ℕ) where
  -- What a refusal leaves.
  no : (n : ℕ) → n ≢ 0 → read_refusal file m places ≡ n → record { number = n; text = 0; passes = 0; count = 0; machine = m; commands = places } ≡ read_into file m places
  unfolding read_into
  no n h e = rw (e, ne_eqb n 0 h)

  module _ {said : Said} (p : said ≡ contents_of file) where
    pub refused-file : said.number ≢ 0
        → record { number = said.number; text = 0; passes = 0; count = 0; machine = m; commands = places } ≡ read_into file m places
    unfolding read_refusal file_refusal
    refused-file h =
        no said.number h
        (sym (asked-first (question9 file) (question13 file) (question1 m ∷ question8 file places ∷ []) (said-number file p) h))

    module _ (g : said.number ≡ 0) where
      -- After the file's questions those of the runs.
      later : read_refusal file m places ≡ asked (question1 m ∷ question8 file places ∷ [])
      unfolding read_refusal file_refusal
      later =
          asked-later (question9 file) (question13 file) (question1 m ∷ question8 file places ∷ []) (λ q. omega (arith, q)) (λ q. omega (arith, q))
          (sym (said-number file p) ∙ g)

      -- The commands that are counted.
      counts : said.count ≡ length (file_of file).commands
      counts = ap (λ (c : Said). c.count) (said-good file p g)

      pub other_length : length m ≢ machine_length → record { number = 1; text = 0; passes = 0; count = 0; machine = m; commands = places } ≡ read_into file m places
      unfolding asked
      other_length h = no 1 (λ q. omega (arith, q)) (rw (later, ne_eqb (length m) machine_length h))

      module _ (l : length m ≡ machine_length) where
        none : said.count ≤ length places → eqb (read_refusal file m places) 0 ≡ true
        unfolding asked
        none h = rw (later, eq-eqb (length m) machine_length l, le-leb (length (file_of file).commands) (length places) (omega (arith, h, counts)))

        pub few-places : length places < said.count → record { number = 8; text = 0; passes = 0; count = 0; machine = m; commands = places } ≡ read_into file m places
        unfolding asked
        few-places h =
            no 8 (λ q. omega (arith, q))
            (rw (later, eq-eqb (length m) machine_length l, lt-leb (length (file_of file).commands) (length places) (omega (arith, h, counts))))

        pub loaded : said.count ≤ length places → {m' places' : List ℕ} → m' ≡ (file_of file).machine → places' ≡ sets places 0 (file_of file).commands
            → {text : ℕ} → text ≡ text_number said.text → record { number = 0; text = text; passes = said.passes; count = said.count; machine = m'; commands = places' } ≡ read_into file m places
        unfolding read_into
        loaded h a b t = rw (t, said-good file p g, a, b, none h)

-- What a refusal handed on answers.
pub refused_on : (m places : List ℕ) (r : Result ReadAnswer Refusal) (e : Refusal) → IsErrAnd r (λ y. y ≡ e) →
    read_answer r m places ≡ record { number = number_of e; text = 0; passes = 0; count = 0; machine = m; commands = places }
refused_on m places r e h = let p = err_from_is_err_and r h in rw (p.1, p.2) refl
