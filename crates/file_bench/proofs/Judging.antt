-- The first sweep: what its steps do, and that it gives a file's title, phase, passes and number of commands.
-- Assumes nothing.
use mathlib.Core.Path.{◌≡◌, refl, ap, sym, ◌∙◌}
use mathlib.Core.List.{List, [], ◌∷◌}
use Prim.Native.Nat.{ℕ, suc, ◌+◌, ◌≤◌, ◌<◌}
use Prim.Native.Char.{code}
use mathlib.Core.Logic.{◌⊎◌, inl, inr}
use native.Mathlib.Omega.{arith}
use native.Mathlib.Nat.{add-zero}
use lib.ListN.{length, length-append}
use Rattle.file_lines.specs.Lines.{file_bytes, line_of, lines_of, prepended, ended}
use Rattle.std.specs.Prelude.{Option, Some}
use Rattle.layout_texts.specs.declared.Text.{Text}
use Rattle.layout_texts.specs.declared.Text.TheVariants.{Of1978}
use Rattle.file_lines.specs.declared.Line.{Line}
use Rattle.file_lines.specs.declared.Line.TheVariants.{Titled, Passes, Word, Command, Other}
use Rattle.file_lines.proofs.FileLines.{ended-short}
use Rattle.base_lists.proofs.Choices.{of-cond}
use mathlib.Core.Bool.{true}
use lib.Dec.{eqb}
use Rattle.file_phases.specs.Phases.{phase_after}
use Rattle.file_phases.specs.declared.Phase.{Phase}
use Rattle.file_phases.specs.declared.Phase.TheVariants.{Start}
use Rattle.file_bench.specs.BenchFile.{with_title, with_passes, commands_of, Reading, unread, with_line, with_lines, file_of}
use Rattle.file_bench.specs.AsCoded.{outline, judged_line, judged_lines}
use Rattle.file_bench.specs.declared.File.{File}

-- A step.
module _ (f : File) (l : Line) where
  pub judged : {title : Option Text} {next : Phase} {passes count : ℕ} → title ≡ with_title f.title l → next ≡ phase_after f.title f.phase l → passes ≡ with_passes f.passes l
      → count ≡ f.count + length (commands_of l) → record { title = title; phase = next; passes = passes; count = count } ≡ judged_line f l
  unfolding judged_line
  judged t e p c = rw (t, e, p, c)

  -- A word and another line change the phase alone.
  pub judged-same : ((p : ℕ) × (v : ℕ) × (l ≡ Word p v)) ⊎ (l ≡ Other) → {next : Phase} → next ≡ phase_after f.title f.phase l
      → record { title = f.title; phase = next; passes = f.passes; count = f.count } ≡ judged_line f l
  unfolding judged_line
  judged-same (inl (p, v, s)) e = rw (e, s, add-zero)
  judged-same (inr s) e = rw (e, s, add-zero)

-- A line brings at most one command.
pub one-command : (l : Line) → length (commands_of l) ≤ 1
one-command (Titled t) = omega arith
one-command (Passes n) = omega arith
one-command (Word p v) = omega arith
one-command (Command c) = omega arith
one-command Other = omega arith

judged-count : (f : File) (l : Line) → (judged_line f l).count ≤ f.count + 1
unfolding judged_line
judged-count f l = omega (arith, one-command l)

-- The outline of a file with a line more, and with lines more.
outline-line : (r : Reading) (l : Line) → outline (with_line r l) ≡ judged_line (outline r) l
unfolding with_line judged_line
outline-line r l = rw (length-append r.commands (commands_of l))

outline-lines : (r : Reading) (ls : List (List ℕ)) → outline (with_lines r ls) ≡ judged_lines (outline r) ls
unfolding with_lines judged_lines
outline-lines r [] = refl
outline-lines r (l ∷ ls) = outline-lines (with_line r (line_of l)) ls ∙ ap (λ (f : File). judged_lines f ls) (outline-line r (line_of l))

-- A file has no more lines than bytes.
longer : (b : ℕ) (ls : List (List ℕ)) (n : ℕ) → length ls ≤ n → length (prepended b ls) ≤ suc n
unfolding prepended
longer b [] n h = omega arith
longer b (l ∷ ls) n h = omega arith

few-lines : (file : List ℕ) → length (lines_of file) ≤ length file
unfolding lines_of
few-lines [] = omega arith
few-lines (b ∷ file) =
    let h = few-lines file in
    of-cond (λ ls. length ls ≤ suc (length file)) (eqb b (code "\n")) {x = [] ∷ lines_of file} {y = prepended b (lines_of file)}
    (omega (arith, h)) (longer b (lines_of file) (length file) h)

pub ended-few : (file : List ℕ) → ended file ≡ true → length (lines_of file) ≤ file_bytes
ended-few file e = omega (arith, few-lines file, ended-short file e)

-- The sweep under way: the lines that are left make the whole file's outline.
pub record Judging (file : List ℕ) (left : List (List ℕ)) (f : File) : Type 0 where
  pub few : f.count + length left ≤ file_bytes
  pub rest : judged_lines f left ≡ outline (file_of file)

pub begins : (file : List ℕ) → ended file ≡ true → Judging file (lines_of file) (record { title = Some Of1978; phase = Start; passes = 0; count = 0 })
unfolding file_of
begins file e = record { few = omega (arith, ended-few file e); rest = sym (outline-lines unread (lines_of file)) }

module _ {file : List ℕ} {left : List (List ℕ)} {f : File} (j : Judging file left f) where
  pub ends : left ≡ [] → f ≡ outline (file_of file)
  unfolding judged_lines
  ends h = sym (ap (judged_lines f) h) ∙ j.rest

  module _ {l : List ℕ} {ls : List (List ℕ)} (h : left ≡ l ∷ ls) where
    pub room_for : f.count < file_bytes
    room_for = omega (arith, j.few, ap length h)

    pub goes_on : {g : File} → g ≡ judged_line f (line_of l) → Judging file ls g
    unfolding judged_lines
    goes_on {g} s =
        let c = judged-count f (line_of l) in
        record {
          few = rw s (omega (arith, j.few, c, ap length h));
          rest = rw s (sym (ap (judged_lines f) h) ∙ j.rest);
        }
