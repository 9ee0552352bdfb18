-- A bench file asks for at most 65,535 passes, since no line of it can ask for more.
-- Assumes nothing.
use mathlib.Core.Path.{◌≡◌, refl, sym, subst}
use mathlib.Core.List.{List, [], ◌∷◌}
use mathlib.Core.Bool.{Bool, true, false, cond, ◌&&◌, ◌||◌}
use Prim.Native.Nat.{ℕ, ◌+◌, ◌≤◌}
use native.Mathlib.Omega.{arith}
use borrow.Author.Tests.{ltb-true}
use lib.Dec.{T, eqb, ltb}
use lib.ListN.{length}
use Rattle.base_lists.proofs.Choices.{of-cond}
use Rattle.base_lists.proofs.Tests.{and_right, passes}
use Rattle.file_bytes.specs.Bytes.{starts_with}
use Rattle.file_numbers.specs.Numbers.{all_digits, written_after, number_in, leading_zero, decimal_in, hexadecimal_in}
use Rattle.std.specs.Prelude.{Option, Some, None}
use Rattle.layout_texts.specs.declared.Text.{Text}
use Rattle.file_lines.specs.Lines.{most_passes, passes_start, word_start, command_start, text_start, after_start, line_by, title_of, line_of, lines_of}
use Rattle.file_lines.specs.declared.Line.{Line}
use Rattle.file_lines.specs.declared.Line.TheVariants.{Titled, Passes, Word, Command, Other}
use Rattle.file_lines.proofs.LineKinds.{word-kind}
use Rattle.file_bench.specs.BenchFile.{with_passes, Reading, unread, with_line, with_lines, file_of}

-- A line that asks for no more than that, if for any.
Few : Line → Type 0
Few l = with_passes 0 l ≤ most_passes

few-number : (file : List ℕ) → Few (line_by (number_in 10 (most_passes + 1) file) (λ n. Passes n))
unfolding Few number_in
few-number file = go (all_digits 10 file && ltb (written_after 10 0 file) (most_passes + 1)) refl
  where
    go : (b : Bool) → (all_digits 10 file && ltb (written_after 10 0 file) (most_passes + 1)) ≡ b
        → with_passes 0 (line_by (cond b (Some (written_after 10 0 file)) None) (λ n. Passes n)) ≤ most_passes
    go true e =
        let t : T (all_digits 10 file && ltb (written_after 10 0 file) (most_passes + 1)) = subst T (sym e) tt in
        let l = ltb-true (written_after 10 0 file) (most_passes + 1) (passes (ltb (written_after 10 0 file) (most_passes + 1)) (and_right (all_digits 10 file) (ltb (written_after 10 0 file) (most_passes + 1)) t)) in
        omega (arith, l)
    go false e = omega arith

few-decimal : (file : List ℕ) → Few (line_by (decimal_in (most_passes + 1) file) (λ n. Passes n))
unfolding Few decimal_in
few-decimal file =
    of-cond (λ (a : Option ℕ). with_passes 0 (line_by a (λ n. Passes n)) ≤ most_passes) (eqb (length file) 0 || leading_zero file) {x = None} {y = number_in 10 (most_passes + 1) file} (omega arith) (few-number file)

few-command : (a : Option ℕ) → Few (line_by a (λ c. Command c))
unfolding Few
few-command (Some c) = omega arith
few-command None = omega arith

few-titled : (t : Option Text) → Few (Titled t)
unfolding Few
few-titled t = omega arith

few-other : Few Other
unfolding Few
few-other = omega arith

few-word : (i v : ℕ) → Few (Word i v)
unfolding Few
few-word i v = omega arith

few-line : (l : List ℕ) → Few (line_of l)
unfolding line_of
few-line l =
    of-cond Few (starts_with l passes_start) (few-decimal (after_start passes_start l))
    (of-cond Few (starts_with l word_start) (word-kind (after_start word_start l) Few few-other few-word)
    (of-cond Few (starts_with l command_start) (few-command (hexadecimal_in (after_start command_start l)))
    (of-cond Few (starts_with l text_start) (few-titled (title_of (after_start text_start l))) few-other)))

-- With a line more, and with all.
with-few : (n : ℕ) (l : Line) → n ≤ most_passes → Few l → with_passes n l ≤ most_passes
unfolding Few
with-few n (Titled t) h f = h
with-few n (Passes i) h f = f
with-few n (Word i v) h f = h
with-few n (Command c) h f = h
with-few n Other h f = h

line-few : (r : Reading) (l : Line) → r.passes ≤ most_passes → Few l → (with_line r l).passes ≤ most_passes
unfolding with_line
line-few r l h f = with-few r.passes l h f

lines-few : (r : Reading) (ls : List (List ℕ)) → r.passes ≤ most_passes → (with_lines r ls).passes ≤ most_passes
unfolding with_lines
lines-few r [] h = h
lines-few r (l ∷ ls) h = lines-few (with_line r (line_of l)) ls (line-few r (line_of l) h (few-line l))

pub few-passes : (file : List ℕ) → (file_of file).passes ≤ most_passes
unfolding file_of
few-passes file = lines-few unread (lines_of file) (omega arith)
