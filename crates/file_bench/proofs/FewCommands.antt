-- A bench file has room for its commands: each stands on a line of 16 bytes and an LF, so that 65,536 bytes have at most 3,855 of them.
-- Assumes nothing.
use mathlib.Core.Path.{◌≡◌, refl}
use mathlib.Core.List.{List, [], ◌∷◌}
use mathlib.Core.Bool.{Bool, true, false, cond}
use Prim.Native.Nat.{ℕ, suc, ◌+◌, ◌*◌, ◌^◌, ◌≤◌}
use Prim.Native.Char.{code}
use borrow.Author.Tests.{eqb-true}
use native.Mathlib.Omega.{arith}
use lib.Dec.{eqb}
use lib.ListN.{length, length-drop, length-append}
use Rattle.file_bytes.specs.Bytes.{starts_with}
use Rattle.base_lists.proofs.Choices.{of-cond}
use Rattle.file_bytes.proofs.Searches.{starts-long}
use Rattle.file_numbers.specs.Numbers.{number_in, decimal_in, hexadecimal_in}
use Rattle.std.specs.Prelude.{Option, Some, None}
use Rattle.layout_texts.specs.declared.Text.{Text}
use Rattle.file_lines.specs.Lines.{most_passes, passes_start, word_start, command_start, text_start, after_start, line_by, word_line, title_of, line_of, prepended, lines_of}
use Rattle.file_lines.specs.declared.Line.{Line}
use Rattle.file_lines.specs.declared.Line.TheVariants.{Titled, Passes, Command, Other}
use Rattle.file_lines.proofs.LineKinds.{word-kind}
use Rattle.file_lines.proofs.FileLines.{ended_is}
use Rattle.file_bench.specs.BenchFile.{commands_of, file_of, is_bench_file, command_places}
use Rattle.file_bench.specs.AsCoded.{all_commands}
use Rattle.file_bench.proofs.WholeFile.{bench-file-ended, file-commands}

-- A line of n bytes is long enough for its commands.
Enough : ℕ → Line → Type 0
Enough n l = 17 * length (commands_of l) ≤ n + 1

enough-passes : (n : ℕ) (a : Option ℕ) → Enough n (line_by a (λ i. Passes i))
unfolding Enough
enough-passes n (Some i) = omega arith
enough-passes n None = omega arith

enough-titled : (n : ℕ) (t : Option Text) → Enough n (Titled t)
unfolding Enough
enough-titled n t = omega arith

enough-other : (n : ℕ) → Enough n Other
unfolding Enough
enough-other n = omega arith

enough-word : (n : ℕ) (file : List ℕ) → Enough n (word_line file)
unfolding Enough
enough-word n file = word-kind file (Enough n) (omega arith) (λ i v. omega arith)

-- Eight capitals have eight bytes.
enough-command : (n : ℕ) (file : List ℕ) → length command_start + length file ≤ n → Enough n (line_by (hexadecimal_in file) (λ c. Command c))
unfolding hexadecimal_in Enough
enough-command n file h = by (eqb (length file) 8) refl
  where
    some : 8 ≤ length file → (a : Option ℕ) → Enough n (line_by a (λ c. Command c))
    some l (Some c) = omega (arith, l, h)
    some l None = omega arith

    by : (b : Bool) → eqb (length file) 8 ≡ b → Enough n (line_by (cond b (number_in 16 (2 ^ 32) file) None) (λ c. Command c))
    by true e = let l = eqb-true (length file) 8 e in some (omega arith) (number_in 16 (2 ^ 32) file)
    by false e = omega arith

enough-line : (l : List ℕ) → Enough (length l) (line_of l)
unfolding line_of
enough-line l =
    of-cond (Enough (length l)) (starts_with l passes_start) (enough-passes (length l) (decimal_in (most_passes + 1) (after_start passes_start l)))
    (of-cond (Enough (length l)) (starts_with l word_start) (enough-word (length l) (after_start word_start l)) (by (starts_with l command_start) refl))
  where
    title : Option Text
    title = title_of (after_start text_start l)

    by : (b : Bool) → starts_with l command_start ≡ b
        → Enough (length l) (cond b (line_by (hexadecimal_in (after_start command_start l)) (λ c. Command c)) (cond (starts_with l text_start) (Titled title) Other))
    by true e =
        let h = starts-long l command_start e in
        enough-command (length l) (after_start command_start l) (omega (arith, h, length-drop (length command_start) l))
    by false e = of-cond (Enough (length l)) (starts_with l text_start) (enough-titled (length l) title) (enough-other (length l))

-- The bytes of lines, each with an LF.
bytes : List (List ℕ) → ℕ
bytes [] = 0
bytes (l ∷ ls) = length l + 1 + bytes ls

enough-lines : (ls : List (List ℕ)) → 17 * length (all_commands ls) ≤ bytes ls
unfolding all_commands bytes Enough
enough-lines [] = omega arith
enough-lines (l ∷ ls) =
    let p = enough-line l in
    let q = enough-lines ls in
    omega (arith, p, q, length-append (commands_of (line_of l)) (all_commands ls))

bytes-prepended : (b : ℕ) (ls : List (List ℕ)) (n : ℕ) → bytes ls ≤ n + 1 → bytes (prepended b ls) ≤ suc n + 1
unfolding bytes prepended
bytes-prepended b [] n h = omega arith
bytes-prepended b (l ∷ ls) n h = omega arith

bytes-lines : (file : List ℕ) → bytes (lines_of file) ≤ length file + 1
unfolding bytes lines_of
bytes-lines [] = omega arith
bytes-lines (b ∷ file) =
    let h = bytes-lines file in
    of-cond (λ ls. bytes ls ≤ suc (length file) + 1) (eqb b (code "\n")) {x = [] ∷ lines_of file} {y = prepended b (lines_of file)}
    (omega (arith, h)) (bytes-prepended b (lines_of file) (length file) h)

pub few-commands : (file : List ℕ) → is_bench_file file ≡ true → length (file_of file).commands ≤ command_places
few-commands file f =
    let e = ended_is file (bench-file-ended file f) in
    let a = enough-lines (lines_of file) in
    let b = bytes-lines file in
    rw (file-commands file) (omega (arith, a, b, e.short))
