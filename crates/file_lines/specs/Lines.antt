-- The lines of a bench file (document 01, "Bench file"; document 02, Q-10): where a file's lines end, and what each says.
-- Assumes nothing.
use Rattle.std.specs.Prelude.{ℕ, ◌+◌, ◌-◌, ◌^◌, Bool, cond, ◌&&◌, Option, Some, None, List, [], ◌∷◌, eqb, leb, ltb, length, get_or, take, drop}
use Prim.Native.Char.{code}
use Rattle.std.specs.Str.{bytes_eq}
use Rattle.layout.specs.Layout.{file_places}
use Rattle.file_bytes.specs.Bytes.{ascii, starts_with, bytes_before}
use Rattle.file_numbers.specs.Numbers.{decimal_in, hexadecimal_in}
use Rattle.layout_texts.specs.declared.Text.{Text}
use Rattle.layout_texts.specs.declared.Text.TheVariants.{Of1978, Old}
use Rattle.file_lines.specs.declared.Line.{Line}
use Rattle.file_lines.specs.declared.Line.TheVariants.{Titled, Passes, Word, Command, Other}

-- The most bytes that a bench file has, and the most passes that it asks for.
abbrev pub file_bytes : ℕ
file_bytes = 65536

abbrev pub most_passes : ℕ
most_passes = 65535

-- What the four kinds of lines start with.
abbrev pub text_start : List ℕ
text_start = ascii "text="

abbrev pub passes_start : List ℕ
passes_start = ascii "passes="

abbrev pub word_start : List ℕ
word_start = ascii "word="

abbrev pub command_start : List ℕ
command_start = ascii "command="

-- What follows a start.
abbrev pub after_start : List ℕ → List ℕ → List ℕ
after_start start file = drop (length start) file

-- What a number makes of a line; no number makes it another line than the four kinds.
abbrev pub line_by : Option ℕ → (ℕ → Line) → Line
line_by (Some n) f = f n
line_by None f = Other

-- PLACE:VALUE, places that a file can name and values below 2^32.
unfoldable pub word_line : List ℕ → Line
word_line file =
    let colon = bytes_before (code ":") file in
    cond (ltb colon (length file))
    (line_by (decimal_in file_places (take colon file)) (λ place. line_by (decimal_in (2 ^ 32) (drop (colon + 1) file)) (λ value. Word place value)))
    Other

-- The text that a value names: `1978`, `old`, or none that is known.
unfoldable pub title_of : List ℕ → Option Text
title_of value = cond (bytes_eq value (ascii "1978")) (Some Of1978) (cond (bytes_eq value (ascii "old")) (Some Old) None)

-- A line, without its LF: `passes=` 0..65,535, `word=PLACE:VALUE`, `command=` and eight hexadecimal capitals, `text=` and any value, or another.
unfoldable pub line_of : List ℕ → Line
line_of file =
    cond (starts_with file passes_start) (line_by (decimal_in (most_passes + 1) (after_start passes_start file)) (λ n. Passes n))
    (cond (starts_with file word_start) (word_line (after_start word_start file))
    (cond (starts_with file command_start) (line_by (hexadecimal_in (after_start command_start file)) (λ c. Command c))
    (cond (starts_with file text_start) (Titled (title_of (after_start text_start file)))
    Other)))

-- Lines with one byte more at the start of the first.
unfoldable pub prepended : ℕ → List (List ℕ) → List (List ℕ)
prepended b [] = (b ∷ []) ∷ []
prepended b (l ∷ ls) = (b ∷ l) ∷ ls

-- The lines of a file, without their LF.
unfoldable pub lines_of : List ℕ → List (List ℕ)
lines_of [] = []
lines_of (b ∷ file) = cond (eqb b (code "\n")) ([] ∷ lines_of file) (prepended b (lines_of file))

-- At most 65,536 bytes, of which the last is an LF.
unfoldable pub ended : List ℕ → Bool
ended file = leb (length file) file_bytes && ltb 0 (length file) && eqb (get_or file (length file - 1) 0) (code "\n")
