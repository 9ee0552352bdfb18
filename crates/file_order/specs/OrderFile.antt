-- A file with an order of the generators: a line `order=G` for each of them, as program sorted prints it.
-- Assumes nothing.
use Rattle.std.specs.Prelude.{ℕ, Bool, true, false, cond, ◌&&◌, Option, Some, None, Result, List, [], ◌∷◌, map, leb, length}
use Rattle.std.proofs.lemmas.List.Edits.{sets}
use Rattle.base_lists.specs.Lists.{zeros}
use Rattle.layout.specs.Layout.{generators}
use Rattle.layout.specs.Machine.{Order}
use Rattle.file_bytes.specs.Bytes.{ascii, starts_with}
use Rattle.file_numbers.specs.Numbers.{decimal_in}
use Rattle.base_questions.specs.declared.Refusal.{Refusal}
use Rattle.base_questions.specs.Refusals.{refused, answer_or}
use Rattle.file_order.specs.declared.Entries.{Entries}
use Rattle.file_lines.specs.Lines.{after_start, lines_of, ended}

-- What a line starts with.
abbrev pub order_start : List ℕ
order_start = ascii "order="

-- The generator that a line names, 0..255 in decimal without leading zeros; or none.
unfoldable pub entry_of : List ℕ → Option ℕ
entry_of line = cond (starts_with line order_start) (decimal_in generators (after_start order_start line)) None

-- Whether there is one, and which.
abbrev pub is_entry : Option ℕ → Bool
is_entry (Some g) = true
is_entry None = false

abbrev pub entry : Option ℕ → ℕ
entry (Some g) = g
entry None = 0

-- Whether each of a file's lines names a generator.
unfoldable pub all_entries : List (List ℕ) → Bool
all_entries [] = true
all_entries (l ∷ ls) = is_entry (entry_of l) && all_entries ls

-- Whether a file is an order file: at most 65,536 bytes, every line ends in LF, and 1 to 256 lines each name a generator.
unfoldable pub is_order_file : List ℕ → Bool
is_order_file file = ended file && leb (length (lines_of file)) generators && all_entries (lines_of file)

-- The order that it names.
unfoldable pub order_of : List ℕ → Order
order_of file = map (λ l. entry (entry_of l)) (lines_of file)

-- An answer: 9 where a file is no order file or 0, how many entries there are, and the entries, with zeros after them.
pub record OrderAnswer : Type 0 where
  pub number : ℕ
  pub count : ℕ
  pub entries : Order

-- What a call answers, told so.
abbrev pub none_read : Entries
none_read = record { count = 0; entries = zeros generators }

abbrev pub order_answer : Result Entries Refusal → OrderAnswer
order_answer r = let read = answer_or none_read r in record { number = refused r; count = read.count; entries = read.entries }

-- The answer to a file that is none.
unfoldable pub no_order_file : OrderAnswer
no_order_file = record { number = 9; count = 0; entries = zeros generators }

-- What reading a file answers.
unfoldable pub read_of : List ℕ → OrderAnswer
read_of file =
    cond (is_order_file file)
    (record { number = 0; count = length (order_of file); entries = sets (zeros generators) 0 (order_of file) })
    no_order_file
