-- The lines that program sorted prints, as text.
-- Assumes nothing.
use Rattle.std.specs.Prelude.{ℕ, List, [], ◌∷◌, ◌++◌}
use Rattle.layout.specs.Machine.{Order}
use Rattle.file_order.specs.OrderFile.{order_start}
use Rattle.parts_shown.specs.declared.Difference.{Difference}
use Rattle.parts_shown.specs.declared.Difference.TheVariants.{Word, Written}
use Rattle.file_bytes.specs.Bytes.{ascii}
use Rattle.file_printed.specs.Text.{named, newline}

-- The line of an entry of an order, as an order file has it, and the lines of an order.
unfoldable pub entry_line : ℕ → List ℕ
entry_line g = named order_start g ++ newline

unfoldable pub order_lines : Order → List ℕ
order_lines [] = []
order_lines (g ∷ order) = entry_line g ++ order_lines order

-- The texts of the other lines.
abbrev pub equal_line : List ℕ
equal_line = ascii "equal\n"

abbrev pub point_text : List ℕ
point_text = ascii "point="

abbrev pub place_text : List ℕ
place_text = ascii " place="

abbrev pub word_text : List ℕ
word_text = ascii " word="

abbrev pub written_text : List ℕ
written_text = ascii " written="

-- The name and the place of a difference.
abbrev pub difference_text : Difference → List ℕ
difference_text (Word w) = named word_text w
difference_text (Written i) = named written_text i

-- That place alone.
abbrev pub difference_place : Difference → ℕ
difference_place (Word w) = w
difference_place (Written i) = i

-- The line of a point that fails: its number, the place at which it fails, and the first word or written item by which passes from the contents differ.
unfoldable pub failing_line : ℕ → ℕ → Difference → List ℕ
failing_line point place difference = named point_text point ++ (named place_text place ++ (difference_text difference ++ newline))

-- The room for the line of an entry, whatever its number.
abbrev pub entry_bytes : ℕ
entry_bytes = 17
