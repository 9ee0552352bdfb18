-- The printed lines of an order are an order file that names it: each line is read as the entry that it was printed of.
-- Assumes nothing.
use mathlib.Core.Path.{◌≡◌, refl, sym, ap, ◌∙◌}
use mathlib.Core.Bool.{Bool, true, false, true≢false}
use mathlib.Core.List.{List, [], ◌∷◌, ◌++◌, map, append-nil}
use Prim.Native.Nat.{ℕ, suc, ◌+◌, ◌-◌, ◌≤◌, ◌<◌}
use Prim.Native.Char.{code}
use native.Mathlib.Omega.{arith}
use borrow.Author.Tests.{eqb-true, eq-eqb, le-leb}
use lib.Dec.{eqb, ltb}
use lib.ListN.{length, get_or, length-append}
use lib.Seq.{get_or-append_seam, get_or-append-add}
use Rattle.base_lists.proofs.Below.{and_first, and_second}
use Rattle.layout.specs.Layout.{generators}
use Rattle.layout.specs.Machine.{Order}
use Rattle.file_bytes.specs.Bytes.{starts_with}
use Rattle.file_printed.specs.Text.{decimal, named, newline}
use Rattle.file_numbers.specs.Numbers.{digit_value, all_digits}
use Rattle.std.specs.Prelude.{Some}
use Rattle.file_lines.specs.Lines.{prepended, lines_of, ended}
use Rattle.file_lines.proofs.FileLines.{ended_by}
use Rattle.file_order.specs.OrderFile.{order_start, entry_of, entry, all_entries, is_order_file, order_of}
use Rattle.sorted_lines.specs.SortedLines.{entry_line, order_lines}
use Rattle.sorted_lines.proofs.Lines.{order-lines-length}
use Rattle.claims.proofs.PrintedNumbers.{decimal-digits, printed-below}

-- A file of digits ends where its LF stands.
no-newline : (b : ℕ) → ltb (digit_value b) 10 ≡ true → eqb b (code "\n") ≡ false
unfolding digit_value
no-newline b h = go (eqb b (code "\n")) refl
  where
    go : (v : Bool) → eqb b (code "\n") ≡ v → v ≡ false
    go true e = absurd (true≢false (sym h ∙ rw (eqb-true b (code "\n") e)))
    go false e = refl

digit-lines : (file rest : List ℕ) → all_digits 10 file ≡ true → lines_of ((file ++ newline) ++ rest) ≡ file ∷ lines_of rest
unfolding lines_of prepended all_digits
digit-lines [] rest h = refl
digit-lines (b ∷ file) rest h =
    let digit = ltb (digit_value b) 10 in
    rw (no-newline b (and_first digit (all_digits 10 file) h), digit-lines file rest (and_second digit (all_digits 10 file) h))

-- The line of an entry.
module _ (g : ℕ) (h : g < generators) where
  entry-lines : (rest : List ℕ) → lines_of (entry_line g ++ rest) ≡ named order_start g ∷ lines_of rest
  unfolding entry_line named lines_of prepended
  entry-lines rest = rw (digit-lines (decimal g) rest (decimal-digits g (omega arith)))

  entry_read : entry_of (named order_start g) ≡ Some g
  unfolding entry_of named starts_with
  entry_read = printed-below g (omega arith) generators h

-- An order whose entries are numbers of generators.
abbrev Small : Order → Type 0
Small o = (i : ℕ) → i < length o → get_or o i 0 < generators

lines_are : (o : Order) → Small o → lines_of (order_lines o) ≡ map (λ g. named order_start g) o
unfolding lines_of order_lines
lines_are [] s = refl
lines_are (g ∷ o) s =
    entry-lines g (s 0 (omega arith)) (order_lines o) ∙ ap (λ (ls : List (List ℕ)). named order_start g ∷ ls) (lines_are o (λ i h. s (suc i) (omega arith)))

all_named : (o : Order) → Small o → all_entries (map (λ g. named order_start g) o) ≡ true
unfolding all_entries
all_named [] s = refl
all_named (g ∷ o) s = rw (entry_read g (s 0 (omega arith))) (all_named o (λ i h. s (suc i) (omega arith)))

entries-are : (o : Order) → Small o → map (λ l. entry (entry_of l)) (map (λ g. named order_start g) o) ≡ o
entries-are [] s = refl
entries-are (g ∷ o) s = rw (entry_read g (s 0 (omega arith)), entries-are o (λ i h. s (suc i) (omega arith)))

names-length : (o : Order) → length (map (λ g. named order_start g) o) ≡ length o
names-length [] = refl
names-length (g ∷ o) = ap suc (names-length o)

-- They end in LF.
entry-some : (g : ℕ) → length (entry_line g) ≡ length (named order_start g) + 1
unfolding entry_line
entry-some g = length-append (named order_start g) newline

entry-last : (g : ℕ) → get_or (entry_line g) (length (named order_start g)) 0 ≡ code "\n"
unfolding entry_line
entry-last g = get_or-append_seam (named order_start g) (code "\n") [] 0

lines-some : (g : ℕ) (o : Order) → 0 < length (order_lines (g ∷ o))
unfolding order_lines
lines-some g o = omega (arith, length-append (entry_line g) (order_lines o), entry-some g)

lines-last : (g : ℕ) (o : Order) → get_or (order_lines (g ∷ o)) (length (order_lines (g ∷ o)) - 1) 0 ≡ code "\n"
unfolding order_lines
lines-last g [] =
    let e : length (entry_line g ++ []) - 1 ≡ length (named order_start g) = omega (arith, entry-some g, ap length (append-nil (entry_line g))) in
    ap (λ (i : ℕ). get_or (entry_line g ++ []) i 0) e ∙ ap (λ (l : List ℕ). get_or l (length (named order_start g)) 0) (append-nil (entry_line g)) ∙ entry-last g
lines-last g (h ∷ o) =
    let rest = order_lines (h ∷ o) in
    let e : length (entry_line g ++ rest) - 1 ≡ length (entry_line g) + (length rest - 1) = omega (arith, length-append (entry_line g) rest, lines-some h o) in
    ap (λ (i : ℕ). get_or (entry_line g ++ rest) i 0) e ∙ get_or-append-add (entry_line g) rest (length rest - 1) 0 ∙ lines-last h o

lines-ended : (o : Order) → 0 < length o → length o ≤ generators → ended (order_lines o) ≡ true
lines-ended [] some few = absurd (omega arith)
lines-ended (g ∷ o) some few =
    sym (ended_by (order_lines (g ∷ o)) (omega (arith, few, order-lines-length (g ∷ o))) (λ z. omega (arith, z, lines-some g o)))
    ∙ eq-eqb (get_or (order_lines (g ∷ o)) (length (order_lines (g ∷ o)) - 1) 0) (code "\n") (lines-last g o)

pub order-printed : (o : Order) → 0 < length o → length o ≤ generators → ((i : ℕ) → i < length o → get_or o i 0 < generators)
    → (is_order_file (order_lines o) ≡ true) × (order_of (order_lines o) ≡ o)
unfolding is_order_file order_of
order-printed o some few small =
    (rw (lines-ended o some few, lines_are o small, names-length o, le-leb (length o) generators few, all_named o small), rw (lines_are o small) (entries-are o small))
