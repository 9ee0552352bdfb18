-- The entries of an order file: what the lines that are left make of those before them, and what reading a file answers.
-- Assumes nothing.
use mathlib.Core.Path.{◌≡◌, refl, ap, sym, ◌∙◌}
use mathlib.Core.List.{List, [], ◌∷◌, map}
use mathlib.Core.Bool.{Bool, true, false, cond, ◌&&◌}
use Prim.Native.Nat.{ℕ, suc, ◌+◌, ◌≤◌, ◌<◌}
use borrow.Author.Tests.{le-leb, lt-leb}
use native.Mathlib.Omega.{arith}
use native.Mathlib.Nat.{add-zero, zero-add}
use lib.Dec.{leb}
use lib.ListN.{length, set, replicate, length-map}
use lib.Seq.{sets}
use Rattle.base_lists.specs.Lists.{zeros}
use Rattle.layout.specs.Layout.{generators}
use Rattle.layout.specs.Machine.{Order}
use Rattle.file_bytes.specs.Bytes.{starts_with}
use Rattle.file_numbers.specs.Numbers.{decimal_in}
use Rattle.std.specs.Prelude.{Option, Some, None}
use Rattle.file_lines.specs.Lines.{after_start, lines_of, ended}
use Rattle.file_order.specs.OrderFile.{order_start, entry_of, entry, all_entries, is_order_file, order_of, OrderAnswer, no_order_file, read_of}

-- A line by its start.
module _ (line : List ℕ) where
  pub entry_named : starts_with line order_start ≡ true → {rest : List ℕ} → rest ≡ after_start order_start line → {n : Option ℕ} → n ≡ decimal_in generators rest → n ≡ entry_of line
  unfolding entry_of
  entry_named t r q = rw (t, ← r) q

  pub entry-none : starts_with line order_start ≡ false → None ≡ entry_of line
  unfolding entry_of
  entry-none f = rw f

-- What a file that is none is answered.
pub none-told : record { number = 9; count = 0; entries = zeros generators } ≡ no_order_file
unfolding no_order_file
none-told = refl

-- A test joined with one that fails.
and_no : (b : Bool) → (b && false) ≡ false
and_no true = refl
and_no false = refl

-- What lines make of n entries that are there.
unfoldable pub with_lines : ℕ → Order → List (List ℕ) → OrderAnswer
with_lines n es ls =
    cond (leb (n + length ls) generators && all_entries ls)
    (record { number = 0; count = n + length ls; entries = sets es n (map (λ l. entry (entry_of l)) ls) })
    no_order_file

-- All lines of a file make what reading it answers; no line more leaves the entries as they are.
lines-all : (file : List ℕ) → ended file ≡ true → with_lines 0 (zeros generators) (lines_of file) ≡ read_of file
unfolding with_lines read_of is_order_file order_of
lines-all file e = rw (e, zero-add, length-map (lines_of file) (λ l. entry (entry_of l)))

lines_none : (n : ℕ) (es : Order) → n ≤ generators → record { number = 0; count = n; entries = es } ≡ with_lines n es []
unfolding with_lines all_entries
lines_none n es h = rw (add-zero, le-leb n generators h)

-- One line more: it names the next entry, it names none, or there is no room for it.
module _ (n : ℕ) (es : Order) (l : List ℕ) (ls : List (List ℕ)) where
  line-entry : {g : ℕ} → entry_of l ≡ Some g → with_lines n es (l ∷ ls) ≡ with_lines (n + 1) (set es n g) ls
  unfolding with_lines all_entries
  line-entry e =
      let i : n + suc (length ls) ≡ n + 1 + length ls = omega arith in
      let j : suc n ≡ n + 1 = omega arith in
      rw (e, i, j)

  line-no-entry : entry_of l ≡ None → no_order_file ≡ with_lines n es (l ∷ ls)
  unfolding with_lines all_entries
  line-no-entry e = rw (e, and_no (leb (n + suc (length ls)) generators))

  line-no-room : generators ≤ n → no_order_file ≡ with_lines n es (l ∷ ls)
  unfolding with_lines
  line-no-room h = let i : generators < n + suc (length ls) = omega arith in rw (lt-leb (n + suc (length ls)) generators i)

-- The sweep under way: the lines that are left make what reading answers.
pub record Reading (file : List ℕ) (left : List (List ℕ)) (count : ℕ) (es : Order) : Type 0 where
  pub few : count ≤ generators
  pub rest : with_lines count es left ≡ read_of file

pub begins : (file : List ℕ) → ended file ≡ true → Reading file (lines_of file) 0 (replicate generators 0)
unfolding zeros
begins file e = record { few = omega arith; rest = lines-all file e }

module _ {file : List ℕ} {left : List (List ℕ)} {count : ℕ} {es : Order} (r : Reading file left count es) where
  pub ends : left ≡ [] → record { number = 0; count = count; entries = es } ≡ read_of file
  ends h = lines_none count es r.few ∙ sym (ap (with_lines count es) h) ∙ r.rest

  module _ {l : List ℕ} {ls : List (List ℕ)} (h : left ≡ l ∷ ls) where
    next : with_lines count es (l ∷ ls) ≡ read_of file
    next = sym (ap (with_lines count es) h) ∙ r.rest

    pub no_room : generators ≤ count → no_order_file ≡ read_of file
    no_room i = line-no-room count es l ls i ∙ next

    module _ {found : Option ℕ} (f : found ≡ entry_of l) where
      pub no-entry : found ≡ None → no_order_file ≡ read_of file
      no-entry i = line-no-entry count es l ls (sym f ∙ i) ∙ next

      pub goes_on : {g : ℕ} → found ≡ Some g → count < generators → Reading file ls (count + 1) (set es count g)
      goes_on i room =
          record {
            few = omega arith;
            rest = sym (line-entry count es l ls (sym f ∙ i)) ∙ next;
          }

-- A file that is not ended is no order file.
pub unended : (file : List ℕ) → ended file ≡ false → no_order_file ≡ read_of file
unfolding read_of is_order_file
unended file e = rw e
