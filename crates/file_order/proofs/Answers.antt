-- What the answer to a file tells of it.
-- Assumes nothing.
use mathlib.Core.Path.{◌≡◌, refl, ap}
use mathlib.Core.List.{List}
use mathlib.Core.Bool.{Bool, true, false, ◌&&◌}
use mathlib.Core.Logic.{◌≢◌}
use Prim.Native.Nat.{ℕ, ◌≤◌}
use borrow.Author.Tests.{leb-true}
use native.Mathlib.Omega.{arith}
use lib.Dec.{leb}
use lib.ListN.{length, take, length-map}
use lib.Seq.{sets}
use Rattle.base_lists.specs.Lists.{zeros}
use Rattle.base_lists.proofs.Below.{and_first, and_second}
use Rattle.base_lists.proofs.Zeros.{zeros-length}
use Rattle.layout.specs.Layout.{generators}
use Rattle.file_bytes.proofs.Puts.{first_part}
use Rattle.file_lines.specs.Lines.{lines_of, ended}
use Rattle.file_order.specs.OrderFile.{entry_of, entry, all_entries, is_order_file, order_of, OrderAnswer, no_order_file, read_of}

-- An order file names at most as many entries as there are generators.
pub order-short : (file : List ℕ) → is_order_file file ≡ true → length (order_of file) ≤ generators
unfolding is_order_file order_of
order-short file e =
    let few = ended file && leb (length (lines_of file)) generators in
    let l = and_second (ended file) (leb (length (lines_of file)) generators) (and_first few (all_entries (lines_of file)) e) in
    rw (length-map (lines_of file) (λ l. entry (entry_of l))) (leb-true (length (lines_of file)) generators l)

-- What an order file answers, and what another file does.
module _ (file : List ℕ) where
  read-file : is_order_file file ≡ true → read_of file ≡ record { number = 0; count = length (order_of file); entries = sets (zeros generators) 0 (order_of file) }
  unfolding read_of
  read-file e = rw e

  read-other : is_order_file file ≡ false → read_of file ≡ record { number = 9; count = 0; entries = zeros generators }
  unfolding read_of no_order_file
  read-other e = rw e

  -- The number tells which it is.
  pub number-zero : (read_of file).number ≡ 0 → is_order_file file ≡ true
  number-zero z = by (is_order_file file) refl
    where
      by : (b : Bool) → is_order_file file ≡ b → b ≡ true
      by true e = refl
      by false e = let n = ap (λ (a : OrderAnswer). a.number) (read-other e) in absurd (omega (arith, n, z))

  pub number-nine : (read_of file).number ≢ 0 → (is_order_file file ≡ false) × ((read_of file).number ≡ 9)
  number-nine n = by (is_order_file file) refl
    where
      by : (b : Bool) → is_order_file file ≡ b → (b ≡ false) × ((read_of file).number ≡ 9)
      by true e = absurd (n (ap (λ (a : OrderAnswer). a.number) (read-file e)))
      by false e = (refl, ap (λ (a : OrderAnswer). a.number) (read-other e))

  -- The entries have their room, and in an order file the first of them are its order.
  pub count-within : (read_of file).count ≤ generators
  count-within = by (is_order_file file) refl
    where
      by : (b : Bool) → is_order_file file ≡ b → (read_of file).count ≤ generators
      by true e = rw (read-file e) (order-short file e)
      by false e = rw (read-other e) (omega arith)

  pub entries-are : is_order_file file ≡ true → take (read_of file).count (read_of file).entries ≡ order_of file
  entries-are e =
      let s = order-short file e in
      rw (read-file e) (first_part (order_of file) (zeros generators) (rw zeros-length s))
