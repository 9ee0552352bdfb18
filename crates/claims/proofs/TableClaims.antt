-- The claims of the tables: the sine's fold by the test of all 8,192 values, and that a table passes the exponential's test exactly where it is the rule's.
-- Assumes nothing.
use mathlib.Core.Path.{◌≡◌, refl, sym, ap, ◌∙◌}
use mathlib.Core.Logic.{◌↔◌}
use mathlib.Core.Bool.{Bool, true, false, cond, not, ◌&&◌}
use mathlib.Core.List.{List}
use Prim.Native.Nat.{ℕ, ◌+◌, ◌-◌, ◌*◌, ◌/◌, ◌%◌, ◌^◌, ◌<◌}
use native.Mathlib.Omega.{arith}
use borrow.Author.Tests.{lt-ltb, leb-false}
use lib.Dec.{T, eqb, leb, lit<}
use lib.ListN.{length, get_or}
use lib.Seq.{ext_get_or}
use Rattle.base_lists.proofs.Below.{and_first, and_second, and_both, below_at, below-from}
use Rattle.base_lists.proofs.Tables.{tabulate-length, tabulate-at}
use Rattle.generator_sine.specs.Sine.{entry, index_of, negative, sign_of, magnitude}
use Rattle.generator_sine.proofs.Exact.{exact-all}
use Rattle.generator_sine.proofs.Fold.{fold-index, fold-sign}
use Rattle.generator_sine.proofs.QuarterSine.{magnitude-at}
use Rattle.generator_exponential.specs.Exponential.{table_size, older_size, bound, within, entry as exponential_entry, entries}
use Rattle.generator_exponential.specs.OlderTable.{older_table}
use Rattle.generator_exponential.proofs.LargestEntries.{right, right-entry, entry-largest}
use Rattle.generator_exponential.proofs.OlderTable.{older-table}
use Rattle.claims.specs.TableClaims.{PassesTest, TableClaims}

-- Place and sign in quarter q.
module _ (k q j : ℕ) (e : k ≡ 2048 * q + j) (h : j < 2048) where
  in-quarter : k / 2048 ≡ q
  in-quarter = omega arith

  in_place : k % 2048 ≡ j
  in_place = omega arith

  place : index_of k ≡ cond (eqb (q % 2) 1) (2047 - j) j
  unfolding index_of
  place = rw (in-quarter, in_place)

  sign : sign_of k ≡ cond (leb 2 q) 1 0
  unfolding sign_of negative
  sign = rw in-quarter

  quarter-is : {i s : ℕ} → cond (eqb (q % 2) 1) (2047 - j) j ≡ i → cond (leb 2 q) 1 0 ≡ s → (magnitude k ≡ entry i) × (sign_of k ≡ s)
  unfolding magnitude
  quarter-is f g = (ap entry (place ∙ f), sign ∙ g)

sine-quarters : (j : ℕ) → j < 2048
    → ((magnitude j ≡ entry j) × (sign_of j ≡ 0)) × ((magnitude (2048 + j) ≡ entry (2047 - j)) × (sign_of (2048 + j) ≡ 0))
    × ((magnitude (4096 + j) ≡ entry j) × (sign_of (4096 + j) ≡ 1)) × ((magnitude (6144 + j) ≡ entry (2047 - j)) × (sign_of (6144 + j) ≡ 1))
sine-quarters j h = (
  quarter-is j 0 j (omega arith) h refl refl,
  quarter-is (2048 + j) 1 j (omega arith) h refl refl,
  quarter-is (4096 + j) 2 j (omega arith) h refl refl,
  quarter-is (6144 + j) 3 j (omega arith) h refl refl,
)

-- Where the next number is not within, the test of an entry passes.
right-passes : (n f e : ℕ) → within n f e ≡ true → within n f (e + 1) ≡ false → T (right (bound ^ n) n f e)
unfolding within right
right-passes n f e p q = rw (p, lt-ltb (bound ^ n) ((e + 1) ^ n * 2 ^ f) (leb-false ((e + 1) ^ n * 2 ^ f) (bound ^ n) q)) tt

not-true : (b : Bool) → not b ≡ true → b ≡ false
not-true true e = sym e
not-true false e = refl

is-entry : (n : ℕ) → 0 < n → (f e : ℕ) → (within n f e && not (within n f (e + 1))) ≡ true → e ≡ exponential_entry n f
is-entry n h f e t =
    let here = within n f e in
    let next = not (within n f (e + 1)) in
    right-entry n h f e (right-passes n f e (and_first here next t) (not-true (within n f (e + 1)) (and_second here next t)))

-- The rule's entry passes: it is the largest within.
entry-is : (n : ℕ) → 0 < n → (f : ℕ) → (within n f (exponential_entry n f) && not (within n f (exponential_entry n f + 1))) ≡ true
entry-is n h f =
    let e = exponential_entry n f in
    and_both (within n f e) (not (within n f (e + 1))) (entry-largest n f h).passes (go (within n f (e + 1)) refl)
  where
    go : (b : Bool) → within n f (exponential_entry n f + 1) ≡ b → not b ≡ true
    go true q = absurd (omega (arith, (entry-largest n f h).most (exponential_entry n f + 1) q))
    go false q = refl

entries-length : (n : ℕ) → length (entries n) ≡ n
unfolding entries
entries-length n = tabulate-length (exponential_entry n) 0 n

entries_at : (n f : ℕ) → f < n → get_or (entries n) f 0 ≡ exponential_entry n f
unfolding entries
entries_at n f h = tabulate-at (exponential_entry n) n f 0 h

table-passes : (n : ℕ) → 0 < n → PassesTest n (entries n)
table-passes n h = below-from (λ f. within n f (get_or (entries n) f 0) && not (within n f (get_or (entries n) f 0 + 1))) n (λ f l. rw (entries_at n f l) (entry-is n h f))

table-test : (n : ℕ) → 0 < n → (table : List ℕ) → length table ≡ n → PassesTest n table ↔ (table ≡ entries n)
table-test n h table l = (
  λ t. ext_get_or 0 table (entries n) (l ∙ sym (entries-length n))
      (λ f b. let k : f < n = omega (arith, b, l) in
      is-entry n h f (get_or table f 0) (below_at (λ f. within n f (get_or table f 0) && not (within n f (get_or table f 0 + 1))) n t f k) ∙ sym (entries_at n f k)),
  λ e. rw e (table-passes n h),
)

pub table-claims : TableClaims
table-claims =
    record {
      sine-folded = λ k h. (fold-index k h, fold-sign k h);
      sine-at = λ k. sym (magnitude-at k);
      sine-quarters = sine-quarters;
      sine-exact = exact-all;
      table-test = table-test;
      tables-pass = (table-passes table_size (lit< tt), (table-test older_size (lit< tt) older_table refl).1 older-table);
    }
