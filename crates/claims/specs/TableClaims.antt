-- What the papers claim of the tables (document 01, "House tables"; document 02, Q-3 and Q-5).
-- Assumes nothing.
use Rattle.std.specs.Prelude.{ℕ, ◌+◌, ◌-◌, ◌*◌, ◌/◌, ◌%◌, ◌<◌, true, not, ◌&&◌, List, ◌↔◌, ◌≡◌, length, get_or}
use Rattle.std.specs.Int.Bits.{bit_xor}
use Rattle.base_lists.specs.Lists.{all_below}
use Rattle.generator_sine.specs.Sine.{entry, exact, quarter, index_of, sign_of, magnitude}
use Rattle.generator_exponential.specs.Exponential.{table_size, older_size, within, entries}
use Rattle.generator_exponential.specs.OlderTable.{older_table}

-- A table of n passes the exponential's test, over all its entries together: at each place f, e^n times 2^f is at most 4,093^n for the entry e, and not for e + 1.
abbrev pub PassesTest : ℕ → List ℕ → Type 0
PassesTest n table = all_below (λ f. within n f (get_or table f 0) && not (within n f (get_or table f 0 + 1))) n ≡ true

pub record TableClaims : Type 0 where
  -- For all 8,192 values of K the index and the sign by arithmetic on the quarter number are document 01's choice by quarter.
  pub sine-folded : (k : ℕ) → k < 8192 → (bit_xor (k % 2048) (2047 * (k / 2048 % 2)) ≡ index_of k) × (k / 2048 / 2 ≡ sign_of k)
  -- The magnitude stands in the quarter sine at the index. So the sine is document 01's in each quarter: quarters 1 and 3 use 2,047-j, and quarters 2 and 3 are negative.
  pub sine-at : (k : ℕ) → magnitude k ≡ get_or quarter (index_of k) 0
  pub sine-quarters : (j : ℕ) → j < 2048
      → ((magnitude j ≡ entry j) × (sign_of j ≡ 0)) × ((magnitude (2048 + j) ≡ entry (2047 - j)) × (sign_of (2048 + j) ≡ 0))
      × ((magnitude (4096 + j) ≡ entry j) × (sign_of (4096 + j) ≡ 1)) × ((magnitude (6144 + j) ≡ entry (2047 - j)) × (sign_of (6144 + j) ≡ 1))
  -- The rule of the sine's entries is the polynomial itself: neither of its differences is cut off at 0.
  pub sine-exact : (j : ℕ) → j < 2048 → exact j ≡ true
  -- The rule of the exponential is tested over all entries of a table together, of whatever size: a table of n passes exactly where it is the rule's.
  pub table-test : (n : ℕ) → 0 < n → (table : List ℕ) → length table ≡ n → PassesTest n table ↔ (table ≡ entries n)
  -- The table of 1,024 passes it, and so does document 01's of 256.
  pub tables-pass : PassesTest table_size (entries table_size) × PassesTest older_size older_table
