-- The exponential, over the table's size n: 1,024 by request Q-5 of document 02, where document 01 ("House tables") had 256.
-- Assumes nothing.
use Rattle.std.specs.Prelude.{ℕ, zero, suc, ◌*◌, ◌/◌, ◌%◌, ◌^◌, ◌≤◌, ◌≡◌, Bool, true, cond, List, leb}
use Rattle.base_lists.specs.Lists.{tabulate}

-- The size of the table: 1,024 entries (Q-5).
abbrev pub table_size : ℕ
table_size = 1024

-- The size that document 01 gave it, which files for the older text keep (Q-10).
abbrev pub older_size : ℕ
older_size = 256

-- The number whose exponential an envelope takes: the high 14 bits of GQ (Q-5).
abbrev pub exponent_of : ℕ → ℕ
exponent_of gq = gq / 2 ^ 10

-- The number whose power the rule names: 4,093.
unfoldable pub bound : ℕ
bound = 4093

-- Whether e^n times 2^f is at most 4,093^n.
unfoldable pub within : ℕ → ℕ → ℕ → Bool
within n f e = leb (e ^ n * 2 ^ f) (bound ^ n)

-- The largest number up to b that passes a test, or 0.
unfoldable pub greatest : (ℕ → Bool) → ℕ → ℕ
greatest p zero = zero
greatest p (suc b) = cond (p (suc b)) (suc b) (greatest p b)

-- A number is the largest of all that pass a test.
pub record Largest (p : ℕ → Bool) (e : ℕ) : Type 0 where
  pub passes : p e ≡ true
  pub most : (x : ℕ) → p x ≡ true → x ≤ e

-- Entry f of n: the largest e with e^n times 2^f at most 4,093^n. (No e above 4,093 is within: the law `entry-largest`.)
unfoldable pub entry : ℕ → ℕ → ℕ
entry n f = greatest (within n f) bound

-- The table of n entries.
unfoldable pub entries : ℕ → List ℕ
entries n = tabulate (entry n) 0 n

-- The exponential of h: entry h mod n shifted right h div n places.
unfoldable pub exponential : ℕ → ℕ → ℕ
exponential n h = entry n (h % n) / 2 ^ (h / n)
