-- A text at the start of a line's buffer, put as its first part into a longer buffer.
-- Assumes nothing.
use mathlib.Core.Path.{◌≡◌, ap, ◌∙◌}
use mathlib.Core.List.{List}
use Prim.Native.Nat.{ℕ, ◌+◌, ◌-◌, ◌≤◌}
use native.Mathlib.Omega.{arith}
use native.Mathlib.Nat.{zero-add}
use lib.ListN.{length, take}
use lib.Seq.{sets, length-sets}
use Rattle.file_bytes.proofs.Puts.{first_part}

module _ (bytes line : List ℕ) (fits : length bytes ≤ length line) {size : ℕ} {after : List ℕ}
    (made : (size ≡ length bytes) × (after ≡ sets line 0 bytes)) where
  pub part-within : size ≤ length after
  part-within = omega (arith, fits, made.0, ap length made.1, length-sets line 0 bytes)

  part-is : take (size - 0) after ≡ bytes
  part-is =
      let k : size - 0 ≡ length bytes = omega (arith, made.0) in
      rw (k, made.1) (first_part bytes line fits)

  pub part-fits : (at n : ℕ) → at + length bytes ≤ n → at + length (take (size - 0) after) ≤ n
  part-fits at n h = rw part-is h

  pub part-put : (at : ℕ) (out : List ℕ) {i : ℕ} {out' : List ℕ} → (i ≡ at + length (take (size - 0) after)) × (out' ≡ sets out at (take (size - 0) after))
      → (i ≡ at + length bytes) × (out' ≡ sets out at bytes)
  part-put at out e = rw part-is at e

  -- At the start of the longer one.
  pub part-first : (out : List ℕ) {i : ℕ} {out' : List ℕ} → (i ≡ 0 + length (take (size - 0) after)) × (out' ≡ sets out 0 (take (size - 0) after))
      → (i ≡ length bytes) × (out' ≡ sets out 0 bytes)
  part-first out e = let put = part-put 0 out e in (put.0 ∙ zero-add _, put.1)
