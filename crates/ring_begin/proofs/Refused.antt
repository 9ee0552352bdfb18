-- The line of what is refused.
-- Assumes nothing.
use mathlib.Core.Path.{◌≡◌, ap, ◌∙◌}
use mathlib.Core.Logic.{◌≢◌}
use mathlib.Core.List.{List, []}
use Prim.Native.Nat.{ℕ, ◌≤◌}
use native.Mathlib.Omega.{arith}
use borrow.Author.Tests.{eq-eqb, ne_eqb}
use lib.ListN.{length, take, replicate, length-replicate}
use lib.Seq.{sets}
use Rattle.file_bytes.proofs.Puts.{first_part}
use Rattle.file_printed.specs.Text.{line_bytes, refusal_line, order_refusal_line}
use Rattle.file_printed.proofs.Lines.{refusal-line-length, order-refusal-line-length}
use Rattle.ring_begin.specs.AsCoded.{refusals_line}

-- The line by its two numbers.
pub line_first : (number other : ℕ) → number ≢ 0 → refusals_line number other ≡ refusal_line number
unfolding refusals_line
line_first number other h = rw (ne_eqb number 0 h)

pub line_second : (number other : ℕ) → number ≡ 0 → other ≢ 0 → refusals_line number other ≡ order_refusal_line other
unfolding refusals_line
line_second number other z h = rw (eq-eqb number 0 z, ne_eqb other 0 h)

pub line-none : (number other : ℕ) → number ≡ 0 → other ≡ 0 → refusals_line number other ≡ []
unfolding refusals_line
line-none number other z y = rw (eq-eqb number 0 z, eq-eqb other 0 y)

-- A line put in a buffer of zeros is the first part of it.
in-buffer : (line : List ℕ) {n : ℕ} {buffer : List ℕ} → length line ≤ line_bytes → n ≡ length line → buffer ≡ sets (replicate line_bytes 0) 0 line → take n buffer ≡ line
in-buffer line h en eb = rw (en, eb) (first_part line (replicate line_bytes 0) (omega (arith, h, length-replicate {A = ℕ} line_bytes 0)))

pub refused-put : {number told n : ℕ} {buffer : List ℕ} → told ≡ number → n ≡ length (refusal_line told) → buffer ≡ sets (replicate line_bytes 0) 0 (refusal_line told)
    → (n ≤ line_bytes) × (take n buffer ≡ refusal_line number)
refused-put {number} {told} e en eb =
    let h = refusal-line-length told in
    (omega (arith, h, en), in-buffer (refusal_line told) (omega (arith, h)) en eb ∙ ap refusal_line e)

pub order-put : {number told n : ℕ} {buffer : List ℕ} → told ≡ number → n ≡ length (order_refusal_line told) → buffer ≡ sets (replicate line_bytes 0) 0 (order_refusal_line told)
    → (n ≤ line_bytes) × (take n buffer ≡ order_refusal_line number)
order-put {number} {told} e en eb =
    let h = order-refusal-line-length told in
    (omega (arith, h, en), in-buffer (order_refusal_line told) (omega (arith, h)) en eb ∙ ap order_refusal_line e)
