-- A run that is filled with another's words is that other.
-- Assumes nothing.
use mathlib.Core.Path.{◌≡◌, ◌∙◌}
use mathlib.Core.List.{List}
use Prim.Native.Nat.{ℕ}
use lib.ListN.{length, get_or}
use lib.Seq.{ext_get_or}
use Rattle.base_fills.specs.Fills.{filled}
use Rattle.base_fills.proofs.Filled.{filled-length, filled-whole}

-- A copy: every word of a run is that of another of its length.
pub filled_copy : (m run : List ℕ) → length run ≡ length m → filled 0 1 (length m) (λ i. get_or m i 0) run ≡ m
filled_copy m run e =
    ext_get_or 0 (filled 0 1 (length m) (λ i. get_or m i 0) run) m (filled-length 0 1 (length m) (λ i. get_or m i 0) run ∙ e)
    (λ i h. rw e at (filled-whole (λ i. get_or m i 0) run i (rw (filled-length 0 1 (length m) (λ i. get_or m i 0) run) at h)))
