-- `file_numbers::value` meets its contract: the digits that are left go on from the number so far.
-- Assumes nothing.
use mathlib.Core.Path.{◌≡◌}
use Prim.Native.Nat.{◌<◌}
use lib.ListN.{drop}
use Rattle.file_numbers.specs.Numbers.{all_digits, written_after}
use Rattle.file_numbers.proofs.value.Given as goal

abbrev pub invariant-loop-b : goal.invariant-loop-b
invariant-loop-b l =
    (l.v < l.limit) × (all_digits l.base l.bytes ≡ all_digits l.base (drop l.b-index l.bytes)) × (written_after l.base 0 l.bytes ≡ written_after l.base l.v (drop l.b-index l.bytes))
