-- `file_bytes::find` meets its contract: the byte stands as far behind as in what is left.
-- Assumes nothing.
use mathlib.Core.Path.{◌≡◌}
use Prim.Native.Nat.{◌+◌}
use lib.ListN.{drop}
use Rattle.file_bytes.specs.Bytes.{bytes_before}
use Rattle.file_bytes.proofs.find.Given as goal

abbrev pub invariant-loop-i : goal.invariant-loop-i
invariant-loop-i l = bytes_before l.x l.bytes ≡ l.i + bytes_before l.x (drop l.i l.bytes)
