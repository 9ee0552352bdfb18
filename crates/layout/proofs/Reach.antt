-- A run keeps its reach with its length.
-- Assumes nothing.
use Rattle.std.proofs.Common.{◌≡◌, ℕ, List, length, arith}
use Rattle.layout.specs.Machine.{Reaches}

pub same-reach : {l m : List ℕ} → length m ≡ length l → Reaches l → Reaches m
same-reach e r =
    record { all = omega (arith, e, r.all) }
