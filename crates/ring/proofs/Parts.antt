-- The part of the program's buffer that is printed, and that each part rung leaves fewer passes.
-- Assumes nothing.
use mathlib.Core.Path.{◌≡◌, ap}
use mathlib.Core.Logic.{◌≢◌}
use mathlib.Core.List.{List}
use Prim.Native.Nat.{ℕ, ◌≤◌, ◌<◌}
use native.Mathlib.Omega.{arith}
use lib.Dec.{lit≤}
use lib.ListN.{length}
use lib.Seq.{sets, length-sets}
use Rattle.ring_pass.specs.BenchPass.{Ordering}
use Rattle.ring_steps.specs.AsCoded.{Ringing}
use Rattle.ring_gathering.specs.AsCoded.{gathered}
use Rattle.ring_gathering.proofs.Gatherings.{gathered-length, gathered-falls}
use Rattle.ring_steps.specs.declared.Output.TheVariants.{Lines}
use Rattle.layout_texts.specs.declared.Text.{Text}

-- What was put into a buffer has room in it.
put-within : (line bytes : List ℕ) {size : ℕ} {after : List ℕ} → length bytes ≤ length line → size ≡ length bytes → after ≡ sets line 0 bytes → size ≤ length after
put-within line bytes h es ea = omega (arith, es, ap length ea, length-sets line 0 bytes)

pub gathered-within : (text : Text) (by : Ordering) (out : List ℕ) (r : Ringing) {size : ℕ} {after : List ℕ} → size ≡ length (gathered text by Lines (length out) r).bytes
    → after ≡ sets out 0 (gathered text by Lines (length out) r).bytes → size ≤ length after
gathered-within text by out r es ea = put-within out (gathered text by Lines (length out) r).bytes (gathered-length text by Lines (length out) r) es ea

-- Each part leaves fewer passes.
pub part_falls : (text : Text) (by : Ordering) (r : Ringing) {next : Ringing} → r.passes ≢ 0 → next ≡ (gathered text by Lines 65536 r).next → next.passes < r.passes
part_falls text by r n e = rw e (gathered-falls text by Lines 65536 r (lit≤ tt) n)
