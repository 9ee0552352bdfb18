-- `pass_sums::put_quadrant` meets its contract: a block written over a part of the machine.
-- Assumes nothing.
use mathlib.Core.Path.{◌≡◌, sym, ◌∙◌}
use mathlib.Core.List.{List, ◌++◌}
use Prim.Native.Nat.{ℕ, ◌+◌, ◌≤◌}
use native.Mathlib.Omega.{arith}
use lib.ListN.{length, take, drop}
use lib.Seq.{take_all, sets, sets-eq}
use Rattle.std.proofs.lemmas.Slice.{put_mid-paste}
use Rattle.pass_sums.proofs.put_quadrant.Goals as goal

block : (m w : List ℕ) (at : ℕ) → at + 64 ≤ length m → length w ≡ 64 → take at m ++ take 64 w ++ drop (at + 64) m ≡ sets m at w
block m w at h e = rw (take_all 64 w (omega arith)) (sym (rw e at (sets-eq w m at (omega arith))))

pub returns : goal.returns
returns c =
    let a = c.args in
    put_mid-paste a.at _ a.m.now _ a.words.now 64 c.copy_from_slice.ensures.after (omega arith) (sym c.told-words)
    ∙ block a.m.now a.words.now a.at c.requires c.told-words
