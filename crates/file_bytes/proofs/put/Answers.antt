-- `file_bytes::put` meets its contract: the part of the buffer is the text.
-- Assumes nothing.
use mathlib.Core.Path.{refl, sym, ◌∙◌}
use native.Mathlib.Omega.{arith}
use lib.ListN.{length}
use lib.Seq.{sets-eq, take_all}
use Rattle.std.proofs.lemmas.Slice.{put_mid-paste}
use Rattle.file_bytes.proofs.put.Goals as goal

pub returns-clause-out_after : goal.returns-clause-out_after
returns-clause-out_after c =
    let bytes = c.args.bytes.now in
    let out = c.args.out.now in
    put_mid-paste c.args.at _ out _ bytes (length bytes) c.copy_from_slice.ensures.after (omega arith) refl
    ∙ rw (take_all (length bytes) bytes (omega arith)) (sym (sets-eq bytes out c.args.at c.requires))
