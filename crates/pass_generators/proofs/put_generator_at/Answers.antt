-- `put_generator_at` meets its contract: what is written in the part that is lent is written in the machine.
use native.Mathlib.Omega.{arith}
use Rattle.pass_generators.proofs.Parts.{put_back}
use Rattle.pass_generators.proofs.put_generator_at.Goals as goal

pub returns : goal.returns
returns c =
    let a = c.args in
    rw c.store.ensures (put_back a.m.now a.g a.unit (omega arith))
