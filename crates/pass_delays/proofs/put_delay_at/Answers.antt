-- `put_delay_at` meets its contract: what is written in the part that is handed on is written in the machine.
-- Assumes nothing.
use native.Mathlib.Omega.{arith}
use Rattle.layout.specs.Layout.{delay_at}
use Rattle.pass_delays.proofs.Units.{put_back}
use Rattle.pass_delays.proofs.put_delay_at.Goals as goal

pub returns : goal.returns
returns c =
    let a = c.args in
    rw c.store.ensures (put_back a.m.now (delay_at a.n) a.unit (omega arith))
