-- `put_modifier_at` meets its contract: what is written in the part that is handed on is written in the machine.
use native.Mathlib.Omega.{arith}
use Rattle.pass_model.proofs.Registers.{put_back}
use Rattle.pass_registers.proofs.put_modifier_at.Goals as goal

pub returns : goal.returns
returns c =
    let a = c.args in
    rw (c.store.ensures, c.place-at.ensures) (put_back a.m.now a.k a.unit (omega arith))
