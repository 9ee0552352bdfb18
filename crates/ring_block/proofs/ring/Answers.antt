-- `ring_block::ring` meets its contract: as many passes as fit, by the order that is given, or by that by number.
-- Assumes nothing.
use lib.ListN.{length}
use Rattle.ring_block.proofs.Frames.{fit-room}
use Rattle.ring_block.proofs.Going.{as_called}
use Rattle.ring_block.proofs.ring.Goals as goal

pub ring_by-requires : goal.ring_by-requires
ring_by-requires c = let a = c.args in rw c.fitting-fits.ensures (fit-room (length a.dacs.now) (length a.frames.now) a.passes)

pub returns : goal.returns
returns c =
    let a = c.args in
    as_called a.text a.m.now _ c.given.ensures c.fitting-fits.ensures c.ring_by.ensures
