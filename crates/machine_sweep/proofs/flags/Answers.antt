-- `machine_sweep::flags` meets its contract: the flags passed are those of the mask, in the end all.
-- Assumes nothing.
use Rattle.std.proofs.Common.{◌<◌, ◌≢◌, length, ◌∙◌, arith, length-set, get_or-set_other, get_or-set_same, below_more}
use Rattle.machine_sweep.specs.AsCoded.{flag_of}
use Rattle.machine_sweep.proofs.Words.{flags-are}
use Rattle.machine_sweep.proofs.flags.Goals as goal

pub loop-k-preserved : goal.loop-k-preserved
unfolding flag_of
loop-k-preserved g c = (
  length-set c.loop-k.t c.loop-k.k _ ∙ c.loop-k.invariant.0,
  below_more _ _
      (λ k h. let ne : k ≢ c.loop-k.k = omega arith in rw get_or-set_other (c.loop-k.invariant.1 k h))
      (let lt : c.loop-k.k < length c.loop-k.t = omega (arith, c.loop-k.invariant.0) in rw get_or-set_same c.bit.ensures),
)

pub returns : goal.returns
returns g c = flags-are c.args.mask g.row.N _ c.loop-k.invariant.0 (λ k h. c.loop-k.invariant.1 k (omega arith))
