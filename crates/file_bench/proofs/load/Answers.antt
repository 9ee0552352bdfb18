-- `file_bench::load` meets its contract: the lines that are left set what all lines set.
-- Assumes nothing.
use mathlib.Core.Path.{refl, ◌∙◌}
use Rattle.file_bench.proofs.Loading as loading
use Rattle.file_bench.proofs.load.Goals as goal

pub loop-line-init : goal.loop-line-init
loop-line-init c = (refl, refl, rw c.into_iter-line-iterator.ensures.into_iter_gives (loading.begins c.args.file.now c.args.m.now c.args.room.now c.requires))

pub load_line-count-requires : goal.load_line-count-requires
load_line-count-requires c = loading.room_for c.loop-line.invariant.2 c.in-Some.ensures.steps

pub loop-line-preserved : goal.loop-line-preserved
loop-line-preserved c =
    let l = rw c.read_line.ensures at c.load_line-count.ensures in (
      c.load_line-count.auto.m ∙ c.loop-line.invariant.0,
      c.load_line-count.auto.room ∙ c.loop-line.invariant.1,
      loading.goes_on c.loop-line.invariant.2 c.in-Some.ensures.steps (l.value, (l.m_after, l.room_after)),
    )

pub returns : goal.returns
returns c =
    let r = loading.ends c.loop-line.invariant.2 c.in-None.ensures.steps.0 in
    record { m_after = r.0; room_after = r.1 }
