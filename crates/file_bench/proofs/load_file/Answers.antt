-- `file_bench::load_file` meets its contract: a fresh machine, what the lines set, and the update ticks that follow.
-- Assumes nothing.
use mathlib.Core.Path.{◌∙◌}
use Rattle.file_bench.proofs.WholeFile as whole
use Rattle.file_bench.proofs.load_file.Goals as goal

pub load-requires : goal.load-requires
load-requires c = whole.bench-file-ended c.args.file.now (whole.unrefused c.args.file.now c.requires.file_value)

pub returns : goal.returns
returns c = let file = c.args.file.now in record { m_after = whole.loads file (c.fresh.ensures.m_after ∙ whole.fresh-run c.args.m.now c.requires.m_len) c.load.ensures.m_after c.count_update_ticks.ensures; room_after = whole.loads-commands file c.args.room.now c.load.ensures.room_after }
