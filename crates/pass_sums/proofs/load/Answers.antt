-- `pass_sums::load` meets its contract: the four quadrants are the definition's.
-- Assumes nothing.
use Rattle.pass_sums.proofs.Memory.{load_code}
use Rattle.pass_sums.proofs.load.Goals as goal

pub returns : goal.returns
returns c =
    load_code c.args.m.now c.quadrant-generator_this.result c.quadrant-generator_last.result c.quadrant-modifier_this.result c.quadrant-modifier_last.result
    c.quadrant-generator_this.ensures c.quadrant-generator_last.ensures c.quadrant-modifier_this.ensures c.quadrant-modifier_last.ensures
