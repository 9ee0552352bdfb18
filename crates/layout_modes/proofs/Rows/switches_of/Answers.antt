-- `layout_modes::Rows::switches_of` meets its contract: the row of the table is the definition's, and its numbers tell the switches.
-- Assumes nothing.
use Rattle.layout_modes.proofs.RunModes.{row_at, row-tells}
use Rattle.layout_modes.proofs.Rows.switches_of.Goals as goal

pub returns : goal.returns
returns c = rw (c.output_by.ensures, c.args.self.now.right, row_at c.args.run c.requires) (row-tells c.args.run)
