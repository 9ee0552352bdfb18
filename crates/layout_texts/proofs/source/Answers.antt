-- `layout_texts::source` meets its contract: GFM tells what is sent, or the generator's own number.
-- Assumes nothing.
use Rattle.layout_texts.proofs.source.Goals as goal

pub returns-in-Of1978 : goal.returns-in-Of1978
returns-in-Of1978 c = rw c.in-Of1978.is c.gfm.ensures
