-- `parts_contents::sending` meets its contract: by the text.
-- Assumes nothing.
use Rattle.parts_model.specs.Contents.{sending_contents}
use Rattle.parts_contents.proofs.sending.Goals as goal

pub returns-in-Of1978 : goal.returns-in-Of1978
unfolding sending_contents
returns-in-Of1978 c = rw c.in-Of1978.is c.numbered_last.ensures

pub returns-in-Old : goal.returns-in-Old
unfolding sending_contents
returns-in-Old c = rw c.in-Old.is c.own_numbers.ensures
