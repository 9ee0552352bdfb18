-- `parts_shown::pass_by` meets its contract: the pass is from a copy of the contents, over zeros.
-- Assumes nothing.
use Rattle.base_lists.specs.Lists.{zeros}
use Rattle.pass_model.specs.Pass.{plain_call}
use Rattle.parts_shown.proofs.Passes.{leaves}
use Rattle.parts_shown.proofs.pass_by.Goals as goal

pub returns-in-Ok : goal.returns-in-Ok
unfolding zeros
returns-in-Ok c =
    let a = c.args in
    let both = leaves a.text (plain_call a.order.now a.items.now a.places.now) c.copy_from_slice.ensures.after c.in-Ok.ensures in
    record { value = both.0; m_after = both.1.0; places_after = both.1.1 }

pub returns-in-Err : goal.returns-in-Err
unfolding zeros
returns-in-Err c =
    let a = c.args in
    let both = leaves a.text (plain_call a.order.now a.items.now a.places.now) c.copy_from_slice.ensures.after c.in-Err.ensures in
    record { value = both.0; m_after = both.1.0; places_after = both.1.1 }
