-- `parts_shown::differ_by` meets its contract: what two passes leave is compared word by word, and where no word differs what they wrote item by item.
-- Assumes nothing.
use mathlib.Core.Path.{sym}
use lib.Seq.{length-take-le}
use Rattle.base_lists.specs.Lists.{zeros}
use Rattle.layout.specs.Layout.{generators}
use Rattle.pass_model.specs.Pass.{plain_call}
use Rattle.parts_shown.proofs.Passes.{left-within, says-word, says-item}
use Rattle.parts_shown.proofs.differ_by.Goals as goal

pub returns-then-word-lt-MACHINE_LENGTH : goal.returns-then-word-lt-MACHINE_LENGTH
unfolding zeros
returns-then-word-lt-MACHINE_LENGTH c =
    let a = c.args in
    let long = c.m-2-1.given in
    says-word a.text a.contents.now a.items.now a.first.now a.second.now (c.pass_by-written.ensures.value, (c.pass_by-written.ensures.m_after, c.pass_by-written.ensures.places_after)) (c.pass_by-other_written.ensures.value, (c.pass_by-other_written.ensures.m_after, c.pass_by-other_written.ensures.places_after)) long c.first_different-word.ensures
    c.if-word-lt-MACHINE_LENGTH.true

pub slice_bounds-places-end : goal.slice_bounds-places-end
unfolding zeros
slice_bounds-places-end c =
    let a = c.args in
    left-within a.text a.contents.now (plain_call a.first.now a.items.now (zeros generators)) (c.pass_by-written.ensures.value, (c.pass_by-written.ensures.m_after, c.pass_by-written.ensures.places_after))

pub slice_bounds-first_different-end-3 : goal.slice_bounds-first_different-end-3
unfolding zeros
slice_bounds-first_different-end-3 c =
    let a = c.args in
    sym (length-take-le _ _ (left-within a.text a.contents.now (plain_call a.first.now a.items.now (zeros generators)) (c.pass_by-written.ensures.value, (c.pass_by-written.ensures.m_after, c.pass_by-written.ensures.places_after))))

pub slice_bounds-other_places-end : goal.slice_bounds-other_places-end
unfolding zeros
slice_bounds-other_places-end c =
    let a = c.args in
    left-within a.text a.contents.now (plain_call a.second.now a.items.now (zeros generators)) (c.pass_by-other_written.ensures.value, (c.pass_by-other_written.ensures.m_after, c.pass_by-other_written.ensures.places_after))

pub slice_bounds-first_different-end-4 : goal.slice_bounds-first_different-end-4
unfolding zeros
slice_bounds-first_different-end-4 c =
    let a = c.args in
    sym (length-take-le _ _ (left-within a.text a.contents.now (plain_call a.second.now a.items.now (zeros generators)) (c.pass_by-other_written.ensures.value, (c.pass_by-other_written.ensures.m_after, c.pass_by-other_written.ensures.places_after))))

pub returns : goal.returns
unfolding zeros
returns c =
    let a = c.args in
    let long = c.m-2-1.given in
    says-item a.text a.contents.now a.items.now a.first.now a.second.now (c.pass_by-written.ensures.value, (c.pass_by-written.ensures.m_after, c.pass_by-written.ensures.places_after)) (c.pass_by-other_written.ensures.value, (c.pass_by-other_written.ensures.m_after, c.pass_by-other_written.ensures.places_after)) long c.first_different-word.ensures
    c.if-word-lt-MACHINE_LENGTH.false c.first_different-item.ensures
