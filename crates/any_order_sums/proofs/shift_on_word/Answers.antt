-- `any_order_sums::shift_on_word` meets its contract: the shared words follow where the other kind is there and the count has begun or ceased to be 0.
-- Assumes nothing.
use Rattle.any_order_sums.proofs.Steps.{word-alone, word-shared}
use Rattle.any_order_sums.proofs.shift_on_word.Goals as goal

pub returns-then-kept-other-eq0 : goal.returns-then-kept-other-eq0
returns-then-kept-other-eq0 c =
    let a = c.args in
    word-alone a.up a.kept.now a.i c.shift-n.ensures.value c.shift-n.ensures.kept_after c.requires.0 c.requires.1 c.if-kept-other-eq0.true

pub returns : goal.returns
returns c =
    let a = c.args in
    word-shared a.up a.kept.now a.i c.shift-n.ensures.value c.shift-n.ensures.kept_after c.requires.0 c.requires.1 c.if-kept-other-eq0.false c.shift_if.ensures
