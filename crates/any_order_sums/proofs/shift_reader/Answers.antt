-- `any_order_sums::shift_reader` meets its contract: the 0111s' places are those of the sum words.
-- Assumes nothing.
use Rattle.std.proofs.Common.{◌≡◌, ◌+◌, ap, ◌∙◌, arith}
use Rattle.any_order_sums.specs.AsCoded.{kind_moved}
use Rattle.any_order_sums.proofs.shift_reader.Goals as goal

pub returns : goal.returns
returns c =
    let a = c.args in
    let e : 0 + a.w ≡ a.w = omega arith in
    c.shift_on_word.ensures ∙ ap (kind_moved a.up a.kept.now) e
