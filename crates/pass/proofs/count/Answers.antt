-- `count` meets its contract: the counter's word is the next pass's.
use mathlib.Core.Path.{ap}
use lib.ListN.{set}
use Rattle.layout.specs.Layout.{counter_at}
use Rattle.pass_model.specs.Pass.{counted}
use Rattle.pass.proofs.count.Goals as goal

pub returns : goal.returns
unfolding counted
returns c =
    let m = c.args.m.now in
    ap (set m counter_at) c.next_pass.ensures
