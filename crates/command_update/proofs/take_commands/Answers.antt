-- `command_update::take_commands` meets its contract: where lingering goes on nothing is taken, and else what the loop takes, at most as many as the word of the update ticks says.
-- Assumes nothing.
use mathlib.Core.Path.{sym, ◌∙◌}
use native.Mathlib.Omega.{arith}
use lib.ListN.{length-set}
use Rattle.layout.specs.Layout.{lingering_at}
use Rattle.layout.proofs.Reach.{same-reach}
use Rattle.command_update.proofs.Updating.{passes-reach, update-lingers, update-ran}
use Rattle.command_update.proofs.take_commands.Goals as goal

pub still_lingering-requires : goal.still_lingering-requires
still_lingering-requires c = passes-reach _ c.requires

pub returns-then-still_lingering : goal.returns-then-still_lingering
returns-then-still_lingering c = (omega arith, update-lingers c.args.m.now c.args.commands.now c.requires (sym c.still_lingering.ensures ∙ c.if-still_lingering.true))

pub bounds-m-4343 : goal.bounds-m-4343
bounds-m-4343 c =
    let r = passes-reach c.args.m.now c.requires in
    omega (arith, r.all)

pub bounds-m-4116 : goal.bounds-m-4116
bounds-m-4116 c =
    let r = passes-reach c.args.m.now c.requires in
    omega (arith, r.all)

pub run-requires : goal.run-requires
run-requires c = same-reach (length-set c.args.m.now lingering_at 0) (passes-reach c.args.m.now c.requires)

pub shape_of-m : goal.shape_of-m
shape_of-m c = c.run.auto.m ∙ length-set c.args.m.now lingering_at 0

pub returns : goal.returns
returns c = update-ran c.args.m.now c.args.commands.now c.requires (sym c.still_lingering.ensures ∙ c.if-still_lingering.false) c.wide-most.ensures c.run.ensures
