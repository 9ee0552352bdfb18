-- `machine::functions_built` meets its contract: the flags are those of the built functions.
-- Assumes nothing.
use mathlib.Core.Path.{refl}
use Prim.Native.Nat.{◌+◌}
use lib.Dec.{lit<}
use Rattle.base_lists.specs.Lists.{is_one_of}
use Rattle.layout.specs.Layout.{modifier_at, modifier_words, MMODE}
use Rattle.layout_codes.specs.BuiltCodes.{built_functions, built_function, old_built_functions, old_built_function}
use Rattle.machine_sweep.proofs.Words.{flags-tell, fields-tested}
use Rattle.machine.specs.AsCoded.{functions_built}
use Rattle.machine.proofs.functions_built.Goals as goal

pub returns-in-Of1978 : goal.returns-in-Of1978
unfolding functions_built built_function built_functions is_one_of
returns-in-Of1978 c =
    rw c.in-Of1978.is
    (fields-tested _ built_function 32 (lit< tt) (flags-tell _ 32 _ refl built_function tt) 4 c.args.m.now (modifier_at 0 + MMODE) modifier_words 128 c.functions_by.result c.functions_by.ensures)

pub returns-in-Old : goal.returns-in-Old
unfolding functions_built old_built_function old_built_functions is_one_of
returns-in-Old c =
    rw c.in-Old.is
    (fields-tested _ old_built_function 32 (lit< tt) (flags-tell _ 32 _ refl old_built_function tt) 4 c.args.m.now (modifier_at 0 + MMODE) modifier_words 128 c.functions_by-in-Old.result c.functions_by-in-Old.ensures)
