-- `generator_at` meets its contract: the part of the machine that is lent runs to its end.
use mathlib.Core.Path.{ap, ◌∙◌}
use Rattle.layout.specs.Layout.{generator_at}
use Rattle.base_lists.proofs.Parts.{part-from}
use Rattle.generator.specs.Generator.{loaded}
use Rattle.pass_model.specs.Generators.{generator_of}
use Rattle.pass_generators.proofs.generator_at.Goals as goal

pub returns : goal.returns
unfolding generator_of
returns c =
    let a = c.args in
    c.load.ensures ∙ ap loaded (part-from a.m.now (generator_at a.g))
