-- `generator::Generator::advance` meets its contract: GQ and GP are within their widths after the oscillator's steps.
-- Assumes nothing.
use Rattle.generator.proofs.Turns.{still-ranged}
use Rattle.generator.proofs.Generator.advance.Goals as goal

pub decay-requires : goal.decay-requires
decay-requires c = rw c.oscillate-turned.ensures (still-ranged _ _ _ c.requires.ranged)

pub decay-requires-else-overflows : goal.decay-requires-else-overflows
decay-requires-else-overflows c = rw c.oscillate-turned.ensures (still-ranged _ _ _ c.requires.ranged)
