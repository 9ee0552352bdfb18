-- Whether a change is let through, by its new word alone. A law joins it to the questions of the changed machine. Assumes nothing.
use Rattle.std.specs.Prelude.{Bool, cond, ◌&&◌, ℕ, eqb, leb, ltb}
use Rattle.layout.specs.Layout.{generators, dacs}
use Rattle.layout.specs.Widths.{gsum_bits, gfm_bits}
use Rattle.layout.specs.Machine.{Machine, ticks_of}
use Rattle.layout_texts.specs.declared.Text.TheVariants.{Of1978}
use Rattle.machine.specs.Questions.{bits, good_gmode}
use Rattle.machine_change.specs.Change.{Change, gmode_change, gsum_change, gfm_change, dac_change, tick_more, tick_fewer}

-- The value of a change of a generator's word.
unfoldable pub value_fits : ℕ → ℕ → Bool
value_fits kind v =
    cond (eqb kind gmode_change) (good_gmode Of1978 v)
    (cond (eqb kind gsum_change) (bits gsum_bits v)
    (cond (eqb kind gfm_change) (bits gfm_bits v)
    (ltb v dacs)))

unfoldable pub let_through : Machine → Change → Bool
let_through m c =
    cond (eqb c.kind tick_more) (ltb (ticks_of m) generators)
    (cond (eqb c.kind tick_fewer) (ltb 1 (ticks_of m))
    (leb c.kind dac_change && ltb c.generator generators && value_fits c.kind c.value))
