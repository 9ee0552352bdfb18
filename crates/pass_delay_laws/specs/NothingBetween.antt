-- Passes with nothing between them, each on the machine and the delay memory that the one before left; and a machine whose delay unit runs in all of them.
-- Assumes nothing.
use Rattle.std.specs.Prelude.{ℕ, ◌+◌, ◌*◌, ◌^◌, set}
use Rattle.layout.specs.Layout.{modifier_at, quadrant_at, delay_at, delay_p, t_at, MMODE}
use Rattle.layout.specs.Machine.{Machine, Memory, ticks_of, with_update_ticks}
use Rattle.layout_texts.specs.declared.Text.TheVariants.{Of1978}
use Rattle.machine.specs.Questions.{fresh_machine}
use Rattle.pass_sums.specs.Sums.{generator_last}
use Rattle.base_sequences.specs.Sequences.{by_number}
use Rattle.pass_model.specs.Pass.{Call}
use Rattle.pass_laws.specs.Passes.{call_of, no_data, passes_by_number}

-- The machine and the call of pass i, by number, with nothing to read and no place to write.
abbrev pub machine_in : Machine → Memory → ℕ → Machine
machine_in m memory i = (passes_by_number Of1978 i m memory).machine

abbrev pub call_in : Machine → Memory → ℕ → Call
call_in m memory i = call_of (by_number (ticks_of m)) (passes_by_number Of1978 i m memory).memory no_data

-- T 10. Modifier 0 invokes delay unit 0, in mode p with X, Y and Z 0; its A is word 0 of generator-last, 12,345 in pass 0. All else is as in a fresh machine.
unfoldable pub echo : ℕ → Machine
echo p =
    set (set (set (with_update_ticks (set fresh_machine t_at 10)) (modifier_at 0 + MMODE) (0b00111 * 2 ^ 4)) (quadrant_at generator_last) 12345) (delay_at 0 + delay_p) p
