-- MISC (the 1978 text, "Commands"; document 01, "Commands, update, host").
-- Assumes nothing.
use Rattle.std.specs.Prelude.{ℕ, zero, suc, ◌+◌, cond, eqb, set}
use Rattle.layout.specs.Layout.{generator_at, dx_at, GMODE}
use Rattle.layout.specs.Machine.{Machine, gmode_at}
use Rattle.layout_texts.specs.Texts.{run_mode_at}
use Rattle.layout_texts.specs.declared.Text.TheVariants.{Of1978}
use Rattle.layout_modes.specs.Modes.{pause, wait, running_a, with_run_mode}
use Rattle.command_fields.specs.Fields.{field, flag, data_of}

-- Generator g goes to 1111 if it is in run mode r, its other mode bits kept.
unfoldable pub released_one : ℕ → Machine → ℕ → Machine
released_one r m g = cond (eqb (run_mode_at Of1978 m g) r) (set m (generator_at g + GMODE) (with_run_mode running_a (gmode_at m g))) m

-- Generators 0 to n-1 that are in run mode r go to 1111.
unfoldable pub released_below : ℕ → Machine → ℕ → Machine
released_below r m zero = m
released_below r m (suc n) = released_one r (released_below r m n) n

-- All generators in run mode r go to 1111.
unfoldable pub released : ℕ → Machine → Machine
released r m = released_below r m 256

-- MISC: RR 01 loads DX from data; W clears all wait bits, so that every 1001 becomes 1111; P clears all pause bits, so that every 0001 becomes 1111.
unfoldable pub miscellany : Machine → ℕ → Machine
miscellany m c =
    let with_dx = cond (eqb (field 29 30 c) 0b01) (set m dx_at (data_of c)) m in
    let running = cond (flag 33 c) (released wait with_dx) with_dx in
    cond (flag 34 c) (released pause running) running
