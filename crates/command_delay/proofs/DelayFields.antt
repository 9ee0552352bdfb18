-- DLY by UU, with its fields as the code found them.
-- Assumes nothing.
use mathlib.Core.Path.{◌≡◌}
use mathlib.Core.Logic.{◌≢◌}
use mathlib.Core.Bool.{Bool, true, false}
use mathlib.Core.List.{List}
use Prim.Native.Nat.{ℕ, ◌+◌, ◌-◌, ◌^◌}
use lib.ListN.{set}
use borrow.Author.Tests.{ne_eqb}
use Rattle.layout.specs.Layout.{delay_at, delay_x, delay_y, delay_z, delay_p}
use Rattle.layout.specs.Widths.{delay_bits}
use Rattle.layout_codes.specs.BuiltCodes.{built_mode}
use Rattle.command_delay.specs.DelayLoads.{uu_of, delay_data, delay_mode_data, delay_number, built_dly, loaded_dly}

module _ (c : ℕ) {uu : ℕ} (eu : uu ≡ uu_of c) where
  -- Whether it is built.
  pub uu-11-not-built : uu ≡ 0b11 → false ≡ built_dly c
  unfolding built_dly
  uu-11-not-built e = rw (← eu, e)

  pub mode-judged : {p : ℕ} {b : Bool} → uu ≡ 0b10 → p ≡ delay_mode_data c → b ≡ built_mode p → b ≡ built_dly c
  unfolding built_dly
  mode-judged e ep eb = rw (← eu, e, eb, ep)

  pub x-and-y-built : uu ≢ 0b11 → uu ≢ 0b10 → true ≡ built_dly c
  unfolding built_dly
  x-and-y-built unused z = rw (← eu, ne_eqb uu 0b11 unused, ne_eqb uu 0b10 z)

  -- What it loads.
  module _ (m : List ℕ) {unit number : ℕ} (at : unit ≡ delay_number c) (en : number ≡ delay_data c) where
    pub loads-x : uu ≡ 0b00 → set (set m (delay_at unit + delay_x) number) (delay_at unit + delay_y) 0 ≡ loaded_dly m c
    unfolding loaded_dly
    loads-x e = rw (← eu, e, at, en)

    pub loads-y : uu ≡ 0b01 → set m (delay_at unit + delay_y) (2 ^ delay_bits - 1 - number) ≡ loaded_dly m c
    unfolding loaded_dly
    loads-y e = rw (← eu, e, at, en)

    pub loads-z-and-p : {p : ℕ} → uu ≡ 0b10 → p ≡ delay_mode_data c → set (set m (delay_at unit + delay_z) number) (delay_at unit + delay_p) p ≡ loaded_dly m c
    unfolding loaded_dly
    loads-z-and-p e ep = rw (← eu, e, at, en, ep)

    pub loads-nothing : uu ≢ 0b00 → uu ≢ 0b01 → uu ≢ 0b10 → m ≡ loaded_dly m c
    unfolding loaded_dly
    loads-nothing x y z = rw (← eu, ne_eqb uu 0b00 x, ne_eqb uu 0b01 y, ne_eqb uu 0b10 z)
