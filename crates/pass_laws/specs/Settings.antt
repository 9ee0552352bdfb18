-- What a pass leaves of a machine as it was (document 01, "A pass, and two orders of it").
-- Assumes nothing.
use Rattle.std.specs.Prelude.{◌≢◌, ◌≡◌, ℕ, ◌+◌, ◌<◌, eqb, get_or}
use Rattle.layout.specs.Layout.{generator_at, modifier_at, dx_at, t_at, n_at, lingering_at, linger_pass_at, overrun_at, update_ticks_at, delay_at, delay_x, delay_z, delay_p, GN, GM, GP, GL, GSUM, GFM, GMODE, MIN, MRM, MSUM, MMODE}
use Rattle.layout.specs.Machine.{Machine}
use Rattle.layout_texts.specs.Texts.{run_mode_at, other_modes_at}
use Rattle.layout_texts.specs.declared.Text.{Text}
use Rattle.layout_modes.specs.Modes.{wait, running_c}

-- The registers of generator g of a machine r that a pass does not change are as they are in m: all but GJ, GK, GQ, and of GMODE the run mode of a 1001 and of a 1101,
-- which stays one of these: it is in another run mode exactly if it was.
pub record GeneratorKept (text : Text) (m r : Machine) (g : ℕ) : Type 0 where
  pub go : get_or r (generator_at g) 0 ≡ get_or m (generator_at g) 0
  pub gn : get_or r (generator_at g + GN) 0 ≡ get_or m (generator_at g + GN) 0
  pub gm : get_or r (generator_at g + GM) 0 ≡ get_or m (generator_at g + GM) 0
  pub gp : get_or r (generator_at g + GP) 0 ≡ get_or m (generator_at g + GP) 0
  pub gl : get_or r (generator_at g + GL) 0 ≡ get_or m (generator_at g + GL) 0
  pub gsum : get_or r (generator_at g + GSUM) 0 ≡ get_or m (generator_at g + GSUM) 0
  pub gfm : get_or r (generator_at g + GFM) 0 ≡ get_or m (generator_at g + GFM) 0
  pub gmode : run_mode_at text m g ≢ wait → run_mode_at text m g ≢ running_c → get_or r (generator_at g + GMODE) 0 ≡ get_or m (generator_at g + GMODE) 0
  pub gmode_other : (mode : ℕ) → mode ≢ wait → mode ≢ running_c → eqb (run_mode_at text r g) mode ≡ eqb (run_mode_at text m g) mode
  pub gmode_rest : other_modes_at text r g ≡ other_modes_at text m g

-- Those of modifier k: all but M0, M1, L0 and L1.
pub record ModifierKept (m r : Machine) (k : ℕ) : Type 0 where
  pub min : get_or r (modifier_at k + MIN) 0 ≡ get_or m (modifier_at k + MIN) 0
  pub mrm : get_or r (modifier_at k + MRM) 0 ≡ get_or m (modifier_at k + MRM) 0
  pub msum : get_or r (modifier_at k + MSUM) 0 ≡ get_or m (modifier_at k + MSUM) 0
  pub mmode : get_or r (modifier_at k + MMODE) 0 ≡ get_or m (modifier_at k + MMODE) 0

-- Those of delay unit u: all but Y and the words on their way.
pub record DelayKept (m r : Machine) (u : ℕ) : Type 0 where
  pub x : get_or r (delay_at u + delay_x) 0 ≡ get_or m (delay_at u + delay_x) 0
  pub z : get_or r (delay_at u + delay_z) 0 ≡ get_or m (delay_at u + delay_z) 0
  pub p : get_or r (delay_at u + delay_p) 0 ≡ get_or m (delay_at u + delay_p) 0

-- All settings of a machine, and what an update sets.
pub record SettingsKept (text : Text) (m r : Machine) : Type 0 where
  pub generator : (g : ℕ) → g < 256 → GeneratorKept text m r g
  pub modifier : (k : ℕ) → k < 128 → ModifierKept m r k
  pub delay : (u : ℕ) → u < 32 → DelayKept m r u
  pub dx : get_or r dx_at 0 ≡ get_or m dx_at 0
  pub t : get_or r t_at 0 ≡ get_or m t_at 0
  pub n : get_or r n_at 0 ≡ get_or m n_at 0
  pub update_ticks : get_or r update_ticks_at 0 ≡ get_or m update_ticks_at 0
  pub lingering : get_or r lingering_at 0 ≡ get_or m lingering_at 0
  pub linger_pass : get_or r linger_pass_at 0 ≡ get_or m linger_pass_at 0
  pub overrun : get_or r overrun_at 0 ≡ get_or m overrun_at 0
