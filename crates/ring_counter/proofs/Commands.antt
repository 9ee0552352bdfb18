-- A command's turn on two machines that differ in the counter's high bits alone: a Linger asks the counter's low bits, no other command asks the counter, and what is put is the same.
-- Assumes nothing.
use mathlib.Core.Path.{◌≡◌}
use mathlib.Core.Bool.{Bool}
use Prim.Native.Nat.{ℕ, zero, suc, ◌+◌, ◌≤◌, ◌<◌}
use native.Mathlib.Omega.{arith}
use lib.Dec.{eqb, ltb, lit<}
use Rattle.layout.specs.Layout.{generator_at, n_at, t_at, dx_at, counter_at, GMODE, MMODE, update_ticks_at}
use Rattle.layout.specs.Machine.{Machine, with_update_ticks}
use Rattle.layout_texts.specs.Texts.{run_mode_at}
use Rattle.layout_texts.specs.declared.Text.TheVariants.{Of1978}
use Rattle.layout_modes.specs.Modes.{pause, wait}
use Rattle.command_fields.specs.Fields.{field, flag, data_of, code3, code4, code5}
use Rattle.command_load.specs.Loads.{loaded_unless, cleared_if, loaded_data, loaded_right, loaded_left, loaded_adjusted, loaded_two, loaded_then_cleared}
use Rattle.command_generator.specs.GeneratorLoads.{loaded_gq, loaded_gj, loaded_gp, loaded_gn, loaded_gl, loaded_gk, loaded_gmode, loaded_go, after_generator_load}
use Rattle.command_modifier.specs.ModifierLoads.{modifier_word, loaded_mm, loaded_ml, loaded_mmode, loaded_mrm, after_modifier_load}
use Rattle.command_misc.specs.Misc.{released_one, released_below, released, miscellany}
use Rattle.command_timer.specs.Timer.{counter_set, behind, waits_for, lingered, tt_of, timed, timer_waits, ticks_set}
use Rattle.command_delay.specs.DelayLoads.{uu_of, loaded_dly}
use Rattle.command.specs.Command.{done, waits}
use Rattle.ring_counter.specs.SameButHigh.{SameButHigh}
use Rattle.ring_counter.proofs.Words.{put, either, below}

module _ {m n : Machine} (s : SameButHigh m n) (c : ℕ) where
  -- The shapes of a load.
  unless-same : (b : Bool) (i v : ℕ) → SameButHigh (loaded_unless b m i v) (loaded_unless b n i v)
  unfolding loaded_unless
  unless-same b i v = either b s (put s i v)

  cleared-same : (b : Bool) (i : ℕ) → SameButHigh (cleared_if b m i) (cleared_if b n i)
  unfolding cleared_if
  cleared-same b i = either b (put s i 0) s

  data-same : (i : ℕ) → SameButHigh (loaded_data m c i) (loaded_data n c i)
  unfolding loaded_data
  data-same i = put s i _

  adjusted-same : (i w : ℕ) → SameButHigh (loaded_adjusted m c i w) (loaded_adjusted n c i w)
  unfolding loaded_adjusted loaded_left loaded_right
  adjusted-same i w = rw (below s dx_at (lit< tt)) (either (flag 27 c) (put (put s i _) _ _) (put s i _))

module _ {m n : Machine} (s : SameButHigh m n) (c : ℕ) where
  two-same : (i v j w : ℕ) → SameButHigh (loaded_two m c i v j w) (loaded_two n c i v j w)
  unfolding loaded_two
  two-same i v j w = unless-same (unless-same s c (flag 4 c) i v) c (flag 5 c) j w

  then-cleared-same : (i v j w k : ℕ) → SameButHigh (loaded_then_cleared m c i v j w k) (loaded_then_cleared n c i v j w k)
  unfolding loaded_then_cleared
  then-cleared-same i v j w k = cleared-same (two-same i v j w) c (flag 6 c) k

  -- The loads, in the sequence of their codes.
  delay-same : SameButHigh (loaded_dly m c) (loaded_dly n c)
  unfolding loaded_dly
  delay-same =
      either (eqb (uu_of c) 0b00) (put (put s _ _) _ _)
      (either (eqb (uu_of c) 0b01) (put s _ _)
      (either (eqb (uu_of c) 0b10) (put (put s _ _) _ _)
      s))

  generator-same : SameButHigh (after_generator_load m c) (after_generator_load n c)
  unfolding after_generator_load loaded_gq loaded_gj loaded_gp loaded_gn loaded_gl loaded_gk loaded_gmode loaded_go
  generator-same =
      either (eqb (code3 c) 0b001) (adjusted-same s c _ _)
      (either (eqb (code3 c) 0b010) (adjusted-same s c _ _)
      (either (eqb (code4 c) 0b0110) (data-same s c _)
      (either (eqb (code4 c) 0b0111) (two-same _ _ _ _)
      (either (eqb (code4 c) 0b1000) (two-same _ _ _ _)
      (either (eqb (code4 c) 0b1001) (data-same s c _)
      (either (eqb (code4 c) 0b1010) (then-cleared-same _ _ _ _ _)
      (either (eqb (code4 c) 0b1011) (data-same s c _)
      s)))))))

  mmode-same : SameButHigh (loaded_mmode m c) (loaded_mmode n c)
  unfolding loaded_mmode
  mmode-same = rw (below s (modifier_word c MMODE) (omega arith)) (cleared-same (unless-same (put s _ _) c (flag 5 c) _ _) c (flag 6 c) _)

  modifier-same : SameButHigh (after_modifier_load m c) (after_modifier_load n c)
  unfolding after_modifier_load loaded_mm loaded_ml loaded_mrm
  modifier-same =
      either (eqb (code3 c) 0b110) (adjusted-same s c _ _)
      (either (eqb (code4 c) 0b1110) (data-same s c _)
      (either (eqb (code5 c) 0b11110) mmode-same
      (either (eqb (code5 c) 0b11111) (then-cleared-same _ _ _ _ _)
      s)))

-- MISC.
one-released : (r : ℕ) {m n : Machine} → SameButHigh m n → (g : ℕ) → g < 256 → SameButHigh (released_one r m g) (released_one r n g)
unfolding released_one
one-released r {m} {n} s g h =
    rw (below s (generator_at g + GMODE) (omega arith))
    (either (eqb (run_mode_at Of1978 n g) r) (put s (generator_at g + GMODE) _) s)

released-same : (r : ℕ) {m n : Machine} → SameButHigh m n → (k : ℕ) → k ≤ 256 → SameButHigh (released_below r m k) (released_below r n k)
unfolding released_below
released-same r s zero l = s
released-same r s (suc k) l = one-released r (released-same r s k (omega arith)) k (omega arith)

miscellany-same : {m n : Machine} → SameButHigh m n → (c : ℕ) → SameButHigh (miscellany m c) (miscellany n c)
unfolding miscellany released
miscellany-same s c =
    let first = either (eqb (field 29 30 c) 0b01) (put s dx_at (data_of c)) s in
    let second = either (flag 33 c) (released-same wait first 256 (omega arith)) first in
    either (flag 34 c) (released-same pause second 256 (omega arith)) second

-- TIMER: a Linger by the counter's low bits.
module _ {m n : Machine} (s : SameButHigh m n) where
  pub behind-same : (k : ℕ) → behind m k ≡ behind n k
  unfolding behind
  behind-same k = rw s.low

  pub waits-same : (k : ℕ) → waits_for m k ≡ waits_for n k
  unfolding waits_for
  waits-same k = rw (behind-same k)

  lingered-same : (k : ℕ) → SameButHigh (lingered m k) (lingered n k)
  unfolding lingered
  lingered-same k = rw (waits-same k, behind-same k) (either (waits_for n k) (put (put s _ _) _ _) (either (eqb (behind n k) 0) s (put s _ _)))

cleared-counter : {m n : Machine} → SameButHigh m n → (k : ℕ) → SameButHigh (counter_set m k) (counter_set n k)
unfolding counter_set
cleared-counter s k = put s counter_at k

update-ticks-same : {m n : Machine} → SameButHigh m n → SameButHigh (with_update_ticks m) (with_update_ticks n)
unfolding with_update_ticks
update-ticks-same s = rw (below s t_at (lit< tt), below s n_at (lit< tt)) (put s update_ticks_at _)

module _ {m n : Machine} (s : SameButHigh m n) (c : ℕ) where
  timed-same : SameButHigh (timed m c) (timed n c)
  unfolding timed
  timed-same =
      either (eqb (tt_of c) 0b01) (cleared-counter s (data_of c))
      (either (eqb (tt_of c) 0b10) (lingered-same s (data_of c))
      (either (eqb (tt_of c) 0b11) (lingered-same (cleared-counter s 0) (data_of c)) s))

  timer-waits-same : timer_waits m c ≡ timer_waits n c
  unfolding timer_waits
  timer-waits-same = rw (waits-same s (data_of c), waits-same (cleared-counter s 0) (data_of c))

  -- TICKS.
  ticks-same : SameButHigh (ticks_set m c) (ticks_set n c)
  unfolding ticks_set
  ticks-same = update-ticks-same (either (flag 32 c) (put s _ _) (put s _ _))

  -- A command, and whether it waits.
  pub done-same : SameButHigh (done m c) (done n c)
  unfolding done
  done-same =
      either (eqb (code5 c) 0b00000) (miscellany-same s c)
      (either (eqb (code5 c) 0b00001) (delay-same s c)
      (either (eqb (code5 c) 0b00010) timed-same
      (either (eqb (code5 c) 0b00011) ticks-same
      (either (ltb (code5 c) 0b11000) (generator-same s c) (modifier-same s c)))))

  pub command-waits-same : waits m c ≡ waits n c
  unfolding waits
  command-waits-same = rw timer-waits-same
