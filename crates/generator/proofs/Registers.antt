-- The registers are within their widths, as they are loaded and after a turn.
-- Assumes nothing.
use mathlib.Core.Bool.{Bool, not, ◌&&◌}
use mathlib.Core.List.{List}
use Prim.Native.Nat.{ℕ, ◌^◌, ◌<◌}
use native.Mathlib.Omega.{arith}
use lib.Dec.{eqb}
use Rattle.base_words.proofs.Residues.{either-low, low-lt}
use Rattle.base_words.specs.Words.{sum, sum_into, exact_sum}
use Rattle.layout_modes.specs.Modes.{oscillator_on, envelope_on, free, wait, running_c}
use Rattle.generator_envelope.specs.Envelope.{overflows, decayed}
use Rattle.generator.specs.declared.Generator.{Generator}
use Rattle.generator.specs.Generator.{loaded, Ranged, run_mode, gj_after, gk_after, gq_after, gmode_after, p_of, after, triggers}

pub ranged : (m : List ℕ) → Ranged (loaded m)
unfolding loaded
ranged m =
    record {
      go-low = omega arith;
      gj-low = omega arith;
      gk-low = omega arith;
      gn-low = omega arith;
      gm-low = omega arith;
      gp-low = omega arith;
      gq-low = omega arith;
      gl-low = omega arith;
      gsum-low = omega arith;
      gfm-low = omega arith;
      gmode-low = omega arith;
    }

pub p-low : (g : Generator) (f : ℕ) → p_of g f < 2 ^ 20
unfolding p_of
p-low g f = low-lt 20 _

pub decayed-low : (b : Bool) (gq gp : ℕ) → gq < 2 ^ 24 → decayed b gq gp < 2 ^ 24
unfolding decayed
decayed-low b gq gp h = either-low (overflows gq gp && not b) h (low-lt 24 (exact_sum 20 gq gp))

-- After a turn too.
pub after-ranged : (g : Generator) (f : ℕ) (triggered_below : Bool) → Ranged g → Ranged (after g f triggered_below)
unfolding after gj_after gk_after gq_after gmode_after sum sum_into
after-ranged g f triggered_below r =
    record {
      go-low = r.go-low;
      gj-low = either-low (oscillator_on (run_mode g)) (low-lt 28 _) r.gj-low;
      gk-low = either-low (oscillator_on (run_mode g)) (low-lt 20 _) r.gk-low;
      gn-low = r.gn-low;
      gm-low = r.gm-low;
      gp-low = r.gp-low;
      gq-low = either-low (envelope_on (run_mode g)) (decayed-low (free (run_mode g)) g.gq g.gp r.gq-low) r.gq-low;
      gl-low = r.gl-low;
      gsum-low = r.gsum-low;
      gfm-low = r.gfm-low;
      gmode-low = either-low (eqb (run_mode g) running_c && triggers g) (omega arith) (either-low (eqb (run_mode g) wait && triggered_below) (omega arith) r.gmode-low);
    }
