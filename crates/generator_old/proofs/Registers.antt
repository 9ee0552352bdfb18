-- The registers are within their widths after a turn, GMODE within its 8 bits.
-- Assumes nothing.
use mathlib.Core.Bool.{Bool, ◌&&◌}
use Prim.Native.Nat.{ℕ, ◌^◌, ◌<◌}
use native.Mathlib.Omega.{arith}
use lib.Dec.{eqb}
use Rattle.base_words.proofs.Residues.{either-low, low-lt}
use Rattle.generator.specs.declared.Generator.{Generator}
use Rattle.generator.specs.Generator.{Ranged, triggers, after}
use Rattle.generator.proofs.Registers.{after-ranged}
use Rattle.layout_old_modes.specs.OldModes.{old_run}
use Rattle.generator_old.specs.OldGenerator.{switched, old_p, old_gmode_after, old_after}
use Rattle.layout_old_modes.proofs.RunModes.{switched-low}

pub old-p-low : (g : Generator) (f : ℕ) → old_p g f < 2 ^ 20
unfolding old_p
old-p-low g f = low-lt 20 _

pub old-gmode-low : (g : Generator) (triggered_below : Bool) → g.gmode < 2 ^ 8 → old_gmode_after g triggered_below < 2 ^ 8
unfolding old_gmode_after
old-gmode-low g triggered_below h =
    either-low (eqb (old_run g.gmode) 0b101 && triggers (switched g)) (omega arith)
    (either-low (eqb (old_run g.gmode) 0b100 && triggered_below) (omega arith) h)

-- A generator with the 1978 run mode is within the 1978 widths.
switched-ranged : (g : Generator) → Ranged g → Ranged (switched g)
unfolding switched
switched-ranged g r =
    record {
      go-low = r.go-low;
      gj-low = r.gj-low;
      gk-low = r.gk-low;
      gn-low = r.gn-low;
      gm-low = r.gm-low;
      gp-low = r.gp-low;
      gq-low = r.gq-low;
      gl-low = r.gl-low;
      gsum-low = r.gsum-low;
      gfm-low = r.gfm-low;
      gmode-low = omega (arith, switched-low g.gmode g.gn);
    }

pub old-after-ranged : (g : Generator) (f : ℕ) (triggered_below : Bool) → Ranged g → Ranged (old_after g f triggered_below)
unfolding old_after old_gmode_after after
old-after-ranged g f triggered_below r =
    let a = after-ranged (switched g) f triggered_below (switched-ranged g r) in
    record {
      go-low = r.go-low;
      gj-low = a.gj-low;
      gk-low = a.gk-low;
      gn-low = r.gn-low;
      gm-low = r.gm-low;
      gp-low = r.gp-low;
      gq-low = a.gq-low;
      gl-low = r.gl-low;
      gsum-low = r.gsum-low;
      gfm-low = r.gfm-low;
      gmode-low = either-low (eqb (old_run g.gmode) 0b101 && triggers (switched g)) (omega arith) (either-low (eqb (old_run g.gmode) 0b100 && triggered_below) (omega arith) r.gmode-low);
    }
