-- What holds of every turn: what it gives stays within its widths.
-- Assumes nothing.
use mathlib.Core.Bool.{Bool, true, false, cond}
use Prim.Native.Nat.{ℕ, ◌^◌, ◌<◌}
use Rattle.modifier.specs.declared.Modifier.{Modifier}
use Rattle.modifier.specs.declared.Turned.{Turned}
use Rattle.modifier.specs.Modifier.{Ranged, gives, updated}
use Rattle.modifier.proofs.Low.{lows}

-- The registers afterwards and S are within their widths.
pub record Low (t : Turned) : Type 0 where
  pub ranged : Ranged t.unit
  pub s-low : t.s < 2 ^ 20

-- So it is of a turn of u with A.
pub record Steady (u : Modifier) (a : ℕ) (t : Turned) : Type 0 where
  pub low : Ranged u → a < 2 ^ 20 → Low t

module _ (u : Modifier) (a : ℕ) where
  -- A choice between two turns.
  pub either-steady : (b : Bool) {x y : Turned} → Steady u a x → Steady u a y → Steady u a (cond b x y)
  either-steady true p q = p
  either-steady false p q = q

  -- A turn puts words within their widths into M0, M1, L0 and L1, and leaves the other registers.
  pub changed : {m0 m1 l0 l1 s : ℕ} → (Ranged u → a < 2 ^ 20 → (m0 < 2 ^ 30) × (m1 < 2 ^ 30) × (l0 < 2 ^ 20) × (l1 < 2 ^ 20) × (s < 2 ^ 20))
      → Steady u a (gives (updated u m0 m1 l0 l1) s)
  changed h =
      record {
        low =
            λ r g.
            let b = h r g in
            record {
              ranged =
                  record {
                    m0-low = b.0;
                    m1-low = b.1;
                    l0-low = b.2;
                    l1-low = b.3;
                    min-low = r.min-low;
                    mrm-low = r.mrm-low;
                    msum-low = r.msum-low;
                    mmode-low = r.mmode-low;
                  };
              s-low = b.4;
            };
      }

  -- A turn that changes nothing and gives 0.
  pub nothing-steady : Steady u a (gives u 0)
  nothing-steady = changed (λ r g. search lows)
