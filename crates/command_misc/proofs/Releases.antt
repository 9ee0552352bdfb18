-- Generators released one after the other, and MISC's three steps.
-- Assumes nothing.
use mathlib.Core.Path.{◌≡◌, refl}
use mathlib.Core.Bool.{Bool, cond}
use mathlib.Core.Logic.{◌≢◌}
use mathlib.Core.List.{List}
use Prim.Native.Nat.{ℕ, ◌+◌}
use native.Mathlib.Numerals.{add-one}
use borrow.Author.Tests.{ne_eqb}
use lib.Dec.{eqb}
use lib.ListN.{set}
use Rattle.layout.specs.Layout.{dx_at}
use Rattle.layout_modes.specs.Modes.{pause, wait}
use Rattle.command_fields.specs.Fields.{field, flag, data_of}
use Rattle.command_misc.specs.Misc.{released_one, released_below, released, miscellany}

-- None yet, one more, all.
pub none-released : (r : ℕ) (m : List ℕ) → m ≡ released_below r m 0
unfolding released_below
none-released r m = refl

pub one_more : (r g : ℕ) (m : List ℕ) {l k : List ℕ} → l ≡ released_below r m g → k ≡ released_one r l g → k ≡ released_below r m (g + 1)
unfolding released_below
one_more r g m e f = rw (f, e) (rw (add-one g))

pub all-released : (r g : ℕ) (m : List ℕ) {l : List ℕ} → g ≡ 256 → l ≡ released_below r m g → l ≡ released r m
unfolding released
all-released r g m p e = rw p at e

-- DX is loaded where RR is 01.
module _ (m : List ℕ) (c : ℕ) {rr : ℕ} (er : rr ≡ field 29 30 c) where
  pub dx-loads : {v : ℕ} → v ≡ data_of c → rr ≡ 0b01 → set m dx_at v ≡ cond (eqb (field 29 30 c) 0b01) (set m dx_at (data_of c)) m
  dx-loads e h = rw (← er, h, e)

  pub dx-stays : rr ≢ 0b01 → m ≡ cond (eqb (field 29 30 c) 0b01) (set m dx_at (data_of c)) m
  dx-stays h = rw (← er, ne_eqb rr 0b01 h)

-- MISC's three steps.
pub misc-steps : (m : List ℕ) (c : ℕ) {l w p : List ℕ} {x y : Bool} → l ≡ cond (eqb (field 29 30 c) 0b01) (set m dx_at (data_of c)) m
    → x ≡ flag 33 c → w ≡ cond x (released wait l) l → y ≡ flag 34 c → p ≡ cond y (released pause w) w → p ≡ miscellany m c
unfolding miscellany
misc-steps m c e ex f ey g = rw (g, f, e, ex, ey)
