-- What the run modes of a generator and of its lower neighbour say, by the branches that the code takes.
-- Assumes nothing.
use mathlib.Core.Path.{◌≡◌, refl}
use mathlib.Core.Logic.{◌≢◌}
use mathlib.Core.Bool.{true, false, ◌||◌}
use Prim.Native.Nat.{ℕ, ◌-◌, ◌<◌, ◌≤◌}
use lib.Dec.{eqb, leb}
use borrow.Author.Tests.{eq-eqb, ne_eqb, leb-true, le-leb, lt-leb}
use Rattle.base_lists.specs.Lists.{is_one_of}
use Rattle.base_lists.proofs.Below.{and_first}
use Rattle.layout_modes.specs.Modes.{running_a, free, adds, wait}
use Rattle.layout.specs.Machine.{Machine}
use Rattle.layout_texts.specs.Texts.{run_mode_at, distance_of}
use Rattle.layout_texts.specs.declared.Text.{Text}
use Rattle.compare_agreement.specs.Agreement.{settings_of, awaits}

-- Adding is on in 1111 and in the run modes that can trigger.
pub adds-is : (r : ℕ) → adds r ≡ (eqb r running_a || free r)
unfolding adds free is_one_of
adds-is r = refl

module _ (text : Text) (m : Machine) (g : ℕ) where
  -- One that awaits has a lower neighbour.
  pub some-lower : awaits (settings_of text m) g ≡ true → distance_of text ≤ g
  some-lower e =
      let lower = run_mode_at text m (g - distance_of text) in
      leb-true (distance_of text) g (and_first (leb (distance_of text) g) (eqb (run_mode_at text m g) wait) (and_first _ (free lower) e))

  -- The lowest generators have none.
  pub none-lower : {distance : ℕ} → distance ≡ distance_of text → g < distance → false ≡ awaits (settings_of text m) g
  none-lower d h = rw (← d, lt-leb _ g h)

  module _ {distance : ℕ} (d : distance ≡ distance_of text) (some : distance ≤ g) {run : ℕ} (is : run ≡ run_mode_at text m g) where
    pub no-wait : run ≢ wait → false ≡ awaits (settings_of text m) g
    no-wait h =
        let e : eqb (run_mode_at text m g) wait ≡ false = rw (← is) (ne_eqb run wait h) in
        rw (← d, le-leb distance g some, e)

    pub by-lower : run ≡ wait → {lower : ℕ} → lower ≡ run_mode_at text m (g - distance) → free lower ≡ awaits (settings_of text m) g
    by-lower w {lower} e =
        let waits : eqb (run_mode_at text m g) wait ≡ true = rw (← is) (eq-eqb run wait w) in
        rw (← d, le-leb distance g some, waits, e)
