-- The tests of the first and the fourth point by the branches that the code takes: what it asks of run modes and places decides them.
-- Assumes nothing.
use mathlib.Core.Path.{◌≡◌, refl}
use mathlib.Core.Logic.{◌≢◌}
use mathlib.Core.Bool.{Bool, true, false, ◌&&◌}
use mathlib.Core.List.{List}
use Prim.Native.Nat.{ℕ, ◌-◌}
use lib.Dec.{eqb, leb}
use lib.ListN.{get_or, set}
use borrow.Author.Tests.{eq-eqb, ne_eqb}
use Rattle.layout_modes.specs.Modes.{wait, free, adds}
use Rattle.layout.specs.Machine.{Machine, gsum_at}
use Rattle.layout_texts.specs.Texts.{run_mode_at, distance_of}
use Rattle.layout_texts.specs.declared.Text.{Text}
use Rattle.compare_agreement.specs.Agreement.{settings_of, awaits}
use Rattle.compare_points.specs.AsCoded.{Sides, side_by, neighbour_by, adder_by, word_marked_by}

-- One that doesn't wait awaits nothing.
pub not-waiting : (text : Text) (m : Machine) (g : ℕ) {run : ℕ} → run ≡ run_mode_at text m g → run ≢ wait → awaits (settings_of text m) g ≡ false
not-waiting text m g {run} is h =
    let e : eqb (run_mode_at text m g) wait ≡ false = rw (← is) (ne_eqb run wait h) in
    rw e (go (leb (distance_of text) g) (free (run_mode_at text m (g - distance_of text))))
  where
    go : (b c : Bool) → ((b && false) && c) ≡ false
    go true c = refl
    go false c = refl

-- The first point at g, where it awaits nothing and where it does.
module _ (text : Text) (m : Machine) (sides : Sides) (g : ℕ) where
  pub nothing-awaited : awaits (settings_of text m) g ≡ false → true ≡ neighbour_by text m sides g
  unfolding neighbour_by
  nothing-awaited e = rw e

  pub by-sides : awaits (settings_of text m) g ≡ true → {distance : ℕ} → distance ≡ distance_of text → side_by sides (g - distance) g ≡ neighbour_by text m sides g
  unfolding neighbour_by
  by-sides e d = rw (e, d)

-- Generator g and its word: it doesn't add; the word has no 0111; the sides.
module _ (text : Text) (m : Machine) (sides : Sides) (last : List ℕ) (g : ℕ) {run : ℕ} (is : run ≡ run_mode_at text m g) where
  add_none : adds run ≡ false → adder_by text m sides last (gsum_at m g) g ≡ true
  unfolding adder_by
  add_none h =
      let e : adds (run_mode_at text m g) ≡ false = rw (← is) h in
      rw (eq-eqb (gsum_at m g) (gsum_at m g) refl, e)

  module _ (h : adds run ≡ true) {w l : ℕ} (is-w : w ≡ gsum_at m g) (is-l : l ≡ get_or last w 0) where
    there : l ≡ get_or last (gsum_at m g) 0
    there = rw (← is-w) is-l

    on : adds (run_mode_at text m g) ≡ true
    on = rw (← is) h

    replaced-none : l ≡ 0 → adder_by text m sides last (gsum_at m g) g ≡ true
    unfolding adder_by
    replaced-none z = rw (eq-eqb (gsum_at m g) (gsum_at m g) refl, on, ← there, eq-eqb l 0 z)

    side-of : l ≢ 0 → adder_by text m sides last (gsum_at m g) g ≡ side_by sides (l - 1) g
    unfolding adder_by
    side-of z = rw (eq-eqb (gsum_at m g) (gsum_at m g) refl, on, ← there, ne_eqb l 0 z)

-- What this makes of the marks.
module _ (text : Text) (m : Machine) (sides : Sides) (last marks : List ℕ) (g : ℕ) {run : ℕ} (is : run ≡ run_mode_at text m g) where
  pub no_add : adds run ≡ false → marks ≡ word_marked_by text m sides last g marks
  no_add h = rw (add_none text m sides last g is h)

  module _ (h : adds run ≡ true) {w l : ℕ} (is-w : w ≡ gsum_at m g) (is-l : l ≡ get_or last w 0) where
    pub no-replaced : l ≡ 0 → marks ≡ word_marked_by text m sides last g marks
    no-replaced z = rw (replaced-none text m sides last g is h is-w is-l z)

    pub one_side : l ≢ 0 → side_by sides (l - 1) g ≡ true
        → marks ≡ word_marked_by text m sides last g marks
    one_side z s = rw (side-of text m sides last g is h is-w is-l z, s)

    pub two-sides : l ≢ 0 → side_by sides (l - 1) g ≡ false
        → set marks w 1 ≡ word_marked_by text m sides last g marks
    two-sides z s = rw (side-of text m sides last g is h is-w is-l z, s, is-w)
