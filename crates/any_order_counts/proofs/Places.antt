-- What a generator moves, by the branches that the code takes: the place of its kind, and what goes with it.
-- Assumes nothing.
use mathlib.Core.Path.{◌≡◌, refl, ◌∙◌}
use mathlib.Core.Logic.{◌≢◌}
use mathlib.Core.Bool.{Bool, true, false, ◌&&◌}
use Prim.Native.Nat.{ℕ, ◌+◌, ◌-◌, ◌*◌}
use borrow.Author.Tests.{eq-eqb, ne_eqb}
use lib.Dec.{eqb, leb}
use Rattle.base_lists.specs.Lists.{is_one_of}
use Rattle.layout.specs.Machine.{Machine, gsum_at, gfm_at}
use Rattle.layout_texts.specs.Texts.{run_mode_at, dac_number_at}
use Rattle.layout_texts.specs.declared.Text.TheVariants.{Of1978}
use Rattle.layout_modes.specs.Modes.{wait, free, read_data, write_data, write_dac, adds, replaces}
use Rattle.layout_modes.proofs.Exclusions.{on-not-off}
use Rattle.layout_modes.proofs.RunModes.{replaces-is}
use Rattle.compare_agreement.specs.Agreement.{settings_of, awaits}
use Rattle.any_order_sums.specs.Places.{Kept, all_readers_at, awaiting_at}
use Rattle.any_order_sums.specs.AsCoded.{moved, moved_if, kind_moved}
use Rattle.any_order_counts.specs.Kept.{place_in}
use Rattle.any_order_counts.specs.AsCoded.{role_moved}

module _ (up : Bool) (m : Machine) (k : Kept) (g : ℕ) {run : ℕ} (is : run ≡ run_mode_at Of1978 m g) where
  -- One that doesn't wait has no pair below it.
  no-pair : eqb run wait ≡ false → awaits (settings_of Of1978 m) g ≡ false
  no-pair e = rw (← is, e) (go (leb 1 g) (free (run_mode_at Of1978 m (g - 1))))
    where
      go : (b c : Bool) → ((b && false) && c) ≡ false
      go true c = refl
      go false c = refl

  -- One that neither is a 0111 nor waits moves its kind's count alone.
  alone : eqb run read_data ≡ false → eqb run wait ≡ false → {i : ℕ} → place_in m g ≡ i → {left : Kept} → left ≡ kind_moved up k i → left ≡ role_moved up m k g
  unfolding moved_if
  alone r w at e = e ∙ rw (no-pair w, ← is, replaces-is run, r, at)

  pub adder-moved : adds run ≡ true → {w : ℕ} → w ≡ gsum_at m g → {left : Kept} → left ≡ kind_moved up k (64 + w) → left ≡ role_moved up m k g
  unfolding place_in adds is_one_of
  adder-moved a w-is =
      let r : eqb run read_data ≡ false = on-not-off adds run read_data a refl in
      let w : eqb run wait ≡ false = on-not-off adds run wait a refl in
      alone r w (rw (← is, replaces-is run, r, a, w-is))

  pub writer-moved : run ≡ write_data → {v : ℕ} → v ≡ gfm_at m g → {left : Kept} → left ≡ kind_moved up k (128 + v) → left ≡ role_moved up m k g
  unfolding place_in replaces adds is_one_of
  writer-moved h v-is = alone (rw h) (rw h) (rw (← is, h, v-is))

  pub feeder-moved : run ≡ write_dac → {d v : ℕ} → d ≡ dac_number_at Of1978 m g → v ≡ gfm_at m g → {left : Kept} → left ≡ kind_moved up k (256 + 128 * d + v) → left ≡ role_moved up m k g
  unfolding place_in replaces adds is_one_of
  feeder-moved h d-is v-is = alone (rw h) (rw h) (rw (← is, h, d-is, v-is))

  pub reader-moved : run ≡ read_data → {w : ℕ} → w ≡ gsum_at m g → {kind left : Kept} → kind ≡ kind_moved up k w → left ≡ moved up kind all_readers_at → left ≡ role_moved up m k g
  unfolding place_in moved_if
  reader-moved h w-is kind-is e =
      let r : replaces run ≡ true = replaces-is run ∙ eq-eqb run read_data h in
      e ∙ rw (no-pair (rw h), ← is, r, kind-is, w-is)

  pub other-moved : adds run ≡ false → run ≢ write_data → run ≢ write_dac → run ≢ read_data
      → {await : Bool} → await ≡ awaits (settings_of Of1978 m) g → {kind left : Kept} → kind ≡ kind_moved up k 2304 → left ≡ moved_if await up kind awaiting_at → left ≡ role_moved up m k g
  unfolding place_in moved_if
  other-moved a w d r await-is kind-is e =
      let n : replaces run ≡ false = replaces-is run ∙ ne_eqb run read_data r in
      e ∙ rw (kind-is, await-is, ← is, n, a, ne_eqb run write_data w, ne_eqb run write_dac d)
