-- The kinds of generators have places of their own: a generator stands at the place of a count just where it is of that count's kind.
-- Assumes nothing.
use mathlib.Core.Path.{◌≡◌, refl, sym, ◌∙◌}
use mathlib.Core.Logic.{◌≢◌}
use mathlib.Core.Bool.{Bool, true, false, ◌&&◌}
use Prim.Native.Nat.{ℕ, ◌+◌, ◌*◌, ◌<◌, ◌≤◌}
use native.Mathlib.Omega.{arith}
use native.Mathlib.Nat.{mod-lt}
use borrow.Author.Tests.{eqb-true, eq-eqb, ne_eqb}
use lib.Dec.{eqb, lit<}
use Rattle.base_lists.specs.Lists.{is_one_of}
use Rattle.base_lists.proofs.Below.{both_ways, and_first, and_second, and_both}
use Rattle.layout.specs.Machine.{Machine, gsum_at, gfm_at}
use Rattle.layout_texts.specs.Texts.{run_mode_at, dac_number_at}
use Rattle.layout_texts.specs.declared.Text.TheVariants.{Of1978}
use Rattle.layout_modes.specs.Modes.{write_data, write_dac, adds, replaces}
use Rattle.layout_modes.proofs.Exclusions.{on-not-off}
use Rattle.layout_modes.proofs.RunModes.{replaces-alone}
use Rattle.any_order_sums.specs.Places.{readers_at, adders_at, writers_at, feeders_at, others_at}
use Rattle.any_order_counts.specs.Kept.{place_in}

-- Two numbers behind the same bound.
behind : (c a b : ℕ) → eqb (c + a) (c + b) ≡ eqb a b
behind c a b =
    both_ways (eqb (c + a) (c + b)) (eqb a b)
    (λ e. eq-eqb a b (omega (arith, eqb-true (c + a) (c + b) e)))
    (λ e. eq-eqb (c + a) (c + b) (omega (arith, eqb-true a b e)))

-- Two pairs behind it.
pairs : (d v e u : ℕ) → v < 128 → u < 128 → eqb (256 + 128 * d + v) (256 + 128 * e + u) ≡ (eqb d e && eqb v u)
pairs d v e u lv lu =
    both_ways (eqb (256 + 128 * d + v) (256 + 128 * e + u)) (eqb d e && eqb v u)
    (λ h.
    let q = eqb-true (256 + 128 * d + v) (256 + 128 * e + u) h in
    and_both (eqb d e) (eqb v u) (eq-eqb d e (omega (arith, q))) (eq-eqb v u (omega (arith, q))))
    (λ h.
    let p = eqb-true d e (and_first (eqb d e) (eqb v u) h) in
    let q = eqb-true v u (and_second (eqb d e) (eqb v u) h) in
    rw (p, q) (eq-eqb (256 + 128 * e + u) (256 + 128 * e + u) refl))

module _ (m : Machine) (g : ℕ) where
  abbrev run : ℕ
  run = run_mode_at Of1978 m g

  -- The kinds.
  kinds : {R : Type 0}
      → (replaces run ≡ true → place_in m g ≡ readers_at (gsum_at m g) → R)
      → (replaces run ≡ false → adds run ≡ true → place_in m g ≡ adders_at (gsum_at m g) → R)
      → (replaces run ≡ false → adds run ≡ false → eqb run write_data ≡ true → place_in m g ≡ writers_at (gfm_at m g) → R)
      → (replaces run ≡ false → adds run ≡ false → eqb run write_data ≡ false → eqb run write_dac ≡ true → place_in m g ≡ feeders_at (dac_number_at Of1978 m g) (gfm_at m g) → R)
      → (replaces run ≡ false → adds run ≡ false → eqb run write_data ≡ false → eqb run write_dac ≡ false → place_in m g ≡ others_at → R)
      → R
  unfolding place_in
  kinds {R} reader adder writer feeder other = go (replaces run) refl (adds run) refl (eqb run write_data) refl (eqb run write_dac) refl
    where
      go : (a : Bool) → replaces run ≡ a → (b : Bool) → adds run ≡ b → (c : Bool) → eqb run write_data ≡ c → (d : Bool) → eqb run write_dac ≡ d → R
      go true ea b eb c ec d ed = reader ea (rw ea)
      go false ea true eb c ec d ed = adder ea eb (rw (ea, eb))
      go false ea false eb true ec d ed = writer ea eb ec (rw (ea, eb, ec))
      go false ea false eb false ec true ed = feeder ea eb ec ed (rw (ea, eb, ec, ed))
      go false ea false eb false ec false ed = other ea eb ec ed (rw (ea, eb, ec, ed))

  -- What a mode that replaces, adds or writes data does not do.
  reader-not : (k : ℕ) → replaces run ≡ true → replaces k ≡ false → eqb run k ≡ false
  reader-not k = on-not-off replaces run k

  adder-not : (k : ℕ) → adds run ≡ true → adds k ≡ false → eqb run k ≡ false
  adder-not k = on-not-off adds run k

  writer-not : eqb run write_data ≡ true → eqb run write_dac ≡ false
  writer-not e = rw (eqb-true run write_data e)

  and-false : (b : Bool) → (b && false) ≡ false
  and-false true = refl
  and-false false = refl

  and-true : (b : Bool) → (b && true) ≡ b
  and-true true = refl
  and-true false = refl

  module _ (gsum : gsum_at m g < 64) (gfm : gfm_at m g < 128) where
    dac : dac_number_at Of1978 m g < 16
    dac = mod-lt _ (lit< tt)

    -- Below the places that are not of a kind.
    pub place-below : place_in m g ≤ others_at
    place-below =
        kinds
        (λ a e. omega (arith, e))
        (λ a b e. omega (arith, e))
        (λ a b c e. omega (arith, e))
        (λ a b c d e. omega (arith, e, dac))
        (λ a b c d e. omega (arith, e))

    pub reader_at : (w : ℕ) → w < 64 → eqb (place_in m g) (readers_at w) ≡ (eqb (gsum_at m g) w && replaces run)
    reader_at w l =
        kinds
        (λ a e. rw (e, a) (sym (and-true (eqb (gsum_at m g) w))))
        (λ a b e. far a (omega (arith, e)))
        (λ a b c e. far a (omega (arith, e)))
        (λ a b c d e. far a (omega (arith, e)))
        (λ a b c d e. far a (omega (arith, e)))
      where
        far : replaces run ≡ false → 64 ≤ place_in m g → eqb (place_in m g) w ≡ (eqb (gsum_at m g) w && replaces run)
        far a h = ne_eqb (place_in m g) w (λ q. omega arith) ∙ sym (rw a (and-false (eqb (gsum_at m g) w)))

    pub adder-at : (w : ℕ) → w < 64 → eqb (place_in m g) (adders_at w) ≡ (eqb (gsum_at m g) w && adds run)
    adder-at w l =
        kinds
        (λ a e. far (replaces-alone run a) (λ q. omega (arith, e)))
        (λ a b e. rw (e, b) (behind 64 (gsum_at m g) w ∙ sym (and-true (eqb (gsum_at m g) w))))
        (λ a b c e. far b (λ q. omega (arith, e)))
        (λ a b c d e. far b (λ q. omega (arith, e)))
        (λ a b c d e. far b (λ q. omega (arith, e)))
      where
        far : adds run ≡ false → place_in m g ≢ 64 + w → eqb (place_in m g) (64 + w) ≡ (eqb (gsum_at m g) w && adds run)
        far a h = ne_eqb (place_in m g) (64 + w) h ∙ sym (rw a (and-false (eqb (gsum_at m g) w)))

    pub writer-at : (v : ℕ) → v < 128 → eqb (place_in m g) (writers_at v) ≡ (eqb run write_data && eqb (gfm_at m g) v)
    unfolding replaces adds is_one_of
    writer-at v l =
        kinds
        (λ a e. far (reader-not write_data a refl) (λ q. omega (arith, e)))
        (λ a b e. far (adder-not write_data b refl) (λ q. omega (arith, e)))
        (λ a b c e. rw (e, c) (behind 128 (gfm_at m g) v))
        (λ a b c d e. far c (λ q. omega (arith, e)))
        (λ a b c d e. far c (λ q. omega (arith, e)))
      where
        far : eqb run write_data ≡ false → place_in m g ≢ 128 + v → eqb (place_in m g) (128 + v) ≡ (eqb run write_data && eqb (gfm_at m g) v)
        far a h = ne_eqb (place_in m g) (128 + v) h ∙ sym (rw a)

    pub feeder-at : (d v : ℕ) → d < 16 → v < 128 → eqb (place_in m g) (feeders_at d v) ≡ ((eqb run write_dac && eqb (dac_number_at Of1978 m g) d) && eqb (gfm_at m g) v)
    unfolding replaces adds is_one_of
    feeder-at d v ld lv =
        kinds
        (λ a e. far (reader-not write_dac a refl) (λ q. omega (arith, e)))
        (λ a b e. far (adder-not write_dac b refl) (λ q. omega (arith, e)))
        (λ a b c e. far (writer-not c) (λ q. omega (arith, e)))
        (λ a b c f e. rw (e, f) (pairs (dac_number_at Of1978 m g) (gfm_at m g) d v gfm lv))
        (λ a b c f e. far f (λ q. omega (arith, e)))
      where
        far : eqb run write_dac ≡ false → place_in m g ≢ 256 + 128 * d + v
            → eqb (place_in m g) (256 + 128 * d + v) ≡ ((eqb run write_dac && eqb (dac_number_at Of1978 m g) d) && eqb (gfm_at m g) v)
        far a h = ne_eqb (place_in m g) (256 + 128 * d + v) h ∙ sym (rw a)
