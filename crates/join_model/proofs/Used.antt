-- What a machine uses: its generators below T use their words and DACs, and two machines whose generators have the same settings use the same.
-- Assumes nothing.
use mathlib.Core.Path.{◌≡◌, refl, sym, ap, ◌∙◌}
use mathlib.Core.Bool.{Bool, true, false, not, ◌||◌, true≢false}
use Prim.Native.Nat.{ℕ, ◌<◌}
use borrow.Author.Tests.{eq-eqb}
use lib.Dec.{eqb}
use Rattle.base_lists.specs.Lists.{all_below}
use Rattle.base_lists.proofs.Below.{below_at, below-same}
use Rattle.layout.specs.Machine.{Machine, ticks_of, gsum_at, gfm_at}
use Rattle.layout_modes.specs.Modes.{write_dac}
use Rattle.layout_texts.specs.Texts.{run_mode_at, dac_number_at}
use Rattle.layout_texts.specs.declared.Text.TheVariants.{Of1978}
use Rattle.join_model.specs.Join.{any_below, names_word, feeds_dac, uses_word, uses_dac}

-- A test that some number below n passes.
any-from : (p : ℕ → Bool) (n k : ℕ) → k < n → p k ≡ true → any_below p n ≡ true
any-from p n k h e = go (all_below (λ i. not (p i)) n) refl
  where
    go : (x : Bool) → all_below (λ i. not (p i)) n ≡ x → not x ≡ true
    go true q = absurd (true≢false (sym (below_at (λ i. not (p i)) n q k h) ∙ ap not e))
    go false q = refl

-- Two tests that tell the same below n.
any_same : (p q : ℕ → Bool) (n : ℕ) → ((k : ℕ) → k < n → p k ≡ q k) → any_below p n ≡ any_below q n
any_same p q n h = ap not (below-same (λ k. not (p k)) (λ k. not (q k)) n (λ k l. ap not (h k l)))

or-second : (x : Bool) {y : Bool} → y ≡ true → (x || y) ≡ true
or-second true q = refl
or-second false q = q

-- A generator below T uses its GSUM and its GFM, and a 0010 its DAC.
module _ (m : Machine) (g : ℕ) (h : g < ticks_of m) where
  pub uses-sum : (w : ℕ) → gsum_at m g ≡ w → uses_word m w ≡ true
  unfolding uses_word
  uses-sum w e = any-from (names_word m w) (ticks_of m) g h (rw (eq-eqb (gsum_at m g) w e))

  pub uses-input : (w : ℕ) → gfm_at m g ≡ w → uses_word m w ≡ true
  unfolding uses_word
  uses-input w e = any-from (names_word m w) (ticks_of m) g h (or-second (eqb (gsum_at m g) w) (eq-eqb (gfm_at m g) w e))

  pub uses-feeder : (d : ℕ) → run_mode_at Of1978 m g ≡ write_dac → dac_number_at Of1978 m g ≡ d → uses_dac m d ≡ true
  unfolding uses_dac
  uses-feeder d r e =
      any-from (feeds_dac m d) (ticks_of m) g h
      (rw (eq-eqb (run_mode_at Of1978 m g) write_dac r, eq-eqb (dac_number_at Of1978 m g) d e))

-- What is used goes by T, GSUM, GFM, which generators feed a DAC, and their DAC numbers.
module _ (m n : Machine) (ticks : ticks_of n ≡ ticks_of m) where
  pub word_same : ((g : ℕ) → g < ticks_of m → gsum_at n g ≡ gsum_at m g) → ((g : ℕ) → g < ticks_of m → gfm_at n g ≡ gfm_at m g) → (w : ℕ) → uses_word n w ≡ uses_word m w
  unfolding uses_word
  word_same sums inputs w =
      ap (any_below (names_word n w)) ticks
      ∙ any_same (names_word n w) (names_word m w) (ticks_of m)
      (λ g h. rw (sums g h, inputs g h))

  pub dac-same : ((g : ℕ) → g < ticks_of m → eqb (run_mode_at Of1978 n g) write_dac ≡ eqb (run_mode_at Of1978 m g) write_dac)
      → ((g : ℕ) → g < ticks_of m → dac_number_at Of1978 n g ≡ dac_number_at Of1978 m g) → (d : ℕ) → uses_dac n d ≡ uses_dac m d
  unfolding uses_dac
  dac-same feeders numbers d =
      ap (any_below (feeds_dac n d)) ticks
      ∙ any_same (feeds_dac n d) (feeds_dac m d) (ticks_of m)
      (λ g h. rw (feeders g h, numbers g h))
