-- A joined machine plays both bells: the first from generator 0 on, the second from the first's T on.
-- Assumes nothing.
use mathlib.Core.Path.{◌≡◌, refl, sym, ap, ◌∙◌}
use mathlib.Core.Logic.{◌≢◌}
use mathlib.Core.Bool.{Bool, true, false, true≢false}
use Prim.Native.Nat.{ℕ, ◌+◌, ◌-◌, ◌/◌, ◌%◌, ◌^◌, ◌<◌}
use native.Mathlib.Omega.{arith}
use native.Mathlib.Nat.{add-zero, zero-add}
use borrow.Author.Tests.{ltb-true, ltb-false}
use lib.Dec.{ltb, lit<}
use lib.ListN.{get_or}
use Rattle.layout_modes.specs.Modes.{read_data, write_data, write_dac}
use Rattle.layout.specs.Layout.{generator_at, dacs, quadrant_words, GSUM, GFM, GMODE}
use Rattle.layout.specs.Machine.{Machine, ticks_of, gsum_at, gfm_at}
use Rattle.layout_texts.specs.Texts.{run_mode_at, dac_number_at}
use Rattle.layout_texts.specs.declared.Text.TheVariants.{Of1978}
use Rattle.machine.proofs.ValidMachine.{valid-controls}
use Rattle.pass_laws.specs.Good.{Good}
use Rattle.join_model.specs.Join.{uses_word, uses_dac, joined}
use Rattle.join_model.specs.AsCoded.{SelfContained, Other, Bell}
use Rattle.join_model.proofs.Used.{uses-sum, uses-feeder}
use Rattle.join_model.proofs.JoinedWords.{ticks-joined, first-generator, second-generator, modifier-word, this-word, last_word, dac-word, joined-good}
use Rattle.join_model.proofs.Pairs.{Pair}

module _ (a b : Machine) (p : Pair a b) where
  abbrev j : Machine
  j = joined a b

  ticks : ticks_of j ≡ ticks_of a + ticks_of b
  ticks = ticks-joined a b p.sum

  -- A generator of the joined machine is one of the first's or one of the second's.
  by-bell : (P : ℕ → Type 0) → ((g : ℕ) → g < ticks_of a → P g) → ((g : ℕ) → g < ticks_of b → P (ticks_of a + g)) → (h : ℕ) → h < ticks_of j → P h
  by-bell P first second h l = go (ltb h (ticks_of a)) refl
    where
      go : (x : Bool) → ltb h (ticks_of a) ≡ x → P h
      go true e = first h (ltb-true h (ticks_of a) e)
      go false e =
          let low = ltb-false h (ticks_of a) e in
          let z : h ≡ ticks_of a + (h - ticks_of a) = omega arith in
          rw z (second (h - ticks_of a) (omega (arith, ticks)))

  -- Its settings.
  module _ (g : ℕ) (h : g < ticks_of a) where
    mode-first : run_mode_at Of1978 j g ≡ run_mode_at Of1978 a g
    mode-first = ap (λ (x : ℕ). x / 2 ^ 6) (first-generator a b p.sum g GMODE h (lit< tt))

    sum_first : gsum_at j g ≡ gsum_at a g
    sum_first = first-generator a b p.sum g GSUM h (lit< tt)

    dac-first : dac_number_at Of1978 j g ≡ dac_number_at Of1978 a g
    dac-first =
        ap (λ (x : ℕ). x % 2 ^ 4)
        (ap (λ (i : ℕ). get_or j i 0) (sym (add-zero (generator_at g))) ∙ first-generator a b p.sum g 0 h (lit< tt) ∙ ap (λ (i : ℕ). get_or a i 0) (add-zero (generator_at g)))

  module _ (g : ℕ) (h : g < ticks_of b) where
    mode-second : run_mode_at Of1978 j (ticks_of a + g) ≡ run_mode_at Of1978 b g
    mode-second = ap (λ (x : ℕ). x / 2 ^ 6) (second-generator a b p.sum g GMODE h (lit< tt))

    sum-second : gsum_at j (ticks_of a + g) ≡ gsum_at b g
    sum-second = second-generator a b p.sum g GSUM h (lit< tt)

    dac-second : dac_number_at Of1978 j (ticks_of a + g) ≡ dac_number_at Of1978 b g
    dac-second =
        ap (λ (x : ℕ). x % 2 ^ 4)
        (ap (λ (i : ℕ). get_or j i 0) (sym (add-zero (generator_at (ticks_of a + g)))) ∙ second-generator a b p.sum g 0 h (lit< tt) ∙ ap (λ (i : ℕ). get_or b i 0) (add-zero (generator_at g)))

  own-j : SelfContained j
  own-j =
      record {
        no_reader = by-bell (λ h. run_mode_at Of1978 j h ≢ read_data) (λ g h e. p.own-a.no_reader g h (sym (mode-first g h) ∙ e)) (λ g h e. p.own-b.no_reader g h (sym (mode-second g h) ∙ e));
        no-writer = by-bell (λ h. run_mode_at Of1978 j h ≢ write_data) (λ g h e. p.own-a.no-writer g h (sym (mode-first g h) ∙ e)) (λ g h e. p.own-b.no-writer g h (sym (mode-second g h) ∙ e));
        inputs =
            by-bell (λ h. gfm_at j h < quadrant_words) (λ g h. rw (first-generator a b p.sum g GFM h (lit< tt)) (p.own-a.inputs g h))
            (λ g h. rw (second-generator a b p.sum g GFM h (lit< tt)) (p.own-b.inputs g h));
        inactive = λ k h. modifier-word a b p.sum k h ∙ p.own-a.inactive k h;
      }

  good-j : Good Of1978 j
  good-j = joined-good a b p.sum p.good-a p.good-b

  -- No word and no DAC is used by both.
  words-apart : (w : ℕ) → w < quadrant_words → uses_word a w ≡ true → uses_word b w ≡ true → ⊥
  words-apart w h u v = true≢false (sym v ∙ p.words w h u)

  dacs-apart : (d : ℕ) → d < dacs → uses_dac a d ≡ true → uses_dac b d ≡ true → ⊥
  dacs-apart d h u v = true≢false (sym v ∙ p.feeders d h u)

  pub first-bell : Bell a j 0
  first-bell =
      record {
        alone = p.good-a;
        joined = good-j;
        self-contained = p.own-a;
        self-contained-joined = own-j;
        stands =
            record {
              room = omega (arith, ticks);
              words = λ h w l n k u.
                  by-bell (λ h. Other a 0 h → gsum_at j h ≢ w) (λ g i m e. m g i (omega arith))
                  (λ g i m e. words-apart w k u (uses-sum b g i w (sym (sum-second g i) ∙ e))) h l n;
              feeders = λ h d l n k u.
                  by-bell (λ h. Other a 0 h → run_mode_at Of1978 j h ≡ write_dac → dac_number_at Of1978 j h ≢ d) (λ g i m q e. m g i (omega arith))
                  (λ g i m q e. dacs-apart d k u (uses-feeder b g i d (sym (mode-second g i) ∙ q) (sym (dac-second g i) ∙ e))) h l n;
              seam = λ h. absurd (omega arith);
            };
        plays =
            record {
              generator = λ g k h l. rw (zero-add g) (first-generator a b p.sum g k h l);
              this = λ w h u. this-word a b p.sum w h ∙ rw (p.words w h u);
              last = λ w h u. last_word a b p.sum w h ∙ rw (p.words w h u);
              dac = λ d h u. dac-word a b p.sum d h ∙ rw (p.feeders d h u);
            };
      }

  pub second-bell : Bell b j (ticks_of a)
  second-bell =
      record {
        alone = p.good-b;
        joined = good-j;
        self-contained = p.own-b;
        self-contained-joined = own-j;
        stands =
            record {
              room = omega (arith, ticks);
              words = λ h w l n k u.
                  by-bell (λ h. Other b (ticks_of a) h → gsum_at j h ≢ w)
                  (λ g i m e. words-apart w k (uses-sum a g i w (sym (sum_first g i) ∙ e)) u) (λ g i m e. m g i refl) h l n;
              feeders = λ h d l n k u.
                  by-bell (λ h. Other b (ticks_of a) h → run_mode_at Of1978 j h ≡ write_dac → dac_number_at Of1978 j h ≢ d)
                  (λ g i m q e. dacs-apart d k (uses-feeder a g i d (sym (mode-first g i) ∙ q) (sym (dac-first g i) ∙ e)) u) (λ g i m q e. m g i refl) h l n;
              seam = λ h.
                  let some = (valid-controls Of1978 b p.good-b.is-valid).t_low in
                  let z : ticks_of a ≡ ticks_of a + 0 = omega arith in
                  let same : run_mode_at Of1978 j (ticks_of a) ≡ run_mode_at Of1978 b 0 = ap (run_mode_at Of1978 j) z ∙ mode-second 0 (omega (arith, some)) in
                  (λ e. p.seam.0 (sym same ∙ e), λ e. p.seam.1 (sym same ∙ e));
            };
        plays =
            record {
              generator = λ g k h l. rw (zero-add g) (second-generator a b p.sum g k h l);
              this = λ w h u. this-word a b p.sum w h ∙ rw u;
              last = λ w h u. last_word a b p.sum w h ∙ rw u;
              dac = λ d h u. dac-word a b p.sum d h ∙ rw u;
            };
      }
