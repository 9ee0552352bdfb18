-- The twelve worked examples hold.
-- Assumes nothing.
use mathlib.Core.Path.{◌≡◌, refl, sym, ap, ap₂, ◌∙◌}
use mathlib.Core.Logic.{◌↔◌, ◌≢◌}
use mathlib.Core.Bool.{Bool, true, false, and-false, true≢false}
use mathlib.Core.List.{[], ◌∷◌, map}
use Prim.Native.Nat.{ℕ, zero, suc, ◌+◌, ◌^◌, ◌<◌}
use native.Mathlib.Omega.{arith}
use borrow.Author.Tests.{eqb-true, eqb-false, eq-eqb, lt-ltb}
use lib.Dec.{eqb, lit<}
use lib.IntN.{pos, neg_ℤ}
use lib.ListN.{set, length-set}
use Rattle.base_lists.specs.Lists.{is_one_of, count, zeros}
use Rattle.base_lists.proofs.Below.{and_first, and_second}
use Rattle.base_words.specs.Words.{low_bits, signed, exact_sum, outside}
use Rattle.generator_sine.specs.Sine.{angle, first_three, polynomial, entry}
use Rattle.generator_exponential.specs.Exponential.{table_size, bound, entry as exponential_entry, exponential}
use Rattle.generator_exponential.proofs.LargestEntries.{right, right-entry}
use Rattle.generator_envelope.specs.Envelope.{overflows, decayed, rounded, enveloped}
use Rattle.modifier_product.specs.Product.{scaled, product}
use Rattle.layout.specs.Layout.{t_at}
use Rattle.layout.proofs.UpdateTicks.{counted-length}
use Rattle.layout_modes.specs.Modes.{running_a, running_b, wait, read_data, write_dac, envelope_on, free, adds, replaces, built_run, built_oscillator}
use Rattle.layout_modes.proofs.RunModes.{replaces-alone}
use Rattle.machine.specs.Questions.{regions, test_at, good_gmode, fresh_machine}
use Rattle.machine.proofs.ValidMachine.{reaches, single-below, valid-set, valid-with-ticks, valid-generator}
use Rattle.machine.proofs.FreshMachine.{fresh-length, fresh-valid}
use Rattle.pass_order.specs.Order.{each_once, question5, question6, IsOrder}
use Rattle.pass_order.proofs.Entries.{order-passes}
use Rattle.base_sequences.specs.Sequences.{keep, some, last_of, place_of, before}
use Rattle.base_sequences.proofs.Orders.{some-from, last-below}
use Rattle.compare_agreement.specs.Agreement.{settings_of, replaces_word, adds_to_word, last_replacing, after_replacing, SameWord, Agree}
use Rattle.pass_laws.specs.Good.{Good}
use Rattle.equal_orders.specs.Equal.{Equal}
use Rattle.equal_orders.specs.WorkedExamples.{word, AtTop, at_top, forth, back, TwoTicks, BothFeed, of_two, WorkedExamples}
use Rattle.equal_orders.proofs.Theorem.{demand-3}
use Rattle.generator.specs.declared.Generator.{Generator}
use Rattle.generator.specs.Generator.{run_mode, gq_after, triggers}
use Rattle.base_questions.specs.Questions.{asked}
use Rattle.layout.specs.Machine.{Machine, Order, ticks_of, with_update_ticks, gsum_at, gfm_at}
use Rattle.layout_texts.specs.Texts.{run_mode_at, dac_number_at}
use Rattle.layout_texts.specs.declared.Text.TheVariants.{Of1978}

-- Examples 1 to 9.
sine-entries : (entry 0 ≡ 1) × (entry 1 ≡ 4) × (entry 1023 ≡ 2895) × (entry 2047 ≡ 4095)
unfolding entry polynomial first_three angle
sine-entries = (refl, refl, refl, refl)

exponential-first : 4093 ≡ exponential_entry table_size 0
unfolding right bound
exponential-first = right-entry table_size (lit< tt) 0 4093 tt

exponential-0 : exponential table_size 0 ≡ 4093
unfolding exponential
exponential-0 = rw (← exponential-first)

exponential-1024 : exponential table_size 1024 ≡ 2046
unfolding exponential
exponential-1024 = rw (← exponential-first)

p-4 : (enveloped (pos 2048) 4095 ≡ pos 131040) × (enveloped (neg_ℤ (pos 2048)) 4095 ≡ neg_ℤ (pos 131040))
unfolding enveloped rounded
p-4 = (refl, refl)

p-5 : (enveloped (pos 1) 31 ≡ pos 0) × (enveloped (pos 1) 32 ≡ pos 1)
unfolding enveloped rounded
p-5 = (refl, refl)

p-6 : enveloped (neg_ℤ (pos 1)) 32 ≡ neg_ℤ (pos 1)
unfolding enveloped rounded
p-6 = refl

product-7 : signed 20 (product 0 (word (neg_ℤ (pos 524288))) (word (neg_ℤ (pos 524288)))) ≡ neg_ℤ (pos 524288)
unfolding signed low_bits product scaled
product-7 = refl

product-8 : (signed 20 (product 0 (word (pos 1)) (word (pos 262144))) ≡ pos 1) × (signed 20 (product 0 (word (neg_ℤ (pos 1))) (word (pos 262144))) ≡ pos 0)
unfolding signed low_bits product scaled
product-8 = (refl, refl)

module _ (u : Generator) (t : AtTop u) where
  sticky-9 : free (run_mode u) ≡ false → gq_after u ≡ 16777215
  unfolding gq_after decayed overflows outside exact_sum signed
  sticky-9 e = rw (t.on, e, t.gq, t.gp)

  free-9 : free (run_mode u) ≡ true → (gq_after u ≡ 0) × (triggers u ≡ true)
  unfolding gq_after triggers decayed overflows outside exact_sum signed low_bits
  free-9 e = (rw (t.on, e, t.gq, t.gp), rw (e, t.gq, t.gp))

-- Generators of example 9: 1111 is sticky, 1110 free.
sticky-top : AtTop (at_top 960) × (free (run_mode (at_top 960)) ≡ false)
unfolding envelope_on free is_one_of
sticky-top = (record { on = refl; gq = refl; gp = refl }, refl)

free-top : AtTop (at_top 896) × (free (run_mode (at_top 896)) ≡ true)
unfolding envelope_on free is_one_of
free-top = (record { on = refl; gq = refl; gp = refl }, refl)

-- The two orders of two generators pass their questions.
pub forth-passes : (t : ℕ) → t ≡ 2 → asked (question5 t forth ∷ question6 t forth ∷ []) ≡ 0
unfolding asked each_once count
forth-passes t e = rw e

pub back_passes : (t : ℕ) → t ≡ 2 → asked (question5 t back ∷ question6 t back ∷ []) ≡ 0
unfolding asked each_once count
back_passes t e = rw e

-- What holds of 0 and of 1 holds of each number below 2.
each-of-two : (P : ℕ → Type 0) (t : ℕ) → t ≡ 2 → P 0 → P 1 → (g : ℕ) → g < t → P g
each-of-two P t e p q zero h = p
each-of-two P t e p q (suc zero) h = q
each-of-two P t e p q (suc (suc g)) h = absurd (omega arith)

-- Two entries by a test.
module _ (p : ℕ → Bool) (a b : ℕ) where
  last-second : p b ≡ true → last_of p (a ∷ b ∷ []) ≡ b
  unfolding last_of some
  last-second e = rw e

  last-first : p a ≡ true → p b ≡ false → last_of p (a ∷ b ∷ []) ≡ a
  unfolding last_of some
  last-first e f = rw (f, e)

  keep-neither : p a ≡ false → p b ≡ false → keep p (a ∷ b ∷ []) ≡ []
  unfolding keep
  keep-neither e f = rw (e, f)

  keep-first : p a ≡ true → p b ≡ false → keep p (a ∷ b ∷ []) ≡ a ∷ []
  unfolding keep
  keep-first e f = rw (e, f)

  keep-second : p a ≡ false → p b ≡ true → keep p (a ∷ b ∷ []) ≡ b ∷ []
  unfolding keep
  keep-second e f = rw (e, f)

module _ (m : Machine) (r₀ r₁ : ℕ) (c : TwoTicks m r₀ r₁) where
  is-forth : IsOrder (ticks_of m) forth
  is-forth = order-passes (ticks_of m) forth (forth-passes (ticks_of m) c.ticks)

  is-back : IsOrder (ticks_of m) back
  is-back = order-passes (ticks_of m) back (back_passes (ticks_of m) c.ticks)

  -- A test that neither run mode passes.
  never : (p : ℕ → Bool) → p r₀ ≡ false → p r₁ ≡ false → (g : ℕ) → g < ticks_of m → p (run_mode_at Of1978 m g) ≡ true → ⊥
  never p e f g h t =
      true≢false
      (sym t ∙ each-of-two (λ k. p (run_mode_at Of1978 m k) ≡ false) (ticks_of m) c.ticks (ap p c.run₀ ∙ e) (ap p c.run₁ ∙ f) g h)

-- 10: the second waits and the first can trigger.
not-agreed-10 : (m : Machine) → TwoTicks m running_b wait → Agree Of1978 m forth back → ⊥
unfolding before place_of free is_one_of
not-agreed-10 m c ag = true≢false (ag.neighbours 0 (omega (arith, c.ticks)) (eq-eqb (run_mode_at Of1978 m 1) wait c.run₁) (rw c.run₀))

-- 11: both feed DAC 0.
module _ (m : Machine) (c : BothFeed m) where
  feeds₀ : (settings_of Of1978 m).feeds 0 0 ≡ true
  feeds₀ = rw (c.two.run₀, c.dac₀)

  feeds₁ : (settings_of Of1978 m).feeds 0 1 ≡ true
  feeds₁ = rw (c.two.run₁, c.dac₁)

  agreed-one : Agree Of1978 m forth back → gfm_at m 0 ≡ gfm_at m 1
  agreed-one ag =
      ap (gfm_at m) (sym (last-second ((settings_of Of1978 m).feeds 0) 1 0 feeds₀))
      ∙ sym (ag.feeders 0 0 (lit< tt) (omega (arith, c.two.ticks)) feeds₀)
      ∙ ap (gfm_at m) (last-second ((settings_of Of1978 m).feeds 0) 0 1 feeds₁)

  one-agreed : gfm_at m 0 ≡ gfm_at m 1 → Agree Of1978 m forth back
  unfolding free replaces is_one_of
  one-agreed e =
      record {
        neighbours = λ g h w t. absurd (never m write_dac write_dac c.two (λ (r : ℕ). eqb r wait) refl refl (1 + g) h w);
        feeders = λ d g l h f.
            let p = (settings_of Of1978 m).feeds d in
            from-0 (last_of p forth) (last-in forth orders₀ p g h f)
            ∙ sym (from-0 (last_of p back) (last-in back orders₁ p g h f));
        writers = ap (map (gfm_at m)) (keep-neither (settings_of Of1978 m).writes 0 1 no-write₀ no-write₁ ∙ sym (keep-neither (settings_of Of1978 m).writes 1 0 no-write₁ no-write₀));
        words = λ w g l h f.
            absurd (never m write_dac write_dac c.two replaces refl refl g h (and_second ((settings_of Of1978 m).on_word w g) ((settings_of Of1978 m).replacing g) f));
      }
    where
      orders₀ : IsOrder (ticks_of m) forth
      orders₀ = is-forth m write_dac write_dac c.two

      orders₁ : IsOrder (ticks_of m) back
      orders₁ = is-back m write_dac write_dac c.two

      last-in : (o : Order) → IsOrder (ticks_of m) o → (p : ℕ → Bool) (g : ℕ) → g < ticks_of m → p g ≡ true → last_of p o < ticks_of m
      last-in o is p g h f = last-below (ticks_of m) o is.once is.below p (some-from (ticks_of m) o is.once is.below p g h f)

      from-0 : (g : ℕ) → g < ticks_of m → gfm_at m g ≡ gfm_at m 0
      from-0 g h = each-of-two (λ k. gfm_at m k ≡ gfm_at m 0) (ticks_of m) c.two.ticks refl (sym e) g h

      no-write₀ : (settings_of Of1978 m).writes 0 ≡ false
      no-write₀ = rw c.two.run₀

      no-write₁ : (settings_of Of1978 m).writes 1 ≡ false
      no-write₁ = rw c.two.run₁

-- 12: 0111, then 1111.
module _ (m : Machine) (c : TwoTicks m read_data running_a) where
  replaces₀ : (settings_of Of1978 m).replacing 0 ≡ true
  unfolding replaces is_one_of
  replaces₀ = rw c.run₀

  replaces₁ : (settings_of Of1978 m).replacing 1 ≡ false
  unfolding replaces is_one_of
  replaces₁ = rw c.run₁

  adds₁ : (settings_of Of1978 m).adding 1 ≡ true
  unfolding adds is_one_of
  adds₁ = rw c.run₁

  -- On the word of the first.
  word₀ : replaces_word (settings_of Of1978 m) (gsum_at m 0) 0 ≡ true
  word₀ = rw (eq-eqb (gsum_at m 0) (gsum_at m 0) refl) replaces₀

  first-last : (w : ℕ) → replaces_word (settings_of Of1978 m) w 0 ≡ true → (last_replacing (settings_of Of1978 m) w forth ≡ 0) × (last_replacing (settings_of Of1978 m) w back ≡ 0)
  first-last w e = (last-first (replaces_word (settings_of Of1978 m) w) 0 1 e not₁, last-second (replaces_word (settings_of Of1978 m) w) 1 0 e)
    where
      not₁ : replaces_word (settings_of Of1978 m) w 1 ≡ false
      not₁ = rw replaces₁ (and-false ((settings_of Of1978 m).on_word w 1))

  not-agreed-12 : gsum_at m 0 ≡ gsum_at m 1 → Agree Of1978 m forth back → ⊥
  unfolding before place_of
  not-agreed-12 e ag =
      let s = settings_of Of1978 m in
      let w = gsum_at m 0 in
      let q : SameWord s w forth back = ag.words w 0 (valid-generator Of1978 m c.good.is-valid 0 (lit< tt)).gsum (omega (arith, c.ticks)) word₀ in
      let on : adds_to_word s w 1 ≡ true = rw (eq-eqb (gsum_at m 1) w (sym e)) adds₁ in
      let a : after_replacing s w 1 forth ≡ true = ap (λ (g : ℕ). before g 1 forth) (first-last w word₀).0 in
      let b : after_replacing s w 1 back ≡ false = ap (λ (g : ℕ). before g 1 back) (first-last w word₀).1 in
      true≢false (sym a ∙ q.adders 1 (omega (arith, c.ticks)) on ∙ b)

  agreed-12 : gsum_at m 0 ≢ gsum_at m 1 → Agree Of1978 m forth back
  unfolding free replaces is_one_of
  agreed-12 n =
      record {
        neighbours = λ g h w t. absurd (never m read_data running_a c (λ (r : ℕ). eqb r wait) refl refl (1 + g) h w);
        feeders = λ d g l h f.
            absurd (never m read_data running_a c (λ (r : ℕ). eqb r write_dac) refl refl g h (and_first (eqb (run_mode_at Of1978 m g) write_dac) (eqb (dac_number_at Of1978 m g) d) f));
        writers = ap (map (gfm_at m)) (keep-neither (settings_of Of1978 m).writes 0 1 no-write₀ no-write₁ ∙ sym (keep-neither (settings_of Of1978 m).writes 1 0 no-write₁ no-write₀));
        words = λ w g l h f. same_word w (each-of-two (λ k. replaces_word (settings_of Of1978 m) w k ≡ true → replaces_word (settings_of Of1978 m) w 0 ≡ true) (ticks_of m) c.ticks (λ e. e) (λ e. absurd (not₁ w e)) g h f);
      }
    where
      no-write₀ : (settings_of Of1978 m).writes 0 ≡ false
      no-write₀ = rw c.run₀

      no-write₁ : (settings_of Of1978 m).writes 1 ≡ false
      no-write₁ = rw c.run₁

      not₁ : (w : ℕ) → replaces_word (settings_of Of1978 m) w 1 ≡ true → ⊥
      not₁ w e = true≢false (sym (and_second ((settings_of Of1978 m).on_word w 1) ((settings_of Of1978 m).replacing 1) e) ∙ replaces₁)

      same_word : (w : ℕ) → replaces_word (settings_of Of1978 m) w 0 ≡ true → SameWord (settings_of Of1978 m) w forth back
      same_word w e =
          let s = settings_of Of1978 m in
          let at₀ : gsum_at m 0 ≡ w = eqb-true (gsum_at m 0) w (and_first (s.on_word w 0) (s.replacing 0) e) in
          record {
            last = (first-last w e).0 ∙ sym (first-last w e).1;
            place =
                ap₂ place_of ((first-last w e).0 ∙ sym (first-last w e).1)
                (keep-first s.replacing 0 1 replaces₀ replaces₁ ∙ sym (keep-second s.replacing 1 0 replaces₁ replaces₀));
            adders = λ k h a.
                absurd
                (each-of-two (λ j. adds_to_word s w j ≡ true → ⊥) (ticks_of m) c.ticks
                (λ b. true≢false (sym (and_second (s.on_word w 0) (s.adding 0) b) ∙ replaces-alone (run_mode_at Of1978 m 0) replaces₀))
                (λ b. n (at₀ ∙ sym (eqb-true (gsum_at m 1) w (and_first (s.on_word w 1) (s.adding 1) b)))) k h a);
          }

-- The machines of examples 10 to 12 are good.
pub of-two-good : (mode₀ mode₁ sum₀ sum₁ fm₀ fm₁ : ℕ) → good_gmode Of1978 mode₀ ≡ true → good_gmode Of1978 mode₁ ≡ true → sum₀ < 2 ^ 6 → sum₁ < 2 ^ 6 → fm₀ < 2 ^ 7 → fm₁ < 2 ^ 7
    → Good Of1978 (of_two mode₀ mode₁ sum₀ sum₁ fm₀ fm₁)
unfolding of_two regions test_at
of-two-good mode₀ mode₁ sum₀ sum₁ fm₀ fm₁ a b c d e f =
    let m1 = with_update_ticks (set fresh_machine t_at 2) in
    let m2 = set m1 8 sum₀ in
    let m3 = set m2 9 fm₀ in
    let m4 = set m3 10 mode₀ in
    let m5 = set m4 19 sum₁ in
    let m6 = set m5 20 fm₁ in
    record {
      whole =
          length-set m6 21 mode₁ ∙ length-set m5 20 fm₁ ∙ length-set m4 19 sum₁ ∙ length-set m3 10 mode₀ ∙ length-set m2 9 fm₀ ∙ length-set m1 8 sum₀
          ∙ counted-length (set fresh_machine t_at 2) ∙ length-set fresh_machine t_at 2 ∙ fresh-length;
      is-valid =
          valid-set Of1978 m6
          (valid-set Of1978 m5
          (valid-set Of1978 m4
          (valid-set Of1978 m3
          (valid-set Of1978 m2
          (valid-set Of1978 m1
          (valid-with-ticks Of1978 fresh_machine (fresh-valid Of1978) (reaches fresh_machine fresh-length) t_at 2 (lit< tt) refl)
          8 sum₀ (single-below (lit< tt)) (lt-ltb sum₀ (2 ^ 6) c))
          9 fm₀ (single-below (lit< tt)) (lt-ltb fm₀ (2 ^ 7) e))
          10 mode₀ (single-below (lit< tt)) a)
          19 sum₁ (single-below (lit< tt)) (lt-ltb sum₁ (2 ^ 6) d))
          20 fm₁ (single-below (lit< tt)) (lt-ltb fm₁ (2 ^ 7) f))
          21 mode₁ (single-below (lit< tt)) b;
    }

-- Machines of the kinds that examples 10 to 12 speak of: 1110 and 1001; both 0010, with one GFM and with two; 0111 and 1111, on one GSUM and on two.
machine-10 : TwoTicks (of_two 896 576 0 0 0 0) running_b wait
unfolding of_two with_update_ticks fresh_machine zeros built_run built_oscillator is_one_of
machine-10 =
    record { good = of-two-good 896 576 0 0 0 0 refl refl (lit< tt) (lit< tt) (lit< tt) (lit< tt); ticks = refl; run₀ = refl; run₁ = refl }

machine-11-one : BothFeed (of_two 128 128 0 0 5 5)
unfolding of_two with_update_ticks fresh_machine zeros built_run built_oscillator is_one_of
machine-11-one =
    record {
      two = record { good = of-two-good 128 128 0 0 5 5 refl refl (lit< tt) (lit< tt) (lit< tt) (lit< tt); ticks = refl; run₀ = refl; run₁ = refl };
      dac₀ = refl;
      dac₁ = refl;
    }

machine-11-two : BothFeed (of_two 128 128 0 0 5 6)
unfolding of_two with_update_ticks fresh_machine zeros built_run built_oscillator is_one_of
machine-11-two =
    record {
      two = record { good = of-two-good 128 128 0 0 5 6 refl refl (lit< tt) (lit< tt) (lit< tt) (lit< tt); ticks = refl; run₀ = refl; run₁ = refl };
      dac₀ = refl;
      dac₁ = refl;
    }

machine-12-one : TwoTicks (of_two 448 960 3 3 0 0) read_data running_a
unfolding of_two with_update_ticks fresh_machine zeros built_run built_oscillator is_one_of
machine-12-one =
    record { good = of-two-good 448 960 3 3 0 0 refl refl (lit< tt) (lit< tt) (lit< tt) (lit< tt); ticks = refl; run₀ = refl; run₁ = refl }

machine-12-two : TwoTicks (of_two 448 960 3 4 0 0) read_data running_a
unfolding of_two with_update_ticks fresh_machine zeros built_run built_oscillator is_one_of
machine-12-two =
    record { good = of-two-good 448 960 3 4 0 0 refl refl (lit< tt) (lit< tt) (lit< tt) (lit< tt); ticks = refl; run₀ = refl; run₁ = refl }

inputs-one : gfm_at (of_two 128 128 0 0 5 5) 0 ≡ gfm_at (of_two 128 128 0 0 5 5) 1
unfolding of_two with_update_ticks fresh_machine zeros
inputs-one = refl

inputs-two : gfm_at (of_two 128 128 0 0 5 6) 0 ≢ gfm_at (of_two 128 128 0 0 5 6) 1
unfolding of_two with_update_ticks fresh_machine zeros
inputs-two = eqb-false 5 6 refl

sums-one : gsum_at (of_two 448 960 3 3 0 0) 0 ≡ gsum_at (of_two 448 960 3 3 0 0) 1
unfolding of_two with_update_ticks fresh_machine zeros
sums-one = refl

sums-two : gsum_at (of_two 448 960 3 4 0 0) 0 ≢ gsum_at (of_two 448 960 3 4 0 0) 1
unfolding of_two with_update_ticks fresh_machine zeros
sums-two = eqb-false 3 4 refl

by-demand-3 : (m : Machine) (r₀ r₁ : ℕ) → TwoTicks m r₀ r₁ → Equal Of1978 m forth back ↔ Agree Of1978 m forth back
by-demand-3 m r₀ r₁ c =
    demand-3 Of1978 m c.good forth back (forth-passes (ticks_of m) c.ticks) (back_passes (ticks_of m) c.ticks)

unequal-10 : (m : Machine) → TwoTicks m running_b wait → Equal Of1978 m forth back → ⊥
unequal-10 m c e = not-agreed-10 m c ((by-demand-3 m running_b wait c).0 e)

equal-11 : (m : Machine) → BothFeed m → Equal Of1978 m forth back ↔ (gfm_at m 0 ≡ gfm_at m 1)
equal-11 m c =
    let d = by-demand-3 m write_dac write_dac c.two in
    (λ e. agreed-one m c (d.0 e), λ e. d.1 (one-agreed m c e))

equal-12 : (m : Machine) → TwoTicks m read_data running_a → Equal Of1978 m forth back ↔ (gsum_at m 0 ≢ gsum_at m 1)
equal-12 m c =
    let d = by-demand-3 m read_data running_a c in
    (λ e. λ q. not-agreed-12 m c q (d.0 e), λ n. d.1 (agreed-12 m c n))

pub worked-examples : WorkedExamples
worked-examples =
    record {
      example-1 = sine-entries;
      example-2 = exponential-0;
      example-3 = exponential-1024;
      example-4 = p-4;
      example-5 = p-5;
      example-6 = p-6;
      example-7 = product-7;
      example-8 = product-8;
      example-9-sticky = sticky-9;
      example-9-free = free-9;
      shown-9-sticky = (sticky-top.0, sticky-top.1, sticky-9 (at_top 960) sticky-top.0 sticky-top.1);
      shown-9-free = (free-top.0, free-top.1, (free-9 (at_top 896) free-top.0 free-top.1).0, (free-9 (at_top 896) free-top.0 free-top.1).1);
      example-10 = unequal-10;
      example-11 = equal-11;
      example-12 = equal-12;
      shown-10 = (machine-10, unequal-10 (of_two 896 576 0 0 0 0) machine-10);
      shown-11-one = (machine-11-one, (equal-11 (of_two 128 128 0 0 5 5) machine-11-one).1 inputs-one);
      shown-11-two = (machine-11-two, λ e. inputs-two ((equal-11 (of_two 128 128 0 0 5 6) machine-11-two).0 e));
      shown-12-one = (machine-12-one, λ e. (equal-12 (of_two 448 960 3 3 0 0) machine-12-one).0 e sums-one);
      shown-12-two = (machine-12-two, (equal-12 (of_two 448 960 3 4 0 0) machine-12-two).1 sums-two);
    }
