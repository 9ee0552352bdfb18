-- What is claimed of two bells in one ring: one law of a bell that stands anywhere among the generators serves all.
-- Assumes nothing.
use mathlib.Core.Path.{◌≡◌, sym, ap, ◌∙◌}
use mathlib.Core.Bool.{true}
use Prim.Native.Nat.{ℕ, ◌+◌, ◌/◌, ◌^◌, ◌≤◌, ◌<◌}
use native.Mathlib.Omega.{arith}
use lib.ListN.{get_or, replicate}
use Rattle.layout.specs.Layout.{generator_at, modifier_at, quadrant_at, dac_at, MMODE}
use Rattle.layout.specs.Machine.{Machine, Memory, ticks_of}
use Rattle.layout_texts.specs.Texts.{run_mode_at}
use Rattle.layout_texts.specs.declared.Text.TheVariants.{Of1978}
use Rattle.machine.proofs.ValidMachine.{valid-controls}
use Rattle.delay_questions.specs.Questions.{memory_good}
use Rattle.base_sequences.specs.Sequences.{by_number}
use Rattle.pass_sums.specs.Sums.{generator_this, generator_last}
use Rattle.pass_laws.specs.Good.{Good}
use Rattle.pass_laws.specs.Passes.{no_data, passes_by_number}
use Rattle.pass_laws.proofs.PassesInSequence.{rung-memory, by-number-parts}
use Rattle.join_model.specs.Join.{join_of}
use Rattle.join_model.specs.AsCoded.{SelfContained, Bell}
use Rattle.join_model.specs.Plays.{Plays}
use Rattle.join_model.proofs.Pairs.{pair-from, left-joined}
use Rattle.join_model.proofs.JoinedBells.{first-bell, second-bell}
use Rattle.join_passes.specs.Changes.{Changed}
use Rattle.join_passes.specs.TwoBells.{after, PassRuns, TwoBells}
use Rattle.join_passes.proofs.OwnPass.{own_runs}
use Rattle.join_passes.proofs.ManyPasses.{bell-rings, ticks-after, word_after, dac-after}

-- Delay memory after passes.
memory-after : (n : ℕ) (m : Machine) (memory : Memory) → memory_good memory ≡ true → memory_good (passes_by_number Of1978 n m memory).memory ≡ true
memory-after n m memory good = rung-memory Of1978 (by_number (ticks_of m)) (replicate n no_data) m memory good

-- What a bell uses after passes is what it uses at first.
from_first : (n : ℕ) (a : Machine) → Good Of1978 a → (own : Memory) {m j : Machine} {at from : ℕ} → Plays (after n a own) m from j at → Plays a m from j at
from_first n a good own p =
    record {
      generator = λ g k h l. p.generator g k (omega (arith, h, ticks-after n a own)) l;
      this = λ w h u. p.this w h (word_after n a good own w ∙ u);
      last = λ w h u. p.last w h (word_after n a good own w ∙ u);
      dac = λ d h u. p.dac d h (dac-after n a good own d ∙ u);
    }

-- Two machines that play a bell as a third one does play it alike.
alike : {bell m i j : Machine} {from ati atj : ℕ} → Plays bell m from i ati → Plays bell m from j atj → Plays bell i ati j atj
alike p q =
    record {
      generator = λ g k h l. q.generator g k h l ∙ sym (p.generator g k h l);
      this = λ w h u. q.this w h u ∙ sym (p.this w h u);
      last = λ w h u. q.last w h u ∙ sym (p.last w h u);
      dac = λ d h u. q.dac d h u ∙ sym (p.dac d h u);
    }

-- A machine that plays a bell plays it still where other generators than the bell's are changed and keep their settings.
module _ (a j n : Machine) (at lo hi : ℕ) (bell : Bell a j at) (good : Good Of1978 n) (c : Changed lo hi j n) (few : hi ≤ 256)
    (apart : (g k : ℕ) → g < ticks_of a → k < 11 → get_or n (generator_at (at + g) + k) 0 ≡ get_or j (generator_at (at + g) + k) 0) where
  few-j : ticks_of j ≤ 256
  few-j = (valid-controls Of1978 j bell.joined.is-valid).t_high

  ticks : ticks_of n ≡ ticks_of j
  ticks = sym c.settings.ticks

  mode : (g : ℕ) → g < 256 → run_mode_at Of1978 n g ≡ run_mode_at Of1978 j g
  mode g h = ap (λ (x : ℕ). x / 2 ^ 6) (sym (c.settings.modes g h))

  -- Words past the generators.
  past : (i : ℕ) → 2816 ≤ i → get_or n i 0 ≡ get_or j i 0
  past i h = c.above i (omega arith)

  own : SelfContained n
  own =
      let o = bell.self-contained-joined in
      record {
        no_reader = λ g h e. o.no_reader g (omega (arith, ticks)) (sym (mode g (omega (arith, ticks, few-j))) ∙ e);
        no-writer = λ g h e. o.no-writer g (omega (arith, ticks)) (sym (mode g (omega (arith, ticks, few-j))) ∙ e);
        inputs = λ g h. rw (← (c.settings.inputs g (omega (arith, ticks, few-j)))) (o.inputs g (omega (arith, ticks)));
        inactive = λ k h. ap (λ (x : ℕ). x / 2 ^ 4) (past (modifier_at k + MMODE) (omega arith)) ∙ o.inactive k h;
      }

  still-bell : Bell a n at
  still-bell =
      let s = bell.stands in
      let p = bell.plays in
      record {
        alone = bell.alone;
        joined = good;
        self-contained = bell.self-contained;
        self-contained-joined = own;
        stands =
            record {
              room = rw ticks s.room;
              words = λ h w l m k u e. s.words h w (omega (arith, ticks)) m k u (c.settings.words h (omega (arith, ticks, few-j)) ∙ e);
              feeders = λ h d l m k u q e.
                  let b : h < 256 = omega (arith, ticks, few-j) in
                  let was = sym (mode h b) ∙ q in
                  s.feeders h d (omega (arith, ticks)) m k u was (c.settings.sending h b was ∙ e);
              seam = λ h.
                  let some = (valid-controls Of1978 a bell.alone.is-valid).t_low in
                  let same = mode at (omega (arith, s.room, few-j, some)) in
                  (λ e. (s.seam h).0 (sym same ∙ e), λ e. (s.seam h).1 (sym same ∙ e));
            };
        plays =
            record {
              generator = λ g k h l. apart g k h l ∙ p.generator g k h l;
              this = λ w h u. past (quadrant_at generator_this + w) (omega arith) ∙ p.this w h u;
              last = λ w h u. past (quadrant_at generator_last + w) (omega arith) ∙ p.last w h u;
              dac = λ d h u. past (dac_at d) (omega arith) ∙ p.dac d h u;
            };
      }

module _ (a b : Machine) (e : (join_of a b).number ≡ 0) where
  abbrev j : Machine
  j = (join_of a b).machine

  first : Bell a j 0
  first = rw (left-joined a b e) (first-bell a b (pair-from a b e))

  second : Bell b j (ticks_of a)
  second = rw (left-joined a b e) (second-bell a b (pair-from a b e))

  -- A bell that the joined machine plays from a place on.
  module _ (bell : Machine) (at : ℕ) (played : Bell bell j at) (memory : Memory) (good : memory_good memory ≡ true) where
    plays : (own : Memory) → memory_good own ≡ true → (n : ℕ) → Plays bell (after n bell own) 0 (after n j memory) at
    plays own good-own n = from_first n bell played.alone own (bell-rings n bell j at played own memory good-own good).plays

    runs : (own : Memory) → memory_good own ≡ true → (n : ℕ) → PassRuns n bell own × PassRuns n j memory
    runs own good-own n =
        let r = bell-rings n bell j at played own memory good-own good in (
          own_runs (after n bell own) r.alone r.self-contained (passes_by_number Of1978 n bell own).memory (memory-after n bell own good-own),
          own_runs (after n j memory) r.joined r.self-contained-joined (passes_by_number Of1978 n j memory).memory (memory-after n j memory good),
        )

    -- After k passes other generators are changed; n passes later.
    apart_from : (lo hi : ℕ) → hi ≤ 256 → (k n : ℕ) (m : Machine) → Good Of1978 m → (other : Memory) → memory_good other ≡ true → Changed lo hi (after k j memory) m
        → ((g r : ℕ) → g < ticks_of (after k bell memory) → r < 11 → get_or m (generator_at (at + g) + r) 0 ≡ get_or (after k j memory) (generator_at (at + g) + r) 0)
        → Plays bell (after (k + n) j memory) at (after n m other) at
    apart_from lo hi few k n m good-m other good-other c own =
        let then = bell-rings k bell j at played memory memory good good in
        let rest = (passes_by_number Of1978 k bell memory).memory in
        let later =
        (bell-rings n (after k bell memory) m at (still-bell (after k bell memory) (after k j memory) m at lo hi then good-m c few own) rest other (memory-after k bell memory good) good-other).plays in
        alike (plays memory good (k + n)) (from_first (k + n) bell played.alone memory (rw (by-number-parts Of1978 k n bell memory) later))

pub two-bells : TwoBells
two-bells =
    record {
      join_runs = λ a b e memory good n.
          let f = runs a b e a 0 (first a b e) memory good memory good n in
          let s = runs a b e b (ticks_of a) (second a b e) memory good memory good n in
          (f.1, f.0, s.0);
      join_first = λ a b e memory own good good-own n. plays a b e a 0 (first a b e) memory good own good-own n;
      join-second = λ a b e memory own good good-own n. plays a b e b (ticks_of a) (second a b e) memory good own good-own n;
      join_apart = λ a b e memory other good good-other k n m good-m.
          let p = pair-from a b e in
          let few = (valid-controls Of1978 a p.good-a.is-valid).t_high in (
            λ c. apart_from a b e b (ticks_of a) (second a b e) memory good 0 (ticks_of a) few k n m good-m other good-other c (λ g r h l. c.above _ (omega arith)),
            λ c. apart_from a b e a 0 (first a b e) memory good (ticks_of a) (ticks_of a + ticks_of b) p.sum k n m good-m other good-other c
                (λ g r h l. c.below _ (omega (arith, ticks-after k a memory))),
          );
    }
