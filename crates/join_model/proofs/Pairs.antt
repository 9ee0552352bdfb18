-- What a pair of machines that no question refuses is.
-- Assumes nothing.
use mathlib.Core.Path.{◌≡◌, refl, sym}
use mathlib.Core.Logic.{◌≢◌}
use mathlib.Core.Bool.{Bool, true, false, cond, not, ◌&&◌, ◌||◌, true≢false}
use mathlib.Core.List.{List, [], ◌∷◌}
use Prim.Native.Nat.{ℕ, ◌+◌, ◌≤◌, ◌<◌}
use borrow.Author.Tests.{eqb-true, eqb-false, leb-true, ltb-true}
use lib.Dec.{eqb}
use lib.ListN.{length}
use Rattle.base_lists.proofs.Below.{and_first, and_second, below_at}
use Rattle.layout_modes.specs.Modes.{wait, running_c, read_data, write_data}
use Rattle.layout.specs.Layout.{machine_length, quadrant_words, dacs}
use Rattle.layout.specs.Machine.{Machine, ticks_of, gfm_at, function_at}
use Rattle.layout_texts.specs.Texts.{run_mode_at}
use Rattle.layout_texts.specs.declared.Text.TheVariants.{Of1978}
use Rattle.base_questions.specs.Questions.{Question, asked}
use Rattle.machine.specs.Questions.{question1, question2}
use Rattle.pass_laws.specs.Good.{Good}
use Rattle.join_model.specs.Join.{uses_word, uses_dac, reads_data, writes_data, own_input, own_generator, own_generators, idle_modifiers, self_contained, awaits_neighbour, words_apart, dacs_apart, joined, join_refusal, join_of, question16, question17, question18}
use Rattle.join_model.specs.AsCoded.{SelfContained}

not-true : (x : Bool) → not x ≡ true → x ≡ false
not-true true e = absurd (true≢false (sym e))
not-true false e = refl

-- Three tests together.
all_three : (x y z : Bool) → (x && (y && z)) ≡ true → (x ≡ true) × (y ≡ true) × (z ≡ true)
all_three true true true q = (refl, refl, refl)
all_three true true false q = absurd (true≢false (sym q))
all_three true false z q = absurd (true≢false (sym q))
all_three false y z q = absurd (true≢false (sym q))

not-both : (x y : Bool) → not (x && y) ≡ true → x ≡ true → y ≡ false
not-both true true e p = absurd (true≢false (sym e))
not-both true false e p = refl
not-both false y e p = absurd (true≢false (sym p))

neither : (x y : Bool) → not (x || y) ≡ true → (x ≡ false) × (y ≡ false)
neither true y e = absurd (true≢false (sym e))
neither false true e = absurd (true≢false (sym e))
neither false false e = (refl, refl)

-- A machine that sounds by its generators alone, by its tests.
pub self-contained : (m : Machine) → self_contained m ≡ true → SelfContained m
unfolding own_generators idle_modifiers
self-contained m e =
    record {
      no_reader = λ g h. eqb-false (run_mode_at Of1978 m g) read_data (not-true (reads_data m g) (own g h).0);
      no-writer = λ g h. eqb-false (run_mode_at Of1978 m g) write_data (not-true (writes_data m g) (own g h).1);
      inputs = λ g h. ltb-true (gfm_at m g) quadrant_words (own g h).2;
      inactive = λ k h. eqb-true (function_at m k) 0 (below_at (λ k. eqb (function_at m k) 0) 128 (and_second (own_generators m) (idle_modifiers m) e) k h);
    }
  where
    own : (g : ℕ) → g < ticks_of m → (not (reads_data m g) ≡ true) × (not (writes_data m g) ≡ true) × (own_input m g ≡ true)
    own g h = all_three (not (reads_data m g)) (not (writes_data m g)) (own_input m g) (below_at (own_generator m) (ticks_of m) (and_first (own_generators m) (idle_modifiers m) e) g h)

-- The second's generator 0 neither waits nor can come to wait.
no-waiting : (m : Machine) → not (awaits_neighbour m) ≡ true → (run_mode_at Of1978 m 0 ≢ wait) × (run_mode_at Of1978 m 0 ≢ running_c)
unfolding awaits_neighbour
no-waiting m e =
    let n = neither (eqb (run_mode_at Of1978 m 0) wait) (eqb (run_mode_at Of1978 m 0) running_c) e in
    (eqb-false (run_mode_at Of1978 m 0) wait n.0, eqb-false (run_mode_at Of1978 m 0) running_c n.1)

-- What one uses the other doesn't.
module _ (a b : Machine) (e : (words_apart a b && dacs_apart a b) ≡ true) where
  word-apart : (w : ℕ) → w < quadrant_words → uses_word a w ≡ true → uses_word b w ≡ false
  unfolding words_apart
  word-apart w h u = not-both (uses_word a w) (uses_word b w) (below_at (λ w. not (uses_word a w && uses_word b w)) quadrant_words (and_first (words_apart a b) (dacs_apart a b) e) w h) u

  dac-apart : (d : ℕ) → d < dacs → uses_dac a d ≡ true → uses_dac b d ≡ false
  unfolding dacs_apart
  dac-apart d h u = not-both (uses_dac a d) (uses_dac b d) (below_at (λ d. not (uses_dac a d && uses_dac b d)) dacs (and_second (words_apart a b) (dacs_apart a b) e) d h) u

-- A question that is answered yes, and those after it.
asked-yes : (q : Question) (qs : List Question) → q.number ≢ 0 → asked (q ∷ qs) ≡ 0 → (q.yes ≡ true) × (asked qs ≡ 0)
unfolding asked
asked-yes q qs n e = go q.yes e
  where
    go : (x : Bool) → cond x (asked qs) q.number ≡ 0 → (x ≡ true) × (asked qs ≡ 0)
    go true z = (refl, z)
    go false z = absurd (n z)

-- What a pair that is not refused has answered.
pub record Pair (a b : Machine) : Type 0 where
  pub good-a : Good Of1978 a
  pub good-b : Good Of1978 b
  pub sum : ticks_of a + ticks_of b ≤ 256
  pub own-a : SelfContained a
  pub own-b : SelfContained b
  pub seam : (run_mode_at Of1978 b 0 ≢ wait) × (run_mode_at Of1978 b 0 ≢ running_c)
  pub words : (w : ℕ) → w < quadrant_words → uses_word a w ≡ true → uses_word b w ≡ false
  pub feeders : (d : ℕ) → d < dacs → uses_dac a d ≡ true → uses_dac b d ≡ false

module _ (a b : Machine) (e : (join_of a b).number ≡ 0) where
  pub not-refused : join_refusal a b ≡ 0
  unfolding join_of
  not-refused = e

  pub left-joined : (join_of a b).machine ≡ joined a b
  unfolding join_of
  left-joined = rw not-refused

  pub pair-from : Pair a b
  unfolding join_refusal
  pair-from =
      let s1 = asked-yes (question1 a) (question2 Of1978 a ∷ question1 b ∷ question2 Of1978 b ∷ question16 a b ∷ question17 a b ∷ question18 a b ∷ []) (eqb-false 1 0 refl) not-refused in
      let s2 = asked-yes (question2 Of1978 a) (question1 b ∷ question2 Of1978 b ∷ question16 a b ∷ question17 a b ∷ question18 a b ∷ []) (eqb-false 2 0 refl) s1.1 in
      let s3 = asked-yes (question1 b) (question2 Of1978 b ∷ question16 a b ∷ question17 a b ∷ question18 a b ∷ []) (eqb-false 1 0 refl) s2.1 in
      let s4 = asked-yes (question2 Of1978 b) (question16 a b ∷ question17 a b ∷ question18 a b ∷ []) (eqb-false 2 0 refl) s3.1 in
      let s5 = asked-yes (question16 a b) (question17 a b ∷ question18 a b ∷ []) (eqb-false 16 0 refl) s4.1 in
      let s6 = asked-yes (question17 a b) (question18 a b ∷ []) (eqb-false 17 0 refl) s5.1 in
      let s7 = asked-yes (question18 a b) [] (eqb-false 18 0 refl) s6.1 in
      let three = all_three (self_contained a) (self_contained b) (not (awaits_neighbour b)) s6.0 in
      record {
        good-a = record { whole = eqb-true (length a) machine_length s1.0; is-valid = s2.0 };
        good-b = record { whole = eqb-true (length b) machine_length s3.0; is-valid = s4.0 };
        sum = leb-true (ticks_of a + ticks_of b) 256 s5.0;
        own-a = self-contained a three.0;
        own-b = self-contained b three.1;
        seam = no-waiting b three.2;
        words = word-apart a b s7.0;
        feeders = dac-apart a b s7.0;
      }
