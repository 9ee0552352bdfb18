-- The questions as the code asks them are those of the definition.
-- Assumes nothing.
use mathlib.Core.Path.{◌≡◌, refl, ap₂, ◌∙◌}
use mathlib.Core.Bool.{Bool, true, false, not, ◌&&◌}
use mathlib.Core.Logic.{◌≢◌}
use mathlib.Core.List.{List, [], ◌∷◌}
use Prim.Native.Nat.{ℕ, ◌+◌, ◌*◌, ◌/◌, ◌^◌}
use native.Mathlib.Omega.{arith}
use native.Mathlib.Nat.{zero-add}
use native.Mathlib.Numerals.{add-one}
use borrow.Author.Tests.{ltb-true, ltb-false, eq-eqb, ne_eqb, not-true, not-false}
use lib.Dec.{eqb, ltb}
use lib.ListN.{get_or}
use Rattle.base_lists.proofs.Below.{below-same}
use Rattle.layout.specs.Layout.{modifier_at, MMODE, modifier_words, quadrant_words, dacs}
use Rattle.layout.specs.Machine.{Machine, function_at}
use Rattle.layout_texts.specs.declared.Text.TheVariants.{Of1978}
use Rattle.base_questions.specs.Questions.{asked}
use Rattle.base_questions.proofs.Asked.{asked-first, asked-later}
use Rattle.machine.specs.Questions.{question1, question2}
use Rattle.machine.proofs.Asked.{machine-passes}
use Rattle.machine.proofs.ValidMachine.{reaches, valid-generator, valid-controls}
use Rattle.machine_sweep.specs.AsCoded.{every_word}
use Rattle.join_model.specs.Join.{uses_word, uses_dac, idle_modifiers, words_apart, dacs_apart, question16, question17, question18}
use Rattle.join_questions.specs.AsCoded.{Usable, dacs_used_at, marks_of, marks_apart}
use Rattle.join_questions.proofs.Marking.{word-marks, dac-marks}

-- A machine that passes questions 1 and 2 can be marked.
pub is-usable : (m : Machine) → asked (question1 m ∷ question2 Of1978 m ∷ []) ≡ 0 → Usable m
is-usable m e =
    let passed = machine-passes Of1978 m e in
    record {
      reaches = reaches m passed.0;
      ticks = (valid-controls Of1978 m passed.1).t_high;
      gsums = λ g h. (valid-generator Of1978 m passed.1 g h).gsum;
      gfms = λ g h. (valid-generator Of1978 m passed.1 g h).gfm;
    }

-- A function of 00000 is a MMODE below 16.
idle-below : (x : ℕ) → ltb x 16 ≡ eqb (x / 2 ^ 4) 0
idle-below x = go (ltb x 16) refl
  where
    go : (b : Bool) → ltb x 16 ≡ b → b ≡ eqb (x / 2 ^ 4) 0
    go true e = let h = ltb-true x 16 e in rw (eq-eqb (x / 2 ^ 4) 0 (omega arith))
    go false e = let h = ltb-false x 16 e in rw (ne_eqb (x / 2 ^ 4) 0 (λ q. omega arith))

pub all-idle : (m : Machine) → every_word (λ x. ltb x 16) m (modifier_at 0 + MMODE) modifier_words 0 128 ≡ idle_modifiers m
unfolding every_word idle_modifiers
all-idle m =
    below-same (λ k. ltb (get_or m (modifier_at 0 + MMODE + modifier_words * k + 0) 0) 16) (λ k. eqb (function_at m k) 0) 128
    (λ k h. let e : modifier_at 0 + MMODE + modifier_words * k + 0 ≡ modifier_at k + MMODE = omega arith in rw e (idle-below (get_or m (modifier_at k + MMODE) 0)))

-- What two machines share, by their marks.
shared-marks : (a b : Machine) → Usable a → Usable b
    → (marks_apart (marks_of a) (marks_of b) 0 quadrant_words && marks_apart (marks_of a) (marks_of b) dacs_used_at dacs) ≡ (words_apart a b && dacs_apart a b)
unfolding marks_apart words_apart dacs_apart
shared-marks a b ua ub =
    ap₂ (λ (x y : Bool). x && y)
    (below-same (λ w. not (get_or (marks_of a) (0 + w) false && get_or (marks_of b) (0 + w) false)) (λ w. not (uses_word a w && uses_word b w)) quadrant_words
    (λ w h. rw (zero-add w, word-marks a ua w (omega arith), word-marks b ub w (omega arith))))
    (below-same (λ d. not (get_or (marks_of a) (dacs_used_at + d) false && get_or (marks_of b) (dacs_used_at + d) false)) (λ d. not (uses_dac a d && uses_dac b d)) dacs
    (λ d h. rw (dac-marks a ua d h, dac-marks b ub d h)))

pub by-marks : (a b : Machine) → Usable a × Usable b → {own brought : List Bool} → own ≡ marks_of a → brought ≡ marks_of b → {apart : Bool}
    → apart ≡ (marks_apart own brought 0 quadrant_words && marks_apart own brought dacs_used_at dacs) → apart ≡ (question18 a b).yes
by-marks a b u e f g = g ∙ rw (e, f) (shared-marks a b u.0 u.1)

-- One more mark.
pub apart_next : (a b : List Bool) (at k : ℕ) {ok : Bool} → ok ≡ marks_apart a b at k → (not (get_or a (at + k) false && get_or b (at + k) false) && ok) ≡ marks_apart a b at (k + 1)
unfolding marks_apart
apart_next a b at k e = rw (add-one k, e)

pub apart_none : (a b : List Bool) (at : ℕ) → true ≡ marks_apart a b at 0
unfolding marks_apart
apart_none a b at = refl

-- Questions 1 and 2 of two machines, one after the other.
module _ (a b : Machine) {n : ℕ} (e : n ≡ asked (question1 a ∷ question2 Of1978 a ∷ [])) where
  pub first-refuses : n ≢ 0 → n ≡ asked (question1 a ∷ question2 Of1978 a ∷ question1 b ∷ question2 Of1978 b ∷ [])
  first-refuses h = asked-first (question1 a) (question2 Of1978 a) (question1 b ∷ question2 Of1978 b ∷ []) e h

  pub second-asked : n ≡ 0 → {k : ℕ} → k ≡ asked (question1 b ∷ question2 Of1978 b ∷ []) → k ≡ asked (question1 a ∷ question2 Of1978 a ∷ question1 b ∷ question2 Of1978 b ∷ [])
  second-asked z f = f ∙ rw (asked-later (question1 a) (question2 Of1978 a) (question1 b ∷ question2 Of1978 b ∷ []) (λ q. omega arith) (λ q. omega arith) (rw (← e) z))

-- Questions 16, 17 and 18 in sequence, by their answers.
module _ (a b : Machine) {fits joins apart : Bool} (room : fits ≡ (question16 a b).yes) (may : joins ≡ (question17 a b).yes) (own : apart ≡ (question18 a b).yes) where
  pub refused-16 : not fits ≡ true → 16 ≡ asked (question16 a b ∷ question17 a b ∷ question18 a b ∷ [])
  unfolding asked
  refused-16 e = rw (← room, not-true fits e)

  pub refused-17 : not fits ≡ false → not joins ≡ true → 17 ≡ asked (question16 a b ∷ question17 a b ∷ question18 a b ∷ [])
  unfolding asked
  refused-17 e f = rw (← room, ← may, not-false fits e, not-true joins f)

  pub refused-18 : not fits ≡ false → not joins ≡ false → not apart ≡ true → 18 ≡ asked (question16 a b ∷ question17 a b ∷ question18 a b ∷ [])
  unfolding asked
  refused-18 e f g = rw (← room, ← may, ← own, not-false fits e, not-false joins f, not-true apart g)

  pub let_through : not fits ≡ false → not joins ≡ false → not apart ≡ false → 0 ≡ asked (question16 a b ∷ question17 a b ∷ question18 a b ∷ [])
  unfolding asked
  let_through e f g = rw (← room, ← may, ← own, not-false fits e, not-false joins f, not-false apart g)
