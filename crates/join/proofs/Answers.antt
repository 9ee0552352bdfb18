-- The call's answer by its numbers: a refusal leaves the machine, and what is let through is the joined machine.
-- Assumes nothing.
use mathlib.Core.Path.{◌≡◌, refl, sym, ◌∙◌}
use mathlib.Core.Logic.{◌≢◌}
use mathlib.Core.Bool.{Bool, true, false, cond}
use mathlib.Core.List.{List, [], ◌∷◌}
use Prim.Native.Nat.{ℕ, ◌+◌, ◌≤◌}
use native.Mathlib.Omega.{arith}
use borrow.Author.Tests.{ne_eqb, leb-true}
use Rattle.layout.specs.Machine.{Machine, ticks_of}
use Rattle.layout_texts.specs.declared.Text.TheVariants.{Of1978}
use Rattle.base_questions.specs.Questions.{Question, asked}
use Rattle.machine.specs.Questions.{question1, question2}
use Rattle.machine.proofs.Asked.{machine-passes}
use Rattle.join_model.specs.Join.{JoinAnswer, question16, question17, question18, join_refusal, join_of}
use Rattle.join_questions.specs.AsCoded.{Usable, marks_of}
use Rattle.join_questions.proofs.Answers.{is-usable}
use Rattle.join.specs.AsCoded.{stored}
use Rattle.join.proofs.Stored.{stored-joined}

-- Four questions, then others.
module _ (p q r s : Question) (qs : List Question) where
  four-refuse : {n : ℕ} → n ≡ asked (p ∷ q ∷ r ∷ s ∷ []) → n ≢ 0 → n ≡ asked (p ∷ q ∷ r ∷ s ∷ qs)
  unfolding asked
  four-refuse {n} e h = go p.yes q.yes r.yes s.yes e
    where
      go : (w x y z : Bool) → n ≡ cond w (cond x (cond y (cond z 0 s.number) r.number) q.number) p.number
          → n ≡ cond w (cond x (cond y (cond z (asked qs) s.number) r.number) q.number) p.number
      go true true true true f = absurd (h f)
      go true true true false f = f
      go true true false z f = f
      go true false y z f = f
      go false x y z f = f

  -- All four let through, two by two.
  four-pass : p.number ≢ 0 → q.number ≢ 0 → r.number ≢ 0 → s.number ≢ 0 → asked (p ∷ q ∷ r ∷ s ∷ []) ≡ 0
      → (asked (p ∷ q ∷ []) ≡ 0) × (asked (r ∷ s ∷ []) ≡ 0) × (asked (p ∷ q ∷ r ∷ s ∷ qs) ≡ asked qs)
  unfolding asked
  four-pass i j k l e = go p.yes q.yes r.yes s.yes e
    where
      go : (w x y z : Bool) → cond w (cond x (cond y (cond z 0 s.number) r.number) q.number) p.number ≡ 0
          → (cond w (cond x 0 q.number) p.number ≡ 0) × (cond y (cond z 0 s.number) r.number ≡ 0)
          × (cond w (cond x (cond y (cond z (asked qs) s.number) r.number) q.number) p.number ≡ asked qs)
      go true true true true f = (refl, refl, refl)
      go true true true false f = absurd (l f)
      go true true false z f = absurd (k f)
      go true false y z f = absurd (j f)
      go false x y z f = absurd (i f)

-- The first of three questions, let through.
first-pass : (p q r : Question) → p.number ≢ 0 → asked (p ∷ q ∷ r ∷ []) ≡ 0 → p.yes ≡ true
unfolding asked
first-pass p q r i e = go p.yes e
  where
    go : (x : Bool) → cond x (asked (q ∷ r ∷ [])) p.number ≡ 0 → x ≡ true
    go true f = refl
    go false f = absurd (i f)

module _ (a b : Machine) {n : ℕ} (e : n ≡ asked (question1 a ∷ question2 Of1978 a ∷ question1 b ∷ question2 Of1978 b ∷ [])) where
  abbrev pairs : List Question
  pairs = question16 a b ∷ question17 a b ∷ question18 a b ∷ []

  refused : (k : ℕ) → k ≡ join_refusal a b → k ≢ 0 → ◌≡◌ {A = JoinAnswer} (record { number = k; machine = a }) (join_of a b)
  unfolding join_of
  refused k f h = rw (← f, ne_eqb k 0 h)

  pub refused-first : n ≢ 0 → ◌≡◌ {A = JoinAnswer} (record { number = n; machine = a }) (join_of a b)
  unfolding join_refusal
  refused-first h = refused n (four-refuse (question1 a) (question2 Of1978 a) (question1 b) (question2 Of1978 b) pairs e h) h

  module _ (z : n ≡ 0) where
    passed : (asked (question1 a ∷ question2 Of1978 a ∷ []) ≡ 0) × (asked (question1 b ∷ question2 Of1978 b ∷ []) ≡ 0)
        × (asked (question1 a ∷ question2 Of1978 a ∷ question1 b ∷ question2 Of1978 b ∷ pairs) ≡ asked pairs)
    passed =
        four-pass (question1 a) (question2 Of1978 a) (question1 b) (question2 Of1978 b) pairs (λ q. omega arith) (λ q. omega arith) (λ q. omega arith) (λ q. omega arith) (sym e ∙ z)

    pub both-usable : Usable a × Usable b
    both-usable = (is-usable a passed.0, is-usable b passed.1)

    module _ {k : ℕ} (f : k ≡ asked pairs) where
      later : k ≡ join_refusal a b
      unfolding join_refusal
      later = f ∙ sym passed.2

      pub refused-pair : k ≢ 0 → ◌≡◌ {A = JoinAnswer} (record { number = k; machine = a }) (join_of a b)
      refused-pair h = refused k later h

      pub both-fit : k ≡ 0 → ticks_of a + ticks_of b ≤ 256
      both-fit y = leb-true (ticks_of a + ticks_of b) 256 (first-pass (question16 a b) (question17 a b) (question18 a b) (λ q. omega arith) (sym f ∙ y))

      pub both-joined : k ≡ 0 → {used : List Bool} → used ≡ marks_of b → {m : Machine} → m ≡ stored a b used → ◌≡◌ {A = JoinAnswer} (record { number = 0; machine = m }) (join_of a b)
      unfolding join_of
      both-joined y marks is =
          rw (← later, y, is, stored-joined a b (machine-passes Of1978 a passed.0).0 (both-fit y) both-usable.1 marks)
