-- Questions asked two by two.
-- Assumes nothing.
use mathlib.Core.Path.{◌≡◌, refl}
use mathlib.Core.Logic.{◌≢◌}
use mathlib.Core.Bool.{Bool, true, false, cond}
use mathlib.Core.List.{List, [], ◌∷◌}
use Prim.Native.Nat.{ℕ}
use Rattle.base_questions.specs.Questions.{Question, asked}

module _ (a b : Question) (qs : List Question) where
  -- A no among the first two is the answer.
  pub asked-first : {n : ℕ} → n ≡ asked (a ∷ b ∷ []) → n ≢ 0 → n ≡ asked (a ∷ b ∷ qs)
  unfolding asked
  asked-first {n} e h = go a.yes b.yes e
    where
      go : (x y : Bool) → n ≡ cond x (cond y 0 b.number) a.number → n ≡ cond x (cond y (asked qs) b.number) a.number
      go true true p = absurd (h p)
      go true false p = p
      go false y p = p

  -- Two questions that are answered yes.
  module _ (ha : a.number ≢ 0) (hb : b.number ≢ 0) (e : asked (a ∷ b ∷ []) ≡ 0) where
    pub both_yes : (a.yes ≡ true) × (b.yes ≡ true)
    unfolding asked
    both_yes = go a.yes b.yes e
      where
        go : (x y : Bool) → cond x (cond y 0 b.number) a.number ≡ 0 → (x ≡ true) × (y ≡ true)
        go true true p = (refl, refl)
        go true false p = absurd (hb p)
        go false y p = absurd (ha p)

    pub asked-later : asked (a ∷ b ∷ qs) ≡ asked qs
    unfolding asked
    asked-later = rw (both_yes.0, both_yes.1)
