-- The first point that fails: none does where the orders agree, and at the named place its test is answered no.
-- Assumes nothing.
use mathlib.Core.Path.{◌≡◌, refl}
use mathlib.Core.Bool.{Bool, true, false, cond, not, ◌&&◌}
use Prim.Native.Nat.{ℕ, ◌<◌}
use native.Mathlib.Omega.{arith}
use borrow.Author.Tests.{eqb-false, not-true}
use lib.Dec.{eqb}
use Rattle.base_lists.proofs.Choices.{of_test}
use Rattle.layout.specs.Layout.{dacs, quadrant_words}
use Rattle.layout.specs.Machine.{Order}
use Rattle.base_sequences.specs.Sequences.{first_failing}
use Rattle.base_sequences.proofs.Failing.{failing-lowest}
use Rattle.compare_agreement.specs.Agreement.{Settings}
use Rattle.compare_agreement.specs.Points.{Failing, neighbour_same, feeder_same, writer_same, word_same, writers_of, neighbour_point, feeder_point, writer_point, word_point, agrees, sounding_at, failing_word, first_point}

-- Where a test fails first, if it isn't at its bound.
pub record FailsAt (p : ℕ → Bool) (n f : ℕ) : Type 0 where
  pub below : f < n
  pub fails : p f ≡ false

pub fails-at : (p : ℕ → Bool) (n : ℕ) → eqb (first_failing p n) n ≡ false → FailsAt p n (first_failing p n)
fails-at p n e =
    let low = failing-lowest p n in
    let l : first_failing p n < n = omega (arith, low.within, eqb-false (first_failing p n) n e) in
    record { below = l; fails = low.fails l }

module _ (s : Settings) (o₁ o₂ : Order) where
  -- No point is named just where the orders agree.
  pub first-agrees : eqb (first_point s o₁ o₂).point 0 ≡ agrees s o₁ o₂
  unfolding first_point failing_word agrees
  first-agrees =
      go (neighbour_point s o₁ o₂) (feeder_point s o₁ o₂) (writer_point s o₁ o₂) (word_point s o₁ o₂) (sounding_at s o₁ o₂ (word_point s o₁ o₂))
      (eqb (neighbour_point s o₁ o₂) s.ticks) (eqb (feeder_point s o₁ o₂) dacs) (eqb (writer_point s o₁ o₂) (writers_of s o₁ o₂)) (eqb (word_point s o₁ o₂) quadrant_words)
    where
      at : ℕ → ℕ → ℕ → Failing
      at p f k = record { point = p; place = f; sounding = k }

      go : (f₁ f₂ f₃ f₄ k : ℕ) (a b c d : Bool)
          → eqb (cond (not a) (at 1 f₁ 0) (cond (not b) (at 2 f₂ 0) (cond (not c) (at 3 f₃ 0) (cond (not d) (at 4 f₄ k) (at 0 0 0))))).point 0 ≡ (a && b && c && d)
      go f₁ f₂ f₃ f₄ k true true true true = refl
      go f₁ f₂ f₃ f₄ k true true true false = refl
      go f₁ f₂ f₃ f₄ k true true false d = refl
      go f₁ f₂ f₃ f₄ k true false c d = refl
      go f₁ f₂ f₃ f₄ k false b c d = refl

  -- What is named, by cases.
  pub by-point : (P : Failing → Type 0)
      → (FailsAt (neighbour_same s o₁ o₂) s.ticks (neighbour_point s o₁ o₂) → P (record { point = 1; place = neighbour_point s o₁ o₂; sounding = 0 }))
      → (FailsAt (feeder_same s o₁ o₂) dacs (feeder_point s o₁ o₂) → P (record { point = 2; place = feeder_point s o₁ o₂; sounding = 0 }))
      → (FailsAt (writer_same s o₁ o₂) (writers_of s o₁ o₂) (writer_point s o₁ o₂) → P (record { point = 3; place = writer_point s o₁ o₂; sounding = 0 }))
      → (FailsAt (word_same s o₁ o₂) quadrant_words (word_point s o₁ o₂)
      → P (record { point = 4; place = word_point s o₁ o₂; sounding = sounding_at s o₁ o₂ (word_point s o₁ o₂) }))
      → P (record { point = 0; place = 0; sounding = 0 })
      → P (first_point s o₁ o₂)
  unfolding first_point failing_word neighbour_point feeder_point writer_point word_point
  by-point P first second third fourth none =
      of_test P (not (eqb (neighbour_point s o₁ o₂) s.ticks)) (λ q. first (fails-at _ s.ticks (not-true _ q)))
      (λ q. of_test P (not (eqb (feeder_point s o₁ o₂) dacs)) (λ q. second (fails-at _ dacs (not-true _ q)))
      (λ q. of_test P (not (eqb (writer_point s o₁ o₂) (writers_of s o₁ o₂))) (λ q. third (fails-at _ (writers_of s o₁ o₂) (not-true _ q)))
      (λ q. of_test P (not (eqb (word_point s o₁ o₂) quadrant_words)) (λ q. fourth (fails-at _ quadrant_words (not-true _ q)))
      (λ q. none))))
