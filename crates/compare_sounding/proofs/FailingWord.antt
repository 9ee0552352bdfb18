-- What two traces hold of a word at which the fourth point fails gives the generator that is to sound: such a word has a 0111, whose last ones and places the traces hold.
-- Assumes nothing.
use mathlib.Core.Path.{◌≡◌, refl, sym, ap, ◌∙◌}
use mathlib.Core.Logic.{◌≢◌}
use mathlib.Core.Bool.{Bool, true, false, cond, true≢false}
use Prim.Native.Nat.{ℕ, suc, ◌-◌, ◌≤◌, ◌<◌}
use native.Mathlib.Omega.{arith}
use borrow.Author.Tests.{eq-eqb, ne_eqb}
use lib.ListN.{get_or}
use Rattle.layout.specs.Layout.{generators, quadrant_words}
use Rattle.layout.specs.Machine.{Machine, Order, ticks_of}
use Rattle.layout_texts.specs.declared.Text.{Text}
use Rattle.pass_order.specs.Order.{IsOrder}
use Rattle.base_sequences.specs.Sequences.{some, first_failing}
use Rattle.base_sequences.proofs.Orders.{last-below}
use Rattle.base_sequences.proofs.Loops.{failing-same}
use Rattle.compare_agreement.specs.Agreement.{settings_of, replaces_word, last_replacing, place_replacing}
use Rattle.compare_agreement.specs.Points.{word_same, adder_same, sounding_at}
use Rattle.compare_traces.specs.declared.Trace.{Trace}
use Rattle.compare_traces.specs.AsCoded.{Traceable, trace_of}
use Rattle.compare_points.specs.AsCoded.{sides, sides_of}
use Rattle.compare_points.proofs.Neighbours.{sides-held}
use Rattle.compare_points.proofs.ReplacedWords.{first-last, second-last, first-among, second-among}
use Rattle.compare_sounding.specs.AsCoded.{adder_on}

-- A test that is asked only on a condition fails where the condition is met.
condition-there : (c p : Bool) → cond c p true ≡ false → c ≡ true
condition-there true p e = refl
condition-there false p e = absurd (true≢false e)

module _ (text : Text) (m : Machine) (o₁ o₂ : Order) (ready : Traceable m) (ordered : IsOrder (ticks_of m) o₁ × IsOrder (ticks_of m) o₂)
    {t₁ t₂ : Trace} (e₁ : t₁ ≡ trace_of text m o₁) (e₂ : t₂ ≡ trace_of text m o₂)
    (w : ℕ) (fails : (w < quadrant_words) × (word_same (settings_of text m) o₁ o₂ w ≡ false)) where
  there : some (replaces_word (settings_of text m) w) o₁ ≡ true
  there = condition-there _ _ fails.1

  -- What the traces hold of the word.
  last₁ : get_or t₁.replaced.last w 0 ≡ suc (last_replacing (settings_of text m) w o₁)
  last₁ = rw e₁ (first-last text m o₁ o₂ ready ordered w fails.0 there)

  last₂ : get_or t₂.replaced.last w 0 ≡ suc (last_replacing (settings_of text m) w o₂)
  last₂ = rw e₂ (second-last text m o₁ o₂ ready ordered w fails.0 there)

  among₁ : get_or t₁.replaced.among w 0 ≡ place_replacing (settings_of text m) w o₁
  among₁ = rw e₁ (first-among text m o₁ o₂ ready ordered w fails.0 there)

  among₂ : get_or t₂.replaced.among w 0 ≡ place_replacing (settings_of text m) w o₂
  among₂ = rw e₂ (second-among text m o₁ o₂ ready ordered w fails.0 there)

  both-sides : sides t₁ t₂ ≡ sides_of text m o₁ o₂
  both-sides = rw (e₁, e₂) refl

  -- So there is a last 0111, and it is a generator below T.
  pub some-last : {x : ℕ} → x ≡ get_or t₁.replaced.last w 0 → 1 ≤ x
  some-last e = omega (arith, e, last₁)

  last-is : {x : ℕ} → x ≡ get_or t₁.replaced.last w 0 → x - 1 ≡ last_replacing (settings_of text m) w o₁
  last-is e = omega (arith, e, last₁)

  pub last_within : {x : ℕ} → x ≡ get_or t₁.replaced.last w 0 → x - 1 < generators
  last_within e =
      omega (arith, last-is e, last-below (ticks_of m) o₁ ordered.0.once ordered.0.below (replaces_word (settings_of text m) w) there, ready.ticks)

  -- By the branches that the code takes.
  pub another-last : {x : ℕ} → x ≡ get_or t₁.replaced.last w 0 → get_or t₁.replaced.last w 0 ≢ get_or t₂.replaced.last w 0 → x - 1 ≡ sounding_at (settings_of text m) o₁ o₂ w
  unfolding sounding_at
  another-last e h = last-is e ∙ rw (ne_eqb (last_replacing (settings_of text m) w o₁) (last_replacing (settings_of text m) w o₂) (λ q. h (last₁ ∙ ap suc q ∙ sym last₂)))

  module _ (same : get_or t₁.replaced.last w 0 ≡ get_or t₂.replaced.last w 0) where
    same-last : last_replacing (settings_of text m) w o₁ ≡ last_replacing (settings_of text m) w o₂
    same-last = omega (arith, last₁, last₂, same)

    pub another-place : get_or t₁.replaced.among w 0 ≢ get_or t₂.replaced.among w 0 → generators ≡ sounding_at (settings_of text m) o₁ o₂ w
    unfolding sounding_at
    another-place h =
        rw (
          eq-eqb (last_replacing (settings_of text m) w o₁) (last_replacing (settings_of text m) w o₂) same-last,
          ne_eqb (place_replacing (settings_of text m) w o₁) (place_replacing (settings_of text m) w o₂) (λ q. h (among₁ ∙ q ∙ sym among₂)),
        )

    adder-held : (g : ℕ) → g < ticks_of m → adder_on text m (sides_of text m o₁ o₂) w (last_replacing (settings_of text m) w o₁) g ≡ adder_same (settings_of text m) o₁ o₂ w g
    unfolding adder_on
    adder-held g h =
        rw (
          sides-held text m o₁ o₂ ready ordered (last_replacing (settings_of text m) w o₁) g
              (last-below (ticks_of m) o₁ ordered.0.once ordered.0.below (replaces_word (settings_of text m) w) there) h,
          ← same-last,
        )

    pub another-side : get_or t₁.replaced.among w 0 ≡ get_or t₂.replaced.among w 0 → {x : ℕ} → x ≡ get_or t₁.replaced.last w 0
        → first_failing (adder_on text m (sides t₁ t₂) w (x - 1)) (ticks_of m) ≡ sounding_at (settings_of text m) o₁ o₂ w
    unfolding sounding_at
    another-side q e =
        rw (
          both-sides,
          last-is e,
          eq-eqb (last_replacing (settings_of text m) w o₁) (last_replacing (settings_of text m) w o₂) same-last,
          eq-eqb (place_replacing (settings_of text m) w o₁) (place_replacing (settings_of text m) w o₂) (sym among₁ ∙ q ∙ among₂),
        )
        (failing-same (adder_on text m (sides_of text m o₁ o₂) w (last_replacing (settings_of text m) w o₁)) (adder_same (settings_of text m) o₁ o₂ w) (ticks_of m) adder-held)
