-- Where the clauses hold, every two orders agree on the four points.
-- Assumes nothing.
use mathlib.Core.Path.{◌≡◌, refl, sym, ◌∙◌}
use mathlib.Core.Bool.{Bool, true, false, cond}
use mathlib.Core.List.{List, [], ◌∷◌, map}
use Prim.Native.Nat.{ℕ, ◌+◌, ◌-◌, ◌≤◌, ◌<◌}
use native.Mathlib.Omega.{arith}
use borrow.Author.Tests.{le-leb, eq-eqb}
use lib.ListN.{length, get_or, length-map, get_or-map}
use lib.Seq.{ext_get_or}
use Rattle.base_lists.specs.Lists.{count, count_below}
use Rattle.base_lists.proofs.Below.{and_second, and_both}
use Rattle.layout.specs.Layout.{quadrant_words}
use Rattle.layout.specs.Machine.{Order}
use Rattle.pass_order.specs.Order.{IsOrder}
use Rattle.base_sequences.specs.Sequences.{keep, some, last_of, place_of}
use Rattle.base_sequences.proofs.Entries.{last-passes, count-entry, keep-count}
use Rattle.base_sequences.proofs.Orders.{some-from, last-below, length-keep, keep-below}
use Rattle.compare_agreement.specs.Agreement.{Settings, awaits, replaces_word, last_replacing, SameWord, Agreeing}
use Rattle.any_order_model.specs.Clauses.{Clauses}

-- An entry that is kept passes.
kept-passes : (p : ℕ → Bool) (xs : List ℕ) (i : ℕ) → i < length (keep p xs) → p (get_or (keep p xs) i 0) ≡ true
kept-passes p xs i h = go (p x) refl (rw (keep-count p x xs) at (count-entry (keep p xs) i h))
  where
    x : ℕ
    x = get_or (keep p xs) i 0

    go : (b : Bool) → p x ≡ b → 1 ≤ cond (p x) (count x xs) 0 → b ≡ true
    go true e l = refl
    go false e l = absurd (omega (arith, rw e at l))

-- In a list of nothing but g, g is first.
place-only : (g : ℕ) (xs : List ℕ) → ((i : ℕ) → i < length xs → get_or xs i 0 ≡ g) → place_of g xs ≡ 0
unfolding place_of
place-only g [] f = refl
place-only g (x ∷ xs) f = rw (eq-eqb x g (f 0 (omega arith)))

module _ (s : Settings) (c : Clauses s) where
  -- In an order that has a 0111, the 0111s are that one.
  place-alone : (o : Order) → IsOrder s.ticks o → (g : ℕ) → g < s.ticks → s.replacing g ≡ true → place_of g (keep s.replacing o) ≡ 0
  place-alone o is g h e =
      place-only g (keep s.replacing o)
      (λ i l. c.readers _ g (keep-below s.ticks o is.once is.below s.replacing i l) h (kept-passes s.replacing o i l) e)

  module _ (o₁ o₂ : Order) (is₁ : IsOrder s.ticks o₁) (is₂ : IsOrder s.ticks o₂) where
    -- What is sent.
    sent-length : (o : Order) → IsOrder s.ticks o → length (map s.source (keep s.writes o)) ≡ count_below s.writes s.ticks
    sent-length o is = length-map (keep s.writes o) s.source ∙ length-keep s.ticks o is.once is.below s.writes

    same-words : (w g : ℕ) → w < quadrant_words → g < s.ticks → replaces_word s w g ≡ true → SameWord s w o₁ o₂
    same-words w g l h e =
        record {
          last = c.readers last₁ last₂ below₁ below₂ replaces₁ replaces₂;
          place = place-alone o₁ is₁ last₁ below₁ replaces₁ ∙ sym (place-alone o₂ is₂ last₂ below₂ replaces₂);
          adders = λ k n a. absurd (c.adders w g k l h n e a);
        }
      where
        last₁ : ℕ
        last₁ = last_replacing s w o₁

        last₂ : ℕ
        last₂ = last_replacing s w o₂

        some₁ : some (replaces_word s w) o₁ ≡ true
        some₁ = some-from s.ticks o₁ is₁.once is₁.below (replaces_word s w) g h e

        some₂ : some (replaces_word s w) o₂ ≡ true
        some₂ = some-from s.ticks o₂ is₂.once is₂.below (replaces_word s w) g h e

        below₁ : last₁ < s.ticks
        below₁ = last-below s.ticks o₁ is₁.once is₁.below (replaces_word s w) some₁

        below₂ : last₂ < s.ticks
        below₂ = last-below s.ticks o₂ is₂.once is₂.below (replaces_word s w) some₂

        replaces₁ : s.replacing last₁ ≡ true
        replaces₁ = and_second (s.on_word w last₁) (s.replacing last₁) (last-passes (replaces_word s w) o₁ some₁)

        replaces₂ : s.replacing last₂ ≡ true
        replaces₂ = and_second (s.on_word w last₂) (s.replacing last₂) (last-passes (replaces_word s w) o₂ some₂)

    pub every-order : Agreeing s o₁ o₂
    every-order =
        record {
          neighbours = λ g l w t. absurd (c.awaiting (s.distance + g) l (waiting g w t));
          feeders = λ d g l h e. c.feeders d _ _ l (below d g h e o₁ is₁) (below d g h e o₂ is₂) (feeds d g h e o₁ is₁) (feeds d g h e o₂ is₂);
          writers = ext_get_or (s.source 0) _ _ (sent-length o₁ is₁ ∙ sym (sent-length o₂ is₂)) sent;
          words = same-words;
        }
      where
        waiting : (g : ℕ) → s.waits (s.distance + g) ≡ true → s.triggering g ≡ true → awaits s (s.distance + g) ≡ true
        waiting g w t =
            let back : s.distance + g - s.distance ≡ g = omega arith in
            and_both _ _ (and_both _ _ (le-leb s.distance (s.distance + g) (omega arith)) w) (rw back t)

        fed : (d g : ℕ) → g < s.ticks → s.feeds d g ≡ true → (o : Order) → IsOrder s.ticks o → some (s.feeds d) o ≡ true
        fed d g h e o is = some-from s.ticks o is.once is.below (s.feeds d) g h e

        below : (d g : ℕ) → g < s.ticks → s.feeds d g ≡ true → (o : Order) → IsOrder s.ticks o → last_of (s.feeds d) o < s.ticks
        below d g h e o is = last-below s.ticks o is.once is.below (s.feeds d) (fed d g h e o is)

        feeds : (d g : ℕ) → g < s.ticks → s.feeds d g ≡ true → (o : Order) → IsOrder s.ticks o → s.feeds d (last_of (s.feeds d) o) ≡ true
        feeds d g h e o is = last-passes (s.feeds d) o (fed d g h e o is)

        sent : (i : ℕ) → i < length (map s.source (keep s.writes o₁))
            → get_or (map s.source (keep s.writes o₁)) i (s.source 0) ≡ get_or (map s.source (keep s.writes o₂)) i (s.source 0)
        sent i l =
            get_or-map s.source (keep s.writes o₁) i 0
            ∙ c.writers _ _ (keep-below s.ticks o₁ is₁.once is₁.below s.writes i l₁) (keep-below s.ticks o₂ is₂.once is₂.below s.writes i l₂)
            (kept-passes s.writes o₁ i l₁) (kept-passes s.writes o₂ i l₂)
            ∙ sym (get_or-map s.source (keep s.writes o₂) i 0)
          where
            l₁ : i < length (keep s.writes o₁)
            l₁ = omega (arith, l, length-map (keep s.writes o₁) s.source)

            l₂ : i < length (keep s.writes o₂)
            l₂ = omega (arith, l, sent-length o₁ is₁, length-keep s.ticks o₂ is₂.once is₂.below s.writes)
