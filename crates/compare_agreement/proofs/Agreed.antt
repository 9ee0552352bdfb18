-- The computed points are the four points: none of them fails just where two orders agree.
-- Assumes nothing.
use mathlib.Core.Path.{◌≡◌, refl, sym, ap, ◌∙◌}
use mathlib.Core.Logic.{◌↔◌}
use mathlib.Core.Bool.{Bool, true, false, cond, ◌&&◌, true≢false}
use mathlib.Core.List.{List, map}
use Prim.Native.Nat.{ℕ, ◌+◌, ◌-◌, ◌<◌}
use native.Mathlib.Omega.{arith}
use borrow.Author.Tests.{eqb-true, eq-eqb, leb-true, le-leb}
use lib.Dec.{leb}
use lib.ListN.{length, get_or, length-map}
use lib.Seq.{ext_get_or}
use Rattle.base_lists.proofs.Below.{beq-true, beq-from, and_first, and_second, and_both, below_at, below-from}
use Rattle.base_sequences.specs.Sequences.{keep, last_of, before}
use Rattle.base_sequences.proofs.Failing.{failing-nowhere, nowhere-failing}
use Rattle.base_sequences.proofs.Entries.{last-passes}
use Rattle.base_sequences.proofs.Orders.{some-from, last-below, length-keep}
use Rattle.compare_agreement.specs.Agreement.{Settings, replaces_word, last_replacing, SameWord, Agreeing}
use Rattle.compare_agreement.specs.Points.{neighbour_same, feeder_same, writer_same, word_same, writers_of, neighbour_point, feeder_point, writer_point, word_point, agrees}
use Rattle.layout.specs.Layout.{dacs, quadrant_words}
use Rattle.layout.specs.Machine.{Order}
use Rattle.pass_order.specs.Order.{IsOrder}

-- Both tests pass where their conjunction does.
pub and_parts : (a b : Bool) → (a && b) ≡ true → (a ≡ true) × (b ≡ true)
and_parts a b e = (and_first a b e, and_second a b e)

-- A test that is asked only on a condition.
pub condition-met : (c p : Bool) → cond c p true ≡ true → c ≡ true → p ≡ true
condition-met true p e q = e
condition-met false p e q = absurd (true≢false (sym q))

pub on-condition : (c p : Bool) → (c ≡ true → p ≡ true) → cond c p true ≡ true
on-condition true p f = f refl
on-condition false p f = refl

module _ (s : Settings) (o₁ o₂ : Order) (is₁ : IsOrder s.ticks o₁) (is₂ : IsOrder s.ticks o₂) where
  -- What is sent.
  abbrev sources : Order → List ℕ
  sources o = map s.source (keep s.writes o)

  sources-length : (o : Order) → IsOrder s.ticks o → length (sources o) ≡ writers_of s o₁ o₂
  sources-length o is = length-map (keep s.writes o) s.source ∙ length-keep s.ticks o is.once is.below s.writes

  -- The first point, at each generator that waits and at each lower neighbour.
  pub neighbour-from : (g : ℕ) → neighbour_same s o₁ o₂ (s.distance + g) ≡ true → s.waits (s.distance + g) ≡ true → s.triggering g ≡ true
      → before g (s.distance + g) o₁ ≡ before g (s.distance + g) o₂
  neighbour-from g f w t =
      beq-true _ _ (condition-met _ _ (rw back at f) (and_both _ _ (and_both _ _ (le-leb s.distance k (omega arith)) w) t))
    where
      k : ℕ
      k = s.distance + g

      back : k - s.distance ≡ g
      back = omega arith

  pub neighbour-at : (g : ℕ) → ((k : ℕ) → s.distance + k ≡ g → s.waits g ≡ true → s.triggering k ≡ true → before k g o₁ ≡ before k g o₂)
      → neighbour_same s o₁ o₂ g ≡ true
  neighbour-at g f = on-condition _ _ (λ e. beq-from _ _ (at e))
    where
      k : ℕ
      k = g - s.distance

      at : (leb s.distance g && s.waits g && s.triggering k) ≡ true → before k g o₁ ≡ before k g o₂
      at e =
          let q = and_parts (leb s.distance g && s.waits g) (s.triggering k) e in
          let r = and_parts (leb s.distance g) (s.waits g) q.0 in
          f k (omega (arith, leb-true s.distance g r.0)) r.1 q.1

  -- The second, at each DAC.
  pub feeder-from : (d g : ℕ) → feeder_same s o₁ o₂ d ≡ true → g < s.ticks → s.feeds d g ≡ true
      → s.source (last_of (s.feeds d) o₁) ≡ s.source (last_of (s.feeds d) o₂)
  feeder-from d g f h e =
      eqb-true _ _ (condition-met _ _ f (some-from s.ticks o₁ is₁.once is₁.below (s.feeds d) g h e))

  pub feeder-at : (d : ℕ) → ((g : ℕ) → g < s.ticks → s.feeds d g ≡ true → s.source (last_of (s.feeds d) o₁) ≡ s.source (last_of (s.feeds d) o₂))
      → feeder_same s o₁ o₂ d ≡ true
  feeder-at d f =
      on-condition _ _
      (λ e. eq-eqb _ _ (f (last_of (s.feeds d) o₁) (last-below s.ticks o₁ is₁.once is₁.below (s.feeds d) e) (last-passes (s.feeds d) o₁ e)))

  -- The third, at each place of the written list.
  writers-from : ((i : ℕ) → i < writers_of s o₁ o₂ → writer_same s o₁ o₂ i ≡ true) → sources o₁ ≡ sources o₂
  writers-from f =
      ext_get_or 0 (sources o₁) (sources o₂) (sources-length o₁ is₁ ∙ sym (sources-length o₂ is₂))
      (λ i h. eqb-true _ _ (f i (omega (arith, sources-length o₁ is₁))))

  pub writer-at : (i : ℕ) → map s.source (keep s.writes o₁) ≡ map s.source (keep s.writes o₂) → writer_same s o₁ o₂ i ≡ true
  writer-at i e = eq-eqb _ _ (ap (λ (l : List ℕ). get_or l i 0) e)

  -- The fourth, at each sum word.
  pub word-from : (w g : ℕ) → word_same s o₁ o₂ w ≡ true → g < s.ticks → replaces_word s w g ≡ true → SameWord s w o₁ o₂
  word-from w g f h e =
      let all = condition-met _ _ f (some-from s.ticks o₁ is₁.once is₁.below (replaces_word s w) g h e) in
      let q = and_parts _ _ all in
      let r = and_parts _ _ q.0 in
      record {
        last = eqb-true _ _ r.0;
        place = eqb-true _ _ r.1;
        adders = λ k n a. beq-true _ _ (condition-met _ _ (below_at _ s.ticks q.1 k n) a);
      }

  pub word_at : (w : ℕ) → ((g : ℕ) → g < s.ticks → replaces_word s w g ≡ true → SameWord s w o₁ o₂) → word_same s o₁ o₂ w ≡ true
  word_at w f =
      on-condition _ _
      (λ e.
      let q : SameWord s w o₁ o₂
      = f (last_replacing s w o₁) (last-below s.ticks o₁ is₁.once is₁.below (replaces_word s w) e) (last-passes (replaces_word s w) o₁ e) in
      and_both _ _ (and_both _ _ (eq-eqb _ _ q.last) (eq-eqb _ _ q.place))
      (below-from _ s.ticks (λ g h. on-condition _ _ (λ a. beq-from _ _ (q.adders g h a)))))

  -- No point fails.
  pub record NoneFails : Type 0 where
    pub neighbours : (g : ℕ) → g < s.ticks → neighbour_same s o₁ o₂ g ≡ true
    pub feeders : (d : ℕ) → d < dacs → feeder_same s o₁ o₂ d ≡ true
    pub writers : (i : ℕ) → i < writers_of s o₁ o₂ → writer_same s o₁ o₂ i ≡ true
    pub words : (w : ℕ) → w < quadrant_words → word_same s o₁ o₂ w ≡ true

  none-fails : agrees s o₁ o₂ ≡ true → NoneFails
  unfolding agrees neighbour_point feeder_point writer_point word_point
  none-fails e =
      let q = and_parts _ _ e in
      let r = and_parts _ _ q.0 in
      let p = and_parts _ _ r.0 in
      record {
        neighbours = failing-nowhere _ s.ticks (eqb-true _ s.ticks p.0);
        feeders = failing-nowhere _ dacs (eqb-true _ dacs p.1);
        writers = failing-nowhere _ (writers_of s o₁ o₂) (eqb-true _ (writers_of s o₁ o₂) r.1);
        words = failing-nowhere _ quadrant_words (eqb-true _ quadrant_words q.1);
      }

  fails-none : NoneFails → agrees s o₁ o₂ ≡ true
  unfolding agrees neighbour_point feeder_point writer_point word_point
  fails-none q =
      and_both _ _
      (and_both _ _
      (and_both _ _ (eq-eqb _ s.ticks (nowhere-failing _ s.ticks q.neighbours)) (eq-eqb _ dacs (nowhere-failing _ dacs q.feeders)))
      (eq-eqb _ (writers_of s o₁ o₂) (nowhere-failing _ (writers_of s o₁ o₂) q.writers)))
      (eq-eqb _ quadrant_words (nowhere-failing _ quadrant_words q.words))

  pub none-agree : NoneFails → Agreeing s o₁ o₂
  none-agree q =
      record {
        neighbours = λ g h. neighbour-from g (q.neighbours (s.distance + g) h);
        feeders = λ d g l. feeder-from d g (q.feeders d l);
        writers = writers-from q.writers;
        words = λ w g l. word-from w g (q.words w l);
      }

  pub from-points : agrees s o₁ o₂ ≡ true → Agreeing s o₁ o₂
  from-points e = none-agree (none-fails e)

  pub to-points : Agreeing s o₁ o₂ → agrees s o₁ o₂ ≡ true
  to-points ag =
      fails-none
      (record {
        neighbours = λ g h. neighbour-at g (λ k e w t. rw e at (ag.neighbours k (rw e h) (rw e w) t));
        feeders = λ d l. feeder-at d (λ g h e. ag.feeders d g l h e);
        writers = λ i h. writer-at i ag.writers;
        words = λ w l. word_at w (λ g h e. ag.words w g l h e);
      })

pub points-agree : (s : Settings) (o₁ o₂ : Order) → IsOrder s.ticks o₁ → IsOrder s.ticks o₂ → (agrees s o₁ o₂ ≡ true) ↔ Agreeing s o₁ o₂
points-agree s o₁ o₂ is₁ is₂ = (from-points s o₁ o₂ is₁ is₂, to-points s o₁ o₂ is₁ is₂)
