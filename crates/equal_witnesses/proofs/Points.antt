-- Contents from which two orders leave the same, as far as they can be told apart by it, let the points that they show hold:
-- so where a point fails its contents part the orders, and orders that leave the same from all contents agree.
-- Assumes nothing.
use mathlib.Core.Path.{◌≡◌, refl, sym, ap, ap₂, ◌∙◌, subst}
use mathlib.Core.Bool.{Bool, true, false, cond, ◌&&◌, true≢false}
use mathlib.Core.List.{List, map}
use Prim.Native.Nat.{ℕ, ◌+◌, ◌^◌, ◌≤◌, ◌<◌}
use native.Mathlib.Omega.{arith}
use native.Mathlib.Nat.{zero-add}
use borrow.Author.Tests.{eqb-true, eq-eqb, ne_eqb, ltb-true, ltb-false}
use lib.Dec.{eqb, ltb}
use lib.ListN.{length, get_or, take, drop, length-map}
use lib.Seq.{sets, sets-eq, take_at}
use Rattle.base_lists.specs.Lists.{count_below, zeros}
use Rattle.base_lists.proofs.Below.{beq-true, beq-from}
use Rattle.base_lists.proofs.Choices.{of-cond}
use Rattle.base_lists.proofs.Counts.{count-below-le}
use Rattle.base_lists.proofs.Zeros.{zeros-length}
use Rattle.layout.specs.Layout.{generators, dacs, quadrant_words, dac_at}
use Rattle.layout.specs.Machine.{Machine, Order, Items, Places}
use Rattle.base_fills.specs.Fills.{filled}
use Rattle.base_fills.proofs.Filled.{filled-length, filled-whole}
use Rattle.pass_order.specs.Order.{IsOrder}
use Rattle.pass_model.specs.Generators.{Generators}
use Rattle.base_sequences.specs.Sequences.{keep, last_of, before, latest, first_failing}
use Rattle.base_sequences.proofs.Failing.{failing-lowest, failing-nowhere}
use Rattle.base_sequences.proofs.Mapped.{map-tells}
use Rattle.base_sequences.proofs.Orders.{keep-below, length-keep}
use Rattle.compare_agreement.specs.Agreement.{Settings, replaces_word, last_replacing, place_replacing, after_replacing, SameWord, Agreeing}
use Rattle.compare_agreement.specs.Points.{Failing, neighbour_same, feeder_same, writer_same, word_same, adder_same, writers_of, sounding_at, first_point}
use Rattle.compare_agreement.proofs.Agreed.{on-condition, condition-met, neighbour-at, feeder-at, writer-at, word_at, none-agree}
use Rattle.compare_agreement.proofs.FirstPoint.{by-point}
use Rattle.parts_model.specs.Contents.{by_point, item_for}
use Rattle.equal_endings.specs.AsCoded.{turn_at, p_at, sends_at, Follows, triggered_below_in, taken_in, word_after, StageEnds}
use Rattle.equal_endings.proofs.Ends.{stage-ends}
use Rattle.equal_witnesses.specs.AsCoded.{Contents, HasItems, SameHeard}
use Rattle.equal_witnesses.proofs.Readings.{told_is, fed-is, last-feeder-low, place_is, last-is, adder-is, last-low, last-replaces}

-- What is heard tells.
heard-tells : (a b : Bool) (n : ℕ) → 0 < n → cond a n 0 ≡ cond b n 0 → a ≡ b
heard-tells true true n h q = refl
heard-tells true false n h q = absurd (omega arith)
heard-tells false true n h q = absurd (omega arith)
heard-tells false false n h q = refl

-- Items written over places enough are there.
written-there : (xs places : List ℕ) (k : ℕ) → length xs ≡ k → k ≤ length places → take k (sets places 0 xs) ≡ xs
written-there xs places k is h =
    ap (take k) (sets-eq xs places 0 (rw (zero-add (length xs), is) h)) ∙ rw (zero-add (length xs)) (take_at xs (drop (length xs) places) k is)

-- A read list of 256 items by a rule.
unfoldable listed : (ℕ → ℕ) → Items
listed rule = filled 0 1 256 rule (zeros 256)

listed-length : (rule : ℕ → ℕ) → length (listed rule) ≡ 256
unfolding listed
listed-length rule = filled-length 0 1 256 rule (zeros 256) ∙ zeros-length 256

listed_at : (rule : ℕ → ℕ) (i : ℕ) → i < 256 → get_or (listed rule) i 0 ≡ rule i
unfolding listed
listed_at rule i h = rw (zeros-length 256) at (filled-whole rule (zeros 256) i (rw (zeros-length 256) h))

module _ (of : Generators) (s : Settings) (Like : Machine → Type 0) (follows : (n : Machine) → Like n → Follows of s n) (c : Contents of s Like)
    (o₁ o₂ : Order) (is₁ : IsOrder s.ticks o₁) (is₂ : IsOrder s.ticks o₂) where
  few : s.ticks ≤ 256
  few = (follows c.sending c.sending-like).few

  -- The stage leaves the same by both orders from a machine, with a read list and with places enough for the items written.
  module _ (items : Items) (places : Places) (room : count_below s.writes s.ticks ≤ length places) where
    abbrev Alike : Machine → Type 0
    Alike n = SameHeard (taken_in of n items places o₁) (taken_in of n items places o₂)

    module _ (n : Machine) (like : Like n) (heard : SameHeard (taken_in of n items places o₁) (taken_in of n items places o₂)) where
      ends₁ : StageEnds of n s items places o₁ (taken_in of n items places o₁)
      ends₁ = stage-ends of s n (follows n like) items places o₁ is₁

      ends₂ : StageEnds of n s items places o₂ (taken_in of n items places o₂)
      ends₂ = stage-ends of s n (follows n like) items places o₂ is₂

      modes-same : (g : ℕ) → g < s.ticks → (turn_at of n g (triggered_below_in of n o₁ g)).unit.gmode ≡ (turn_at of n g (triggered_below_in of n o₂ g)).unit.gmode
      modes-same g h = sym (ends₁.own g h).gmode ∙ heard.modes g (omega (arith, few)) ∙ (ends₂.own g h).gmode

      dacs-same : (d : ℕ) → d < dacs → latest (s.feeds d) (sends_at of n) o₁ (get_or n (dac_at d) 0) ≡ latest (s.feeds d) (sends_at of n) o₂ (get_or n (dac_at d) 0)
      dacs-same d h = sym (ends₁.dac d h) ∙ heard.dacs d h ∙ ends₂.dac d h

      words_same : (w : ℕ) → w < quadrant_words → word_after of n s items o₁ w ≡ word_after of n s items o₂ w
      words_same w h = sym (ends₁.sum w h) ∙ heard.sums w h ∙ ends₂.sum w h

      written_is : (o : Order) → IsOrder s.ticks o
          → take (length (keep s.writes o)) (sets places 0 (map (sends_at of n) (keep s.writes o))) ≡ map (sends_at of n) (keep s.writes o)
      written_is o is =
          let k = length-keep s.ticks o is.once is.below s.writes in
          written-there (map (sends_at of n) (keep s.writes o)) places (length (keep s.writes o)) (length-map (keep s.writes o) (sends_at of n))
          (omega (arith, k, room))

      written_same : map (sends_at of n) (keep s.writes o₁) ≡ map (sends_at of n) (keep s.writes o₂)
      written_same =
          sym (ap₂ take ends₁.writes ends₁.sent ∙ written_is o₁ is₁) ∙ heard.written ∙ ap₂ take ends₂.writes ends₂.sent ∙ written_is o₂ is₂

    -- The first point.
    module _ (heard : Alike c.triggering) where
      side : (g : ℕ) → s.distance + g < s.ticks → s.waits (s.distance + g) ≡ true → s.triggering g ≡ true
          → before g (s.distance + g) o₁ ≡ before g (s.distance + g) o₂
      side g h w t =
          let n = c.triggering in
          let k = s.distance + g in
          sym (told_is of s Like follows c o₁ is₁ g (omega arith) t)
          ∙ c.tells k h w (triggered_below_in of n o₁ k) (triggered_below_in of n o₂ k) (modes-same n c.triggering-like heard k h)
          ∙ told_is of s Like follows c o₂ is₂ g (omega arith) t

      neighbours-heard : (g : ℕ) → g < s.ticks → neighbour_same s o₁ o₂ g ≡ true
      neighbours-heard g h = neighbour-at s o₁ o₂ is₁ is₂ g (λ k e w t. rw e at (side k (rw e h) (rw e w) t))

    -- The second and the third.
    module _ (heard : Alike c.sending) where
      feeders-heard : (d : ℕ) → d < dacs → feeder_same s o₁ o₂ d ≡ true
      feeders-heard d l =
          let n = c.sending in
          feeder-at s o₁ o₂ is₁ is₂ d
          (λ g h t.
          c.sources (last_of (s.feeds d) o₁) (last_of (s.feeds d) o₂)
          (last-feeder-low of s Like follows c o₁ is₁ d g h t) (last-feeder-low of s Like follows c o₂ is₂ d g h t)
          (sym (fed-is of s Like follows c o₁ is₁ n d g (get_or n (dac_at d) 0) h t)
          ∙ dacs-same n c.sending-like heard d l
          ∙ fed-is of s Like follows c o₂ is₂ n d g (get_or n (dac_at d) 0) h t))

      written : map s.source (keep s.writes o₁) ≡ map s.source (keep s.writes o₂)
      written =
          map-tells (sends_at of c.sending) s.source (keep s.writes o₁) (keep s.writes o₂)
          (λ i j a b e.
          c.sources (get_or (keep s.writes o₁) i 0) (get_or (keep s.writes o₂) j 0)
          (keep-below s.ticks o₁ is₁.once is₁.below s.writes i a) (keep-below s.ticks o₂ is₂.once is₂.below s.writes j b) e)
          (written_same c.sending c.sending-like heard)

      writers-heard : (i : ℕ) → i < writers_of s o₁ o₂ → writer_same s o₁ o₂ i ≡ true
      writers-heard i h = writer-at s o₁ o₂ is₁ is₂ i written

    -- The fourth, at a word with a replacing generator, by the three contents that show it.
    module _ (w r : ℕ) (l : w < quadrant_words) (h : r < s.ticks) (f : replaces_word s w r ≡ true) where
      place-heard : (k : ℕ) → s.ticks ≤ k → HasItems s (λ i. i) items → Alike (c.sounding k) → place_replacing s w o₁ ≡ place_replacing s w o₂
      place-heard k high counting heard =
          sym (place_is of s Like follows c o₁ is₁ w r h f k high items counting)
          ∙ words_same (c.sounding k) (c.sounding-like k) heard w l
          ∙ place_is of s Like follows c o₂ is₂ w r h f k high items counting

      last-heard : HasItems s (λ i. 0) items → Alike (c.sounding (last_replacing s w o₁)) → last_replacing s w o₁ ≡ last_replacing s w o₂
      last-heard silent heard =
          let k = last_replacing s w o₁ in
          let low = last-low of s Like follows c o₁ is₁ w r h f in
          let q = last-replaces of s Like follows c o₁ is₁ w r h f in
          let both = heard-tells (eqb k k) (eqb (last_replacing s w o₂) k) (p_at of (c.sounding k) k) (c.sounds k low)
          (sym (last-is of s Like follows c o₁ is₁ w r h f k low items silent q)
          ∙ words_same (c.sounding k) (c.sounding-like k) heard w l
          ∙ last-is of s Like follows c o₂ is₂ w r h f k low items silent q) in
          sym (eqb-true (last_replacing s w o₂) k (sym both ∙ eq-eqb k k refl))

      adder-heard : (g : ℕ) → g < s.ticks → HasItems s (λ i. 0) items → Alike (c.sounding g) → adder_same s o₁ o₂ w g ≡ true
      adder-heard g low silent heard =
          on-condition _ _
          (λ q.
          beq-from _ _
          (heard-tells (after_replacing s w g o₁) (after_replacing s w g o₂) (p_at of (c.sounding g) g) (c.sounds g low)
          (sym (adder-is of s Like follows c o₁ is₁ w r h f g low items silent q)
          ∙ words_same (c.sounding g) (c.sounding-like g) heard w l
          ∙ adder-is of s Like follows c o₂ is₂ w r h f g low items silent q)))

    -- What is to sound at a word, and the items, by what is the same there.
    module _ (w : ℕ) (l : w < quadrant_words) where
      module _ (has : HasItems s (item_for 4 (sounding_at s o₁ o₂ w)) items) (heard : Alike (c.sounding (sounding_at s o₁ o₂ w)))
          (r : ℕ) (h : r < s.ticks) (f : replaces_word s w r ≡ true) where
        -- One generator sounds, and items are 0.
        sounding-has : (k : ℕ) → sounding_at s o₁ o₂ w ≡ k → k < s.ticks → HasItems s (λ i. 0) items
        sounding-has k e low i q = has i q ∙ rw (e, ne_eqb k 256 (λ z. omega (arith, few)))

        sounding-heard : (k : ℕ) → sounding_at s o₁ o₂ w ≡ k → Alike (c.sounding k)
        sounding-heard k e = subst (λ (x : ℕ). Alike (c.sounding x)) e heard

        same-last : (b : Bool) → eqb (last_replacing s w o₁) (last_replacing s w o₂) ≡ b → last_replacing s w o₁ ≡ last_replacing s w o₂
        unfolding sounding_at
        same-last true e = eqb-true _ _ e
        same-last false e =
            let k = last_replacing s w o₁ in
            let is : sounding_at s o₁ o₂ w ≡ k = rw e in
            last-heard w r l h f (sounding-has k is (last-low of s Like follows c o₁ is₁ w r h f)) (sounding-heard k is)

        same_place : (b : Bool) → eqb (place_replacing s w o₁) (place_replacing s w o₂) ≡ b → place_replacing s w o₁ ≡ place_replacing s w o₂
        unfolding sounding_at
        same_place true e = eqb-true _ _ e
        same_place false e =
            let is : sounding_at s o₁ o₂ w ≡ generators = rw (eq-eqb _ _ (same-last _ refl), e) in
            place-heard w r l h f generators few (λ i q. has i q ∙ rw is) (sounding-heard generators is)

        same-adders : (g : ℕ) → g < s.ticks → adder_same s o₁ o₂ w g ≡ true
        unfolding sounding_at
        same-adders = failing-nowhere (adder_same s o₁ o₂ w) s.ticks (by-lowest (ltb k s.ticks) refl)
          where
            k : ℕ
            k = first_failing (adder_same s o₁ o₂ w) s.ticks

            is : sounding_at s o₁ o₂ w ≡ k
            is = rw (eq-eqb _ _ (same-last _ refl), eq-eqb _ _ (same_place _ refl))

            by-lowest : (b : Bool) → ltb k s.ticks ≡ b → k ≡ s.ticks
            by-lowest true e =
                let low = ltb-true k s.ticks e in
                absurd
                (true≢false
                (sym (adder-heard w r l h f k low (sounding-has k is low) (sounding-heard k is))
                ∙ (failing-lowest (adder_same s o₁ o₂ w) s.ticks).fails low))
            by-lowest false e = omega (arith, ltb-false k s.ticks e, (failing-lowest (adder_same s o₁ o₂ w) s.ticks).within)

        same_word : SameWord s w o₁ o₂
        same_word =
            record {
              last = same-last _ refl;
              place = same_place _ refl;
              adders = λ g low q. beq-true _ _ (condition-met _ _ (same-adders g low) q);
            }

      words-heard : HasItems s (item_for 4 (sounding_at s o₁ o₂ w)) items → Alike (c.sounding (sounding_at s o₁ o₂ w))
          → word_same s o₁ o₂ w ≡ true
      words-heard has heard = word_at s o₁ o₂ is₁ is₂ w (λ r h f. same_word has heard r h f)

    -- Where the contents for the first point that fails leave the same, no point fails.
    pub none-parted : HasItems s (item_for (first_point s o₁ o₂).point (first_point s o₁ o₂).sounding) items
        → SameHeard (taken_in of (by_point (first_point s o₁ o₂).point c.triggering (c.sounding (first_point s o₁ o₂).sounding) c.sending) items places o₁)
        (taken_in of (by_point (first_point s o₁ o₂).point c.triggering (c.sounding (first_point s o₁ o₂).sounding) c.sending) items places o₂)
        → (first_point s o₁ o₂).point ≡ 0
    none-parted =
        by-point s o₁ o₂
        (λ (f : Failing). HasItems s (item_for f.point f.sounding) items → Alike (by_point f.point c.triggering (c.sounding f.sounding) c.sending) → f.point ≡ 0)
        (λ q has heard. absurd (true≢false (sym (neighbours-heard heard _ q.below) ∙ q.fails)))
        (λ q has heard. absurd (true≢false (sym (feeders-heard heard _ q.below) ∙ q.fails)))
        (λ q has heard. absurd (true≢false (sym (writers-heard heard _ q.below) ∙ q.fails)))
        (λ q has heard. absurd (true≢false (sym (words-heard _ q.below has heard) ∙ q.fails)))
        (λ has heard. refl)

  -- Two orders that leave the same from all machines alike, as far as they can be told apart by it, agree.
  module _ (same : (n : Machine) → Like n → (items : Items) → length items ≡ 256 → ((i : ℕ) → i < length items → get_or items i 0 < 2 ^ 32)
      → SameHeard (taken_in of n items (zeros 256) o₁) (taken_in of n items (zeros 256) o₂)) where
    room : count_below s.writes s.ticks ≤ length (zeros 256)
    room = omega (arith, few, count-below-le s.writes s.ticks, zeros-length 256)

    heard-from : (p k : ℕ) (n : Machine) → Like n → SameHeard (taken_in of n (listed (item_for p k)) (zeros 256) o₁) (taken_in of n (listed (item_for p k)) (zeros 256) o₂)
    heard-from p k n like = same n like (listed (item_for p k)) (listed-length (item_for p k)) (λ i h. low i (rw (listed-length (item_for p k)) at h))
      where
        low : (i : ℕ) → i < 256 → get_or (listed (item_for p k)) i 0 < 2 ^ 32
        low i h = rw (listed_at (item_for p k) i h) (of-cond (λ (x : ℕ). x < 2 ^ 32) (eqb p 4 && eqb k generators) {x = i} {y = 0} (omega arith) (omega arith))

    listed_has : (rule : ℕ → ℕ) → HasItems s rule (listed rule)
    listed_has rule i h = listed_at rule i (omega (arith, few, count-below-le s.replacing s.ticks))

    pub heard-agree : Agreeing s o₁ o₂
    heard-agree =
        none-agree s o₁ o₂ is₁ is₂
        (record {
          neighbours = neighbours-heard (listed (item_for 1 0)) (zeros 256) room (heard-from 1 0 c.triggering c.triggering-like);
          feeders = feeders-heard (listed (item_for 2 0)) (zeros 256) room (heard-from 2 0 c.sending c.sending-like);
          writers = writers-heard (listed (item_for 3 0)) (zeros 256) room (heard-from 3 0 c.sending c.sending-like);
          words = λ w l.
              let k = sounding_at s o₁ o₂ w in
              words-heard (listed (item_for 4 k)) (zeros 256) room w l (listed_has (item_for 4 k)) (heard-from 4 k (c.sounding k) (c.sounding-like k));
        })
