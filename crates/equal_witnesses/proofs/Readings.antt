-- What a pass from each content leaves: the points can be read off it.
-- Assumes nothing.
use mathlib.Core.Path.{◌≡◌, refl, sym, ap, ◌∙◌}
use mathlib.Core.Logic.{◌≢◌}
use mathlib.Core.Bool.{Bool, true, false, cond, ◌&&◌, and-false, true≢false}
use Prim.Native.Nat.{ℕ, ◌+◌, ◌-◌, ◌%◌, ◌^◌, ◌≤◌, ◌<◌}
use native.Mathlib.Omega.{arith}
use borrow.Author.Tests.{eqb-true, eqb-false, le-leb}
use lib.Dec.{eqb}
use lib.ListN.{get_or}
use Rattle.base_lists.specs.Lists.{count, count_below}
use Rattle.base_lists.proofs.Below.{and_second}
use Rattle.base_lists.proofs.Counts.{count-below-le}
use Rattle.layout.specs.Machine.{Machine, Order, Items}
use Rattle.pass_order.specs.Order.{IsOrder}
use Rattle.pass_model.specs.Generators.{Generators}
use Rattle.base_sequences.specs.Sequences.{keep, some, last_of, before, latest}
use Rattle.base_sequences.proofs.Entries.{keep-count, last-passes, last_entry}
use Rattle.base_sequences.proofs.Places.{place_inside}
use Rattle.base_sequences.proofs.Orders.{some-from, last-below, length-keep}
use Rattle.base_sequences.proofs.Totals.{total-none, total-one}
use Rattle.compare_agreement.specs.Agreement.{Settings, replaces_word, adds_to_word, last_replacing, place_replacing, after_replacing}
use Rattle.equal_endings.specs.AsCoded.{p_at, sends_at, Follows, triggered_below_in, word_after}
use Rattle.equal_witnesses.specs.AsCoded.{Contents, HasItems}

-- What a silent generator brings.
nothing : (a b : Bool) (n : ℕ) → n ≡ 0 → cond (a && b) n 0 ≡ 0
nothing true true n q = q
nothing true false n q = refl
nothing false b n q = refl

module _ (of : Generators) (s : Settings) (Like : Machine → Type 0) (follows : (n : Machine) → Like n → Follows of s n) (c : Contents of s Like)
    (order : Order) (o : IsOrder s.ticks order) where
  -- A generator is told just where its lower neighbour, which can trigger, stands before it.
  pub told_is : (g : ℕ) → g < s.ticks → s.triggering g ≡ true → triggered_below_in of c.triggering order (s.distance + g) ≡ before g (s.distance + g) order
  unfolding triggered_below_in
  told_is g h t =
      let same = (follows c.triggering c.triggering-like).distance in
      let back : s.distance + g - s.distance ≡ g = omega arith in
      rw (same, back, le-leb s.distance (s.distance + g) (omega arith), c.triggers g h t)

  -- A DAC that is fed has what its last feeder sends.
  pub fed-is : (n : Machine) (d g x : ℕ) → g < s.ticks → s.feeds d g ≡ true → latest (s.feeds d) (sends_at of n) order x ≡ sends_at of n (last_of (s.feeds d) order)
  unfolding latest
  fed-is n d g x h f = rw (some-from s.ticks order o.once o.below (s.feeds d) g h f)

  pub last-feeder-low : (d g : ℕ) → g < s.ticks → s.feeds d g ≡ true → last_of (s.feeds d) order < s.ticks
  last-feeder-low d g h f =
      last-below s.ticks order o.once o.below (s.feeds d) (some-from s.ticks order o.once o.below (s.feeds d) g h f)

  -- A word with a replacing generator.
  module _ (w r : ℕ) (h : r < s.ticks) (f : replaces_word s w r ≡ true) where
    replaced : some (replaces_word s w) order ≡ true
    replaced = some-from s.ticks order o.once o.below (replaces_word s w) r h f

    abbrev last : ℕ
    last = last_replacing s w order

    -- Its last one is a generator below T that replaces the word, and its place among all replacing ones is below their number.
    pub last-low : last_replacing s w order < s.ticks
    last-low = last-below s.ticks order o.once o.below (replaces_word s w) replaced

    pub last-replaces : replaces_word s w (last_replacing s w order) ≡ true
    last-replaces = last-passes (replaces_word s w) order replaced

    last-there : 1 ≤ count last (keep s.replacing order)
    last-there =
        rw (keep-count s.replacing last order, and_second (s.on_word w last) (s.replacing last) last-replaces)
        (last_entry (replaces_word s w) order replaced)

    place-low : place_replacing s w order < count_below s.replacing s.ticks
    place-low = rw (← (length-keep s.ticks order o.once o.below s.replacing)) (place_inside last (keep s.replacing order) last-there)

    -- What an adding generator brings after it.
    abbrev contribution : Machine → ℕ → ℕ
    contribution n g = cond (adds_to_word s w g && after_replacing s w g order) (p_at of n g) 0

    -- With no generator sounding and items that count: the place of the last replacing one among all.
    pub place_is : (k : ℕ) → s.ticks ≤ k → (items : Items) → HasItems s (λ i. i) items → word_after of (c.sounding k) s items order w ≡ place_replacing s w order
    unfolding word_after
    place_is k high items counting =
        let n = c.sounding k in
        let silent : (g : ℕ) → g < s.ticks → p_at of n g ≡ 0 = λ g l. c.others-silent k g l (λ e. omega arith) in
        let none = total-none (contribution n) order
        (λ i l. nothing (adds_to_word s w (get_or order i 0)) (after_replacing s w (get_or order i 0) order) _ (silent (get_or order i 0) (o.below i l))) in
        rw (replaced, silent last last-low, counting (place_replacing s w order) place-low, none)
        (omega (arith, place-low, count-below-le s.replacing s.ticks, (follows n (c.sounding-like k)).few))

    -- With one generator sounding and items that are 0.
    module _ (k : ℕ) (low : k < s.ticks) (items : Items) (silent : HasItems s (λ i. 0) items) where
      abbrev n : Machine
      n = c.sounding k

      one-sounds : word_after of n s items order w ≡ (p_at of n last + cond (adds_to_word s w k && after_replacing s w k order) (p_at of n k) 0) % 2 ^ 20
      unfolding word_after
      one-sounds =
          let one = total-one s.ticks order o.once o.below (contribution n) k low
          (λ g l d. nothing (adds_to_word s w g) (after_replacing s w g order) _ (c.others-silent k g l d)) in
          rw (replaced, silent (place_replacing s w order) place-low, one)
          (ap (λ (x : ℕ). (x + cond (adds_to_word s w k && after_replacing s w k order) (p_at of n k) 0) % 2 ^ 20) (omega arith))

      sound-low : p_at of n k < 2 ^ 20
      sound-low = ((follows n (c.sounding-like k)).turns k low).p-low

      -- No replacing generator is an adding one.
      never_both : (g : ℕ) → g < s.ticks → replaces_word s w g ≡ true → adds_to_word s w g ≡ false
      never_both g l q =
          rw (((follows n (c.sounding-like k)).turns g l).alone (and_second (s.on_word w g) (s.replacing g) q)) (and-false (s.on_word w g))

      -- The sounding one replaces the word: it is heard where it is the last.
      pub last-is : replaces_word s w k ≡ true → word_after of (c.sounding k) s items order w ≡ cond (eqb (last_replacing s w order) k) (p_at of (c.sounding k) k) 0
      last-is q = one-sounds ∙ rw (never_both k low q) (go (eqb last k) refl)
        where
          go : (b : Bool) → eqb (last_replacing s w order) k ≡ b → (p_at of n (last_replacing s w order) + 0) % 2 ^ 20 ≡ cond b (p_at of n k) 0
          go true t = rw (eqb-true last k t) (omega (arith, sound-low))
          go false t = omega (arith, c.others-silent k last last-low (eqb-false last k t))

      -- The sounding one adds to the word: it is heard where it stands after the last replacing one.
      pub adder-is : adds_to_word s w k ≡ true → word_after of (c.sounding k) s items order w ≡ cond (after_replacing s w k order) (p_at of (c.sounding k) k) 0
      adder-is q = one-sounds ∙ rw (q, c.others-silent k last last-low apart) (go (after_replacing s w k order))
        where
          apart : last_replacing s w order ≢ k
          apart z = true≢false (sym q ∙ ap (adds_to_word s w) (sym z) ∙ never_both last last-low last-replaces)

          go : (b : Bool) → (0 + cond b (p_at of n k) 0) % 2 ^ 20 ≡ cond b (p_at of n k) 0
          go true = omega (arith, sound-low)
          go false = refl
