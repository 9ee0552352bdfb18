-- Each generator of an order is taken once: what it is told at its turn, and its registers at the end.
-- Assumes nothing.
use mathlib.Core.Path.{◌≡◌, refl, ap, ◌∙◌, subst}
use mathlib.Core.Bool.{Bool, true, false, cond, ◌&&◌, and-true, and-false}
use mathlib.Core.List.{◌∷◌, ◌++◌}
use Prim.Native.Nat.{ℕ, zero, suc, ◌-◌, ◌≤◌, ◌<◌}
use native.Mathlib.Omega.{arith}
use lib.Dec.{leb}
use lib.ListN.{length, get_or, length-replicate, get_or-replicate}
use Rattle.base_lists.specs.Lists.{count}
use Rattle.layout.specs.Machine.{Machine, Order, Items, Places}
use Rattle.pass_order.specs.Order.{IsOrder}
use Rattle.pass_sums.specs.Sums.{sums_of}
use Rattle.generator.specs.declared.Generator.{Generator}
use Rattle.pass_model.specs.Generators.{Contribution, Generators, State, triggered_below, steps, begun}
use Rattle.pass_laws.specs.AsCoded.{RegistersOf}
use Rattle.pass_laws.proofs.Frames.{contribution_at, steps-quadrant, steps-untaken}
use Rattle.pass_laws.proofs.Orders.{Split, split-once}
use Rattle.pass_laws.proofs.Turns.{turn-registers, steps-triggered-other, turn-triggered}
use Rattle.compare_agreement.specs.Agreement.{Settings}
use Rattle.base_sequences.specs.Sequences.{before}
use Rattle.base_sequences.proofs.Entries.{count-append}
use Rattle.base_sequences.proofs.Orders.{there-below, there-once}
use Rattle.base_sequences.proofs.Places.{before-cut, not-before-cut}
use Rattle.equal_endings.specs.AsCoded.{turn_at, triggers_at, Follows, triggered_below_in}

-- A mark tells.
marked : (b : Bool) → cond b true false ≡ b
marked true = refl
marked false = refl

module _ (of : Generators) (s : Settings) (m : Machine) (f : Follows of s m) (items : Items) (places : Places) where
  abbrev start : State
  start = begun m (sums_of m) places

  -- As a pass begins nothing has triggered.
  begun-triggered : (k : ℕ) → k < 256 → get_or start.triggered k false ≡ false
  unfolding begun
  begun-triggered k h = get_or-replicate 256 k false false h

  begun-marks : length start.triggered ≡ 256
  unfolding begun
  begun-marks = length-replicate 256 false

  -- What a generator brings that is taken after the part a of an order.
  turn-brings : (a : Order) (g : ℕ) → g < 256 → count g a ≡ 0
      → contribution_at of (steps of items start a) g ≡ turn_at of m g (triggered_below of.distance (steps of items start a).triggered g)
  unfolding begun
  turn-brings a g h n =
      let t = steps of items start a in
      f.own t.words m t.sums (sums_of m) g (triggered_below of.distance t.triggered g)
      (record { each = λ j l. steps-untaken of items a start g j h l n })
      (record { generators = steps-quadrant of items a start 1 (λ e. omega arith); modifiers = steps-quadrant of items a start 3 (λ e. omega arith) })

  -- Its mark after such a part: it was taken and triggered.
  module _ (a : Order) (k : ℕ) (few : k < 256) where
    untaken-mark : count k a ≡ 0 → get_or (steps of items start a).triggered k false ≡ false
    untaken-mark n = steps-triggered-other of items a start k n ∙ begun-triggered k few

    taken-mark : k < s.ticks → count k a ≡ 1 → get_or (steps of items start a).triggered k false ≡ cond (triggers_at of m k) true false
    taken-mark low n = at (split-once k a n)
      where
        at : Split k a → get_or (steps of items start a).triggered k false ≡ cond (triggers_at of m k) true false
        at c =
            let t = steps of items start c.before in
            let same : (contribution_at of t k).triggers ≡ triggers_at of m k
            = ap (λ (b : Contribution). b.triggers) (turn-brings c.before k few c.not-before) ∙ (f.turns k low).triggers (triggered_below of.distance t.triggered k) in
            ap (λ (l : Order). get_or (steps of items start l).triggered k false) c.is
            ∙ turn-triggered of items c.before c.behind start k (rw begun-marks few) c.not-before c.not_behind
            ∙ rw (same, begun-triggered k few)

  -- What a generator is told at its turn, between a and b.
  module _ (a : Order) (g : ℕ) (b : Order) (cut : count g a ≡ 0) (few : g < 256) (once : (k : ℕ) → count k (a ++ (g ∷ b)) ≤ 1)
      (there : (k : ℕ) → 1 ≤ count k (a ++ (g ∷ b)) → k < s.ticks) where
    told-by : (k : ℕ) → k < 256 → (n : ℕ) → count k a ≡ n
        → get_or (steps of items start a).triggered k false ≡ (triggers_at of m k && before k g (a ++ (g ∷ b)))
    told-by k h zero e = rw (untaken-mark a k h e, not-before-cut a g b cut k e, and-false (triggers_at of m k))
    told-by k h (suc n) e =
        let parts = count-append k a (g ∷ b) in
        rw (
          taken-mark a k h (there k (omega (arith, parts))) (omega (arith, once k, parts)),
          before-cut a g b cut k (omega arith),
          and-true (triggers_at of m k),
        )
        (marked (triggers_at of m k))

    told_at : triggered_below of.distance (steps of items start a).triggered g ≡ triggered_below_in of m (a ++ (g ∷ b)) g
    unfolding triggered_below triggered_below_in
    told_at =
        let k = g - of.distance in
        ap (λ (x : Bool). leb of.distance g && x) (told-by k (omega arith) (count k a) refl)

  -- The registers of each generator at the end.
  pub own-turned : (order : Order) → IsOrder s.ticks order → (g : ℕ) → g < s.ticks
      → RegistersOf (steps of items start order).words g (turn_at of m g (triggered_below_in of m order g)).unit
  unfolding begun
  own-turned order o g h = at (split-once g order (o.once g h))
    where
      low : g < 256
      low = omega (arith, f.few)

      at : Split g order → RegistersOf (steps of items start order).words g (turn_at of m g (triggered_below_in of m order g)).unit
      at c =
          let a = c.before in
          let b = c.behind in
          let t = steps of items start a in
          let told_is = told_at a g b c.not-before low
          (λ k. rw (← c.is) (there-once s.ticks order o.once o.below k))
          (λ k. rw (← c.is) (there-below s.ticks order o.once o.below k)) in
          rw c.is
          (subst (λ (u : Generator). RegistersOf (steps of items start (a ++ (g ∷ b))).words g u)
          (ap (λ (x : Contribution). x.unit) (turn-brings a g low c.not-before) ∙ ap (λ (x : Bool). (turn_at of m g x).unit) told_is)
          (turn-registers of items a b start g low (omega (arith, f.whole)) c.not_behind))
