-- What the generators' stage of a pass leaves: the closed forms of `StageEnds`, from the folds.
-- Assumes nothing.
use mathlib.Core.Path.{◌≡◌, refl, sym, ◌∙◌}
use mathlib.Core.List.{[], map}
use Prim.Native.Nat.{ℕ, ◌%◌, ◌^◌, ◌<◌}
use native.Mathlib.Omega.{arith}
use native.Mathlib.Nat.{zero-add, mod-eq_of_lt}
use lib.Pow.{pow_pos}
use lib.ListN.{length, get_or}
use lib.Seq.{sets}
use Rattle.base_lists.proofs.Below.{and_second}
use Rattle.base_lists.proofs.Choices.{of_test}
use Rattle.layout.specs.Layout.{dac_at}
use Rattle.layout.specs.Machine.{Machine, Order, Items, Places}
use Rattle.machine.proofs.ValidMachine.{reaches}
use Rattle.pass_order.specs.Order.{IsOrder}
use Rattle.pass_sums.specs.Sums.{generator_this, word_at, sum_at, sums_of}
use Rattle.pass_sums.proofs.Memory.{quadrant-word, sums-quadrant, sums-quadrants}
use Rattle.pass_model.specs.Generators.{Generators, State, steps, begun, taken_by}
use Rattle.pass_laws.proofs.Orders.{Distinct, distinct-order}
use Rattle.base_sequences.specs.Sequences.{keep, some, latest}
use Rattle.compare_agreement.specs.Agreement.{Settings, replaces_word, adds_to_word}
use Rattle.equal_endings.specs.AsCoded.{p_at, sends_at, Follows, taken_in, word_after, StageEnds}
use Rattle.equal_endings.proofs.Folds.{replacing-left, writing-sets, counting_kept, summing, summing-plain, summing-replaced}
use Rattle.equal_endings.proofs.Taking.{Taking}
use Rattle.equal_endings.proofs.Stage.{dac-left, places-left, writes-left, reads-left, word-left}
use Rattle.equal_endings.proofs.Told.{own-turned}

module _ (of : Generators) (s : Settings) (m : Machine) (f : Follows of s m) (items : Items) (places : Places) (order : Order) (o : IsOrder s.ticks order) where
  abbrev start : State
  start = begun m (sums_of m) places

  distinct : Distinct order
  distinct = distinct-order s.ticks order f.few o

  -- As a pass begins, all generators of the order are to be taken.
  taking-begun : Taking s.ticks m start order
  unfolding begun
  taking-begun =
      record {
        distinct = distinct;
        below = o.below;
        as-begun = λ k c. record { each = λ j l. refl };
        same-last = record { generators = refl; modifiers = refl };
        dacs = omega (arith, f.whole);
        quadrants = sums-quadrants m (reaches m f.whole);
      }

  -- A word of generator-this as it begins has 20 bits.
  word-begun : (w : ℕ) → w < 64 → get_or (get_or start.sums generator_this []) w 0 < 2 ^ 20
  unfolding begun
  word-begun w h = rw (sums-quadrant m 0 (omega arith), quadrant-word m 0 w h) (f.this-low w h)

  sum-begun : (w : ℕ) → w < 64 → get_or (get_or start.sums generator_this []) w 0 ≡ sum_at (sums_of m) w
  unfolding begun sum_at word_at
  sum-begun w h = sym (mod-eq_of_lt (word-begun w h))

  stage-dac : (d : ℕ) → d < 16 → get_or (steps of items start order).words (dac_at d) 0 ≡ latest (s.feeds d) (sends_at of m) order (get_or m (dac_at d) 0)
  unfolding begun
  stage-dac d h =
      dac-left of s m f items d h order start taking-begun ∙ replacing-left (s.feeds d) (sends_at of m) order (get_or m (dac_at d) 0)

  stage-sum : (w : ℕ) → w < 64 → get_or (get_or (steps of items start order).sums generator_this []) w 0 ≡ word_after of m s items order w
  unfolding word_after begun
  stage-sum w h =
      let r = replaces_word s w in
      let a = adds_to_word s w in
      let c = get_or (get_or start.sums generator_this []) w 0 in
      let item : ℕ → ℕ = λ k. get_or items k 0 % 2 ^ 20 in
      word-left of s m f items w h order start taking-begun
      ∙ of_test (λ (x : ℕ). summing (2 ^ 20) r a s.replacing (p_at of m) item order c 0 ≡ x) (some r order)
      (summing-replaced (2 ^ 20) (pow_pos 20) r a s.replacing (p_at of m) item
      (λ g q. and_second (s.on_word w g) (s.replacing g) q) order distinct.once c)
      (λ q. summing-plain (2 ^ 20) (pow_pos 20) r a s.replacing (p_at of m) item order c 0 (word-begun w h) q ∙ rw (sum-begun w h))

  stage-sent : (steps of items start order).places ≡ sets places 0 (map (sends_at of m) (keep s.writes order))
  unfolding begun
  stage-sent = places-left of s m f items order start taking-begun ∙ writing-sets s.writes (sends_at of m) order places 0

  stage-writes : (steps of items start order).writes ≡ length (keep s.writes order)
  unfolding begun
  stage-writes = writes-left of s m f items order start taking-begun ∙ counting_kept s.writes order 0 ∙ zero-add (length (keep s.writes order))

  stage-reads : (steps of items start order).reads ≡ length (keep s.replacing order)
  unfolding begun
  stage-reads = reads-left of s m f items order start taking-begun ∙ counting_kept s.replacing order 0 ∙ zero-add (length (keep s.replacing order))

  pub stage-ends : StageEnds of m s items places order (taken_in of m items places order)
  unfolding taken_by
  stage-ends =
      record {
        own = own-turned of s m f items places order o;
        dac = stage-dac;
        sum = stage-sum;
        sent = stage-sent;
        reads = stage-reads;
        writes = stage-writes;
      }
