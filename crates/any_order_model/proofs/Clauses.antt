-- The rule by counts, clause by clause, about generators and pairs of them.
-- Assumes nothing.
use mathlib.Core.Path.{◌≡◌, refl, sym}
use mathlib.Core.Bool.{Bool, true, false, ◌&&◌, ◌||◌, true≢false}
use Prim.Native.Nat.{ℕ, ◌≤◌, ◌<◌}
use native.Mathlib.Omega.{arith}
use borrow.Author.Tests.{eqb-true, eq-eqb, leb-true, lt-ltb}
use lib.Dec.{eqb, leb, ltb}
use Rattle.base_lists.specs.Lists.{count_below}
use Rattle.base_lists.proofs.Below.{and_both, below_at}
use Rattle.layout.specs.Layout.{dacs, quadrant_words}
use Rattle.base_sequences.proofs.Found.{Found, counts-one, at_most_one}
use Rattle.compare_agreement.specs.Agreement.{Settings, awaits, replaces_word, adds_to_word}
use Rattle.compare_agreement.proofs.Agreed.{and_parts}
use Rattle.any_order_model.specs.Clauses.{Clauses}
use Rattle.any_order_model.specs.OrderFree.{Counts, counts_in, sources, share_one, feeders_share, words_apart, order_free}

-- The settings of generators of a text: a lower neighbour is another generator; none both replaces and adds; each source is a value of GFM; a 0111 has a sum word.
pub record Separate (s : Settings) : Type 0 where
  pub apart : 1 ≤ s.distance
  pub exclusive : (g : ℕ) → s.replacing g ≡ true → s.adding g ≡ false
  pub sourced : (g : ℕ) → g < s.ticks → s.source g < sources
  pub worded : (g : ℕ) → g < s.ticks → Found (λ w. s.on_word w g) quadrant_words

-- The parts of the rule.
pub record Parts (c : Counts) : Type 0 where
  pub awaiting : eqb c.awaiting 0 ≡ true
  pub feeders : (d : ℕ) → d < dacs → share_one (c.feeders d) ≡ true
  pub writers : share_one c.writers ≡ true
  pub readers : leb c.readers 1 ≡ true
  pub words : (w : ℕ) → w < quadrant_words → (eqb (c.readers_on w) 0 || eqb (c.adders_on w) 0) ≡ true

pub parts : (c : Counts) → order_free c ≡ true → Parts c
unfolding order_free feeders_share words_apart
parts c e =
    let words = and_parts _ _ e in
    let readers = and_parts _ _ words.0 in
    let writers = and_parts _ _ readers.0 in
    let feeders = and_parts _ _ writers.0 in
    record {
      awaiting = feeders.0;
      feeders = below_at _ dacs feeders.1;
      writers = writers.1;
      readers = readers.1;
      words = below_at _ quadrant_words words.1;
    }

module _ (s : Settings) (separate : Separate s) where
  -- Of those counted by source that share one, two have the same source.
  shared : (p : ℕ → Bool) → share_one (λ v. count_below (λ g. p g && eqb (s.source g) v) s.ticks) ≡ true
      → (g h : ℕ) → g < s.ticks → h < s.ticks → p g ≡ true → p h ≡ true → s.source g ≡ s.source h
  unfolding share_one
  shared p e g h lg lh pg ph =
      at_most_one (λ v. ltb 0 (from v)) sources (s.source g) (s.source h) (leb-true _ 1 e)
      (separate.sourced g lg) (separate.sourced h lh) (used g lg pg) (used h lh ph)
    where
      from : ℕ → ℕ
      from v = count_below (λ k. p k && eqb (s.source k) v) s.ticks

      used : (k : ℕ) → k < s.ticks → p k ≡ true → ltb 0 (from (s.source k)) ≡ true
      used k l pk =
          lt-ltb 0 (from (s.source k)) (counts-one (λ j. p j && eqb (s.source j) (s.source k)) s.ticks k l (and_both _ _ pk (eq-eqb (s.source k) (s.source k) refl)))

  pub clauses : order_free (counts_in s) ≡ true → Clauses s
  clauses e =
      let q = parts (counts_in s) e in
      record {
        awaiting = λ g l a. omega (arith, eqb-true (counts_in s).awaiting 0 q.awaiting, counts-one (awaits s) s.ticks g l a);
        feeders = λ d g h l. shared (s.feeds d) (q.feeders d l) g h;
        writers = shared s.writes q.writers;
        readers = λ g h. at_most_one s.replacing s.ticks g h (leb-true (counts_in s).readers 1 q.readers);
        adders = λ w g h l lg lh a b. none (q.words w l) (counts-one (replaces_word s w) s.ticks g lg a) (counts-one (adds_to_word s w) s.ticks h lh b);
      }
    where
      none : {x y : ℕ} → (eqb x 0 || eqb y 0) ≡ true → 1 ≤ x → 1 ≤ y → ⊥
      none {x} {y} e a b = go (eqb x 0) refl (eqb y 0) refl e
        where
          go : (v : Bool) → eqb x 0 ≡ v → (u : Bool) → eqb y 0 ≡ u → (v || u) ≡ true → ⊥
          go true p u q r = omega (arith, eqb-true x 0 p)
          go false p true q r = omega (arith, eqb-true y 0 q)
          go false p false q r = true≢false (sym r)
