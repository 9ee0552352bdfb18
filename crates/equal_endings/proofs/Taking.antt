-- A pass under way: the generators that are still to be taken are as it began, and so are the last quadrants; so what each brings is as the settings say, and a step does that to the DAC words, to generator-this, to the places and to the counts.
-- Assumes nothing.
use mathlib.Core.Path.{◌≡◌, refl, sym, ap, ◌∙◌}
use mathlib.Core.Logic.{◌≢◌}
use mathlib.Core.Bool.{Bool, true, false, cond, ◌&&◌}
use mathlib.Core.List.{[], ◌∷◌}
use Prim.Native.Nat.{ℕ, suc, ◌+◌, ◌%◌, ◌^◌, ◌≤◌, ◌<◌}
use native.Mathlib.Omega.{arith}
use native.Mathlib.Nat.{mod-add-mod, mod-lt}
use borrow.Author.Tests.{eqb-true, eqb-false}
use lib.Dec.{eqb}
use lib.Pow.{pow_pos}
use lib.ListN.{length, get_or, set}
use lib.Seq.{get_or-set_same, get_or-set_other}
use Rattle.base_lists.specs.Lists.{count}
use Rattle.layout.specs.Layout.{generator_at, dac_at}
use Rattle.layout.specs.Machine.{Machine, Order, Items, Sums}
use Rattle.base_words.specs.Words.{sum}
use Rattle.base_words.proofs.Residues.{sum_is}
use Rattle.pass_sums.specs.Sums.{generator_this, word_at, sum_at, put_sum, sums_of}
use Rattle.pass_sums.proofs.Memory.{Quadrants, put-this}
use Rattle.pass_model.specs.Generators.{Contribution, Generators, State, triggered_below, fed, summed, step}
use Rattle.pass_model.proofs.Puts.{put-length, put-apart}
use Rattle.pass_laws.proofs.Frames.{contribution_at, put_back, step_words, step-length, step-below, step-quadrant, step-quadrants, apart-past, apart_other}
use Rattle.pass_laws.proofs.Orders.{Distinct, distinct-first, distinct-rest}
use Rattle.compare_agreement.specs.Agreement.{Settings, replaces_word, adds_to_word}
use Rattle.base_lists.proofs.Counts.{count-first, count_next}
use Rattle.base_sequences.proofs.Places.{there-within}
use Rattle.equal_endings.specs.AsCoded.{turn_at, p_at, sends_at, SameWords, SameLast, TurnFollows, Follows}
use Rattle.equal_endings.proofs.Folds.{next}

-- A word that a DAC may be.
dac-word : (words : Machine) (b : Bool) (n d f x : ℕ) → dac_at d < length words → get_or words (dac_at d) 0 ≡ x
    → get_or (cond b (set words (dac_at n) f) words) (dac_at d) 0 ≡ cond (b && eqb n d) f x
dac-word words false n d f x h e = e
dac-word words true n d f x h e = go (eqb n d) refl
  where
    go : (c : Bool) → eqb n d ≡ c → get_or (set words (dac_at n) f) (dac_at d) 0 ≡ cond c f x
    go true q = rw (eqb-true n d q) (get_or-set_same words (dac_at d) f 0 h)
    go false q = get_or-set_other words (dac_at n) (dac_at d) f 0 (λ z. eqb-false n d q (omega arith)) ∙ e

-- A word of generator-this, where word i is replaced, added to or left.
module _ (s : Sums) (i w p item : ℕ) (small : p < 2 ^ 20) (inside : w < length (get_or s generator_this [])) where
  abbrev old : ℕ
  old = get_or (get_or s generator_this []) w 0

  put_word : (v : ℕ) (c : Bool) → eqb i w ≡ c → get_or (get_or (put_sum s i v) generator_this []) w 0 ≡ cond c v old
  put_word v true q = rw (put-this s i v, eqb-true i w q) (get_or-set_same (get_or s 0 []) w v 0 inside)
  put_word v false q = rw (put-this s i v) (get_or-set_other (get_or s 0 []) i w v 0 (λ z. eqb-false i w q (sym z)))

  added : eqb i w ≡ true → sum 20 (sum_at s i) p ≡ (old + p) % 2 ^ 20
  unfolding sum_at word_at
  added q =
      sum_is 20 (get_or (get_or s 0 []) i 0 % 2 ^ 20) p (mod-lt (get_or (get_or s 0 []) i 0) (pow_pos 20)) small
      ∙ mod-add-mod (get_or (get_or s 0 []) i 0) (2 ^ 20) p
      ∙ ap (λ (j : ℕ). (get_or (get_or s 0 []) j 0 + p) % 2 ^ 20) (eqb-true i w q)

  sum-word : (r a : Bool)
      → get_or (get_or (cond r (put_sum s i (sum 20 p (item % 2 ^ 20))) (cond a (put_sum s i (sum 20 (sum_at s i) p)) s)) generator_this []) w 0
      ≡ cond (eqb i w && r) ((p + item % 2 ^ 20) % 2 ^ 20) (cond (eqb i w && a) ((old + p) % 2 ^ 20) old)
  sum-word r a = go (eqb i w) refl r a
    where
      go : (c : Bool) → eqb i w ≡ c → (r a : Bool)
          → get_or (get_or (cond r (put_sum s i (sum 20 p (item % 2 ^ 20))) (cond a (put_sum s i (sum 20 (sum_at s i) p)) s)) generator_this []) w 0
          ≡ cond (c && r) ((p + item % 2 ^ 20) % 2 ^ 20) (cond (c && a) ((old + p) % 2 ^ 20) old)
      go true q true a =
          put_word (sum 20 p (item % 2 ^ 20)) true q ∙ sum_is 20 p (item % 2 ^ 20) small (mod-lt item (pow_pos 20))
      go true q false true = put_word (sum 20 (sum_at s i) p) true q ∙ added q
      go true q false false = refl
      go false q true a = put_word (sum 20 p (item % 2 ^ 20)) false q
      go false q false true = put_word (sum 20 (sum_at s i) p) false q
      go false q false false = refl

-- The generators of an order below t are still to be taken.
pub record Taking (t : ℕ) (m : Machine) (s : State) (order : Order) : Type 0 where
  pub distinct : Distinct order
  pub below : (i : ℕ) → i < length order → get_or order i 0 < t
  pub as-begun : (k : ℕ) → 1 ≤ count k order → SameWords s.words m k
  pub same-last : SameLast s.sums (sums_of m)
  pub dacs : 4112 ≤ length s.words
  pub quadrants : Quadrants s.sums

module _ (of : Generators) (c : Settings) (m : Machine) (f : Follows of c m) (items : Items) (s : State) (g : ℕ) (order : Order)
    (k : Taking c.ticks m s (g ∷ order)) where
  first-low : g < 256
  first-low = k.distinct.below 0 (omega arith)

  -- What the generator that is taken brings, and that it follows the settings.
  first : TurnFollows of c m g
  first = f.turns g (k.below 0 (omega arith))

  abbrev b : Contribution
  b = contribution_at of s g

  abbrev t : Bool
  t = triggered_below of.distance s.triggered g

  first-brings : contribution_at of s g ≡ turn_at of m g (triggered_below of.distance s.triggered g)
  first-brings = f.own s.words m s.sums (sums_of m) g t (k.as-begun g (omega (arith, count-first g order))) k.same-last

  sends-is : b.sends ≡ sends_at of m g
  sends-is = ap (λ (x : Contribution). x.sends) first-brings ∙ first.sends t

  writes-is : b.writes ≡ c.writes g
  writes-is = ap (λ (x : Contribution). x.writes) first-brings ∙ first.writes t

  replaces-is : b.replaces ≡ c.replacing g
  replaces-is = ap (λ (x : Contribution). x.replaces) first-brings ∙ first.replaces t

  adds-is : b.adds ≡ c.adding g
  adds-is = ap (λ (x : Contribution). x.adds) first-brings ∙ first.adds t

  word-is : (w : ℕ) → eqb b.word w ≡ c.on_word w g
  word-is w = ap (λ (x : Contribution). eqb x.word w) first-brings ∙ first.word t w

  p-is : b.p ≡ p_at of m g
  p-is = ap (λ (x : Contribution). x.p) first-brings ∙ first.p t

  feeds-is : (d : ℕ) → (b.feeds && eqb b.dac d) ≡ c.feeds d g
  feeds-is d = ap (λ (x : Contribution). x.feeds && eqb x.dac d) first-brings ∙ first.feeds t d

  -- The others stay as they were.
  pub taking-next : Taking c.ticks m (step of items s g) order
  taking-next =
      record {
        distinct = distinct-rest g order k.distinct;
        below = λ i h. k.below (suc i) (omega arith);
        as-begun = λ h q.
            let n : h ≢ g = λ e. absurd (omega (arith, distinct-first g order k.distinct, ap (λ (j : ℕ). count j order) e)) in
            let l : h < 256 = there-within 256 h order (distinct-rest g order k.distinct).below q in
            let start = k.as-begun h (omega (arith, count_next h g order (λ e. n (sym e)))) in
            record { each = λ j i. step-below of items s g (generator_at h + j) (omega arith) (apart_other g h j i n) ∙ start.each j i };
        same-last =
            record {
              generators = step-quadrant of items s g 1 (λ e. omega arith) ∙ k.same-last.generators;
              modifiers = step-quadrant of items s g 3 (λ e. omega arith) ∙ k.same-last.modifiers;
            };
        dacs = rw (step-length of items s g) k.dacs;
        quadrants = step-quadrants of items s g k.quadrants;
      }

  -- What the step does.
  pub dac-next : (d : ℕ) → d < 16 → get_or (step of items s g).words (dac_at d) 0 ≡ cond (c.feeds d g) (sends_at of m g) (get_or s.words (dac_at d) 0)
  unfolding fed
  dac-next d h =
      rw (step_words of items s g)
      (dac-word (put_back of s g) b.feeds b.dac d b.sends (get_or s.words (dac_at d) 0)
      (rw (put-length s.words g b.unit) (omega (arith, k.dacs)))
      (put-apart s.words g b.unit (dac_at d) (apart-past g (dac_at d) first-low (omega arith)))
      ∙ rw (feeds-is d, sends-is))

  pub sum-next : (w : ℕ) → w < 64 → get_or (get_or (step of items s g).sums generator_this []) w 0
      ≡ next (2 ^ 20) (replaces_word c w) (adds_to_word c w) c.replacing (p_at of m) (λ j. get_or items j 0 % 2 ^ 20) g
      (get_or (get_or s.sums generator_this []) w 0) s.reads
  unfolding step summed
  sum-next w h =
      sum-word s.sums b.word w b.p (get_or items s.reads 0) (rw p-is first.p-low) (rw (k.quadrants.each 0 (omega arith)) h) b.replaces b.adds
      ∙ rw (word-is w, replaces-is, adds-is, p-is)

  pub places-next : (step of items s g).places ≡ cond (c.writes g) (set s.places s.writes (sends_at of m g)) s.places
  unfolding step
  places-next = rw (writes-is, sends-is)

  pub writes-next : (step of items s g).writes ≡ cond (c.writes g) (suc s.writes) s.writes
  unfolding step
  writes-next = rw writes-is

  pub reads-next : (step of items s g).reads ≡ cond (c.replacing g) (suc s.reads) s.reads
  unfolding step
  reads-next = rw replaces-is
