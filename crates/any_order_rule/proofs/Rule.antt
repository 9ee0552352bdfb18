-- The rule by a machine's own words is the rule by its counts, and with its answer the words are what is kept of the machine.
-- Assumes nothing.
use mathlib.Core.Path.{◌≡◌, refl, sym, ap, ◌∙◌}
use mathlib.Core.Logic.{◌≢◌}
use mathlib.Core.Bool.{Bool, true, false, not, cond, ◌&&◌, ◌||◌}
use Prim.Native.Nat.{ℕ, zero, suc, ◌+◌, ◌-◌, ◌<◌}
use native.Mathlib.Omega.{arith}
use native.Mathlib.Nat.{zero-add}
use borrow.Author.Tests.{eqb-true, eqb-false, ne_eqb, leb-true, leb-false, ltb-true, ltb-false, lt-ltb, le-ltb}
use lib.Dec.{eqb, leb, ltb}
use lib.ListN.{length, get_or, set, length-set}
use lib.Seq.{get_or-set_same, get_or-set_other, ext_get_or}
use Rattle.base_lists.specs.Lists.{all_below, count_below}
use Rattle.base_lists.proofs.Below.{both}
use Rattle.base_lists.proofs.Tables.{tabulate-length, tabulate-at}
use Rattle.layout.specs.Machine.{Machine, ticks_of}
use Rattle.layout_texts.specs.declared.Text.TheVariants.{Of1978}
use Rattle.compare_agreement.specs.Agreement.{settings_of}
use Rattle.any_order_model.specs.OrderFree.{Counts, counts_in, share_one, feeders_share, words_apart, order_free}
use Rattle.any_order_sums.specs.Places.{Kept, others_at, all_readers_at, awaiting_at, fed_at, written_at, parted_at, shared_at, order_free_at, kept_length}
use Rattle.any_order_sums.proofs.Holds.{Holds}
use Rattle.any_order_counts.specs.Kept.{kind_count, sources_of, dacs_parted, words_shared, kept_word, kept_of}
use Rattle.any_order_counts.specs.AsCoded.{Countable, counted_to}
use Rattle.any_order_counts.proofs.Tallies.{Tally, counted}
use Rattle.any_order_counts.proofs.Own.{OwnWords, own-words}
use Rattle.any_order_rule.specs.AsCoded.{order_free_by, answered}

-- None fails where all pass.
none-fails : (p q : ℕ → Bool) (n : ℕ) → ((k : ℕ) → q k ≡ not (p k)) → eqb (count_below q n) 0 ≡ all_below p n
unfolding count_below
none-fails p q zero same = refl
none-fails p q (suc n) same = rw (same n) (go (p n) (none-fails p q n same))
  where
    go : (b : Bool) → eqb (count_below q n) 0 ≡ all_below p n → eqb (cond (not b) 1 0 + count_below q n) 0 ≡ (b && all_below p n)
    go true ih = ap (λ (x : ℕ). eqb x 0) (zero-add (count_below q n)) ∙ ih
    go false ih = ne_eqb (1 + count_below q n) 0 (λ e. omega arith)

-- A word of what is kept.
pub kept_at : (m : Machine) (i : ℕ) → i < kept_length → get_or (kept_of m) i 0 ≡ kept_word m i
unfolding kept_of
kept_at m i l = tabulate-at (kept_word m) kept_length i 0 l

module _ (m : Machine) (k : Kept) (own : OwnWords m k) where
  abbrev c : Counts
  c = counts_in (settings_of Of1978 m)

  pub rule-own : order_free_by k ≡ order_free c
  unfolding order_free_by order_free feeders_share words_apart share_one
  rule-own = both (both (both (both first fed) written) read) words
    where
      first : eqb (get_or k awaiting_at 0) 0 ≡ eqb c.awaiting 0
      first = ap (λ (n : ℕ). eqb n 0) own.awaiting

      fed : eqb (get_or k parted_at 0) 0 ≡ all_below (λ d. leb (sources_of (c.feeders d)) 1) 16
      fed = ap (λ (n : ℕ). eqb n 0) own.parted ∙ none-fails (λ d. leb (sources_of (c.feeders d)) 1) (λ d. ltb 1 (sources_of (c.feeders d))) 16 (λ d. more (sources_of (c.feeders d)))
        where
          more : (n : ℕ) → ltb 1 n ≡ not (leb n 1)
          more n = go (leb n 1) refl
            where
              go : (b : Bool) → leb n 1 ≡ b → ltb 1 n ≡ not b
              go true e = le-ltb 1 n (leb-true n 1 e)
              go false e = lt-ltb 1 n (leb-false n 1 e)

      written : leb (get_or k written_at 0) 1 ≡ leb (sources_of c.writers) 1
      written = ap (λ (n : ℕ). leb n 1) own.written

      read : leb (get_or k all_readers_at 0) 1 ≡ leb c.readers 1
      read = ap (λ (n : ℕ). leb n 1) own.readers

      words : eqb (get_or k shared_at 0) 0 ≡ all_below (λ w. eqb (c.readers_on w) 0 || eqb (c.adders_on w) 0) 64
      words =
          ap (λ (n : ℕ). eqb n 0) own.shared
          ∙ none-fails (λ w. eqb (c.readers_on w) 0 || eqb (c.adders_on w) 0) (λ w. ltb 0 (c.readers_on w) && ltb 0 (c.adders_on w)) 64
          (λ w. some (c.readers_on w) (c.adders_on w))
        where
          pos : (n : ℕ) → ltb 0 n ≡ not (eqb n 0)
          pos n = go (eqb n 0) refl
            where
              go : (b : Bool) → eqb n 0 ≡ b → ltb 0 n ≡ not b
              go true e = rw (eqb-true n 0 e)
              go false e = lt-ltb 0 n (omega (arith, eqb-false n 0 e))

          some : (x y : ℕ) → (ltb 0 x && ltb 0 y) ≡ not (eqb x 0 || eqb y 0)
          some x y = rw (pos x, pos y) (go (eqb x 0) (eqb y 0))
            where
              go : (a b : Bool) → (not a && not b) ≡ not (a || b)
              go true b = refl
              go false b = refl

  -- The word at each place.
  word-own : (i : ℕ) → i < order_free_at → get_or k i 0 ≡ kept_word m i
  unfolding kept_word
  word-own i l = kind (leb i others_at) refl
    where
      sums : others_at < i → (a b c d e f : Bool) → eqb i all_readers_at ≡ a → eqb i awaiting_at ≡ b → ltb i written_at ≡ c → eqb i written_at ≡ d → eqb i parted_at ≡ e → eqb i shared_at ≡ f
          → get_or k i 0
          ≡ cond a (counts_in (settings_of Of1978 m)).readers
          (cond b (counts_in (settings_of Of1978 m)).awaiting
          (cond c (sources_of ((counts_in (settings_of Of1978 m)).feeders (i - fed_at 0)))
          (cond d (sources_of (counts_in (settings_of Of1978 m)).writers)
          (cond e (dacs_parted (counts_in (settings_of Of1978 m)))
          (cond f (words_shared (counts_in (settings_of Of1978 m)))
          (cond (order_free (counts_in (settings_of Of1978 m))) 1 0))))))
      sums h true b c d e f p q r s t u = rw (eqb-true i all_readers_at p) own.readers
      sums h false true c d e f p q r s t u = rw (eqb-true i awaiting_at q) own.awaiting
      sums h false false true d e f p q r s t u =
          let d-is : fed_at (i - fed_at 0) ≡ i = omega (arith, h, eqb-false i all_readers_at p, eqb-false i awaiting_at q) in
          rw d-is at (own.fed (i - fed_at 0) (omega (arith, ltb-true i written_at r)))
      sums h false false false true e f p q r s t u = rw (eqb-true i written_at s) own.written
      sums h false false false false true f p q r s t u = rw (eqb-true i parted_at t) own.parted
      sums h false false false false false true p q r s t u = rw (eqb-true i shared_at u) own.shared
      sums h false false false false false false p q r s t u =
          absurd (omega (arith, l, ltb-false i written_at r, eqb-false i written_at s, eqb-false i parted_at t, eqb-false i shared_at u))

      kind : (b : Bool) → leb i others_at ≡ b → get_or k i 0
          ≡ cond b (kind_count m i)
          (cond (eqb i all_readers_at) (counts_in (settings_of Of1978 m)).readers
          (cond (eqb i awaiting_at) (counts_in (settings_of Of1978 m)).awaiting
          (cond (ltb i written_at) (sources_of ((counts_in (settings_of Of1978 m)).feeders (i - fed_at 0)))
          (cond (eqb i written_at) (sources_of (counts_in (settings_of Of1978 m)).writers)
          (cond (eqb i parted_at) (dacs_parted (counts_in (settings_of Of1978 m)))
          (cond (eqb i shared_at) (words_shared (counts_in (settings_of Of1978 m)))
          (cond (order_free (counts_in (settings_of Of1978 m))) 1 0)))))))
      kind true e = own.kinds i (leb-true i others_at e)
      kind false e = sums (leb-false i others_at e) _ _ _ _ _ _ refl refl refl refl refl refl

  answer-own : kept_word m order_free_at ≡ cond (order_free c) 1 0
  unfolding kept_word
  answer-own = refl

  answered-length : length (answered k) ≡ kept_length
  unfolding answered
  answered-length = length-set k order_free_at (cond (order_free_by k) 1 0) ∙ own.size

  answered-there : get_or (answered k) order_free_at 0 ≡ cond (order_free c) 1 0
  unfolding answered
  answered-there = get_or-set_same k order_free_at (cond (order_free_by k) 1 0) 0 (omega (arith, own.size)) ∙ ap (λ (b : Bool). cond b 1 0) rule-own

  answered-elsewhere : (i : ℕ) → i ≢ order_free_at → get_or (answered k) i 0 ≡ get_or k i 0
  unfolding answered
  answered-elsewhere i n = get_or-set_other k order_free_at i (cond (order_free_by k) 1 0) 0 n

  kept-length : length (kept_of m) ≡ kept_length
  unfolding kept_of
  kept-length = tabulate-length (kept_word m) 0 kept_length

  pub answered-own : answered k ≡ kept_of m
  answered-own = ext_get_or 0 (answered k) (kept_of m) (answered-length ∙ sym kept-length) (λ i l. at i (omega (arith, answered-length, l)) (eqb i order_free_at) refl)
    where
      at : (i : ℕ) → i < kept_length → (b : Bool) → eqb i order_free_at ≡ b → get_or (answered k) i 0 ≡ get_or (kept_of m) i 0
      at i l true e = let q = eqb-true i order_free_at e in rw q (answered-there ∙ sym answer-own ∙ sym (kept_at m order_free_at (omega arith)))
      at i l false e = let n = eqb-false i order_free_at e in answered-elsewhere i n ∙ word-own i (omega (arith, n)) ∙ sym (kept_at m i l)

-- The same from the counts of the generators below T.
module _ (m : Machine) (countable : Countable m) (k : Kept) (o : Tally m (ticks_of m) k) where
  pub rule-tally : order_free_by k ≡ order_free (counts_in (settings_of Of1978 m))
  rule-tally = rule-own m k (own-words m countable k o)

  pub answered-tally : answered k ≡ kept_of m
  answered-tally = answered-own m k (own-words m countable k o)

-- The answer is no count.
holds-answered : (k : Kept) (f : ℕ → ℕ) (r a : ℕ) → Holds k f r a → Holds (answered k) f r a
unfolding answered
holds-answered k f r a o =
    record {
      size = length-set k order_free_at (cond (order_free_by k) 1 0) ∙ o.size;
      kinds = λ i l. other i (λ q. omega arith) ∙ o.kinds i l;
      all-readers = other all_readers_at (λ q. omega arith) ∙ o.all-readers;
      all-awaiting = other awaiting_at (λ q. omega arith) ∙ o.all-awaiting;
      fed = λ d l. other (fed_at d) (λ q. omega arith) ∙ o.fed d l;
      written = other written_at (λ q. omega arith) ∙ o.written;
      parted = other parted_at (λ q. omega arith) ∙ o.parted;
      shared = other shared_at (λ q. omega arith) ∙ o.shared;
    }
  where
    other : (j : ℕ) → j ≢ order_free_at → get_or (set k order_free_at (cond (order_free_by k) 1 0)) j 0 ≡ get_or k j 0
    other j n = get_or-set_other k order_free_at j (cond (order_free_by k) 1 0) 0 n

-- What the code makes is what is kept of the machine, and holds its counts.
module _ (m : Machine) (countable : Countable m) where
  pub counted-own : answered (counted_to m (ticks_of m)) ≡ kept_of m
  counted-own = answered-tally m countable (counted_to m (ticks_of m)) (counted m countable (ticks_of m) countable.ticks)

  pub own-tally : Tally m (ticks_of m) (kept_of m)
  own-tally = rw (← counted-own) (holds-answered (counted_to m (ticks_of m)) _ _ _ (counted m countable (ticks_of m) countable.ticks))

  pub own-answer : get_or (kept_of m) order_free_at 0 ≡ cond (order_free (counts_in (settings_of Of1978 m))) 1 0
  unfolding kept_word
  own-answer = kept_at m order_free_at (omega arith)
