-- Words that hold the counts of a machine's generators hold them as the rule counts them; and two machines that differ in one generator.
-- Assumes nothing.
use mathlib.Core.Path.{◌≡◌, refl, sym, ap, ◌∙◌}
use mathlib.Core.Logic.{◌≢◌}
use mathlib.Core.Bool.{Bool, true, false, not, cond, ◌&&◌}
use Prim.Native.Nat.{ℕ, ◌+◌, ◌-◌, ◌*◌, ◌<◌, ◌≤◌}
use native.Mathlib.Omega.{arith}
use borrow.Author.Tests.{eqb-false, leb-true, ltb-true, ltb-false}
use lib.Dec.{eqb, leb, ltb}
use lib.ListN.{length, get_or}
use Rattle.base_lists.specs.Lists.{count_below}
use Rattle.base_lists.proofs.Counts.{count-below-same}
use Rattle.layout.specs.Machine.{Machine, ticks_of}
use Rattle.layout_texts.specs.Texts.{run_mode_at}
use Rattle.layout_texts.specs.declared.Text.TheVariants.{Of1978}
use Rattle.layout_modes.specs.Modes.{wait, free, replaces}
use Rattle.compare_agreement.specs.Agreement.{Settings, settings_of, awaits}
use Rattle.any_order_model.specs.OrderFree.{Counts, counts_in}
use Rattle.any_order_sums.specs.Places.{Kept, readers_at, adders_at, writers_at, feeders_at, others_at, all_readers_at, awaiting_at, fed_at, written_at, parted_at, shared_at, kept_length}
use Rattle.any_order_sums.proofs.Holds.{holds_same}
use Rattle.any_order_counts.specs.Kept.{place_in, kind_count, sources_of, dacs_parted, words_shared}
use Rattle.any_order_counts.specs.AsCoded.{Countable, generator_moved, counted_moved}
use Rattle.any_order_counts.proofs.OfKinds.{reader_at, adder-at, writer-at, feeder-at}
use Rattle.any_order_counts.proofs.Tallies.{Tally, Without, with_it, all-of-it, generator-moved, unmoved}

-- The words that are a machine's own but for the answer.
pub record OwnWords (m : Machine) (k : Kept) : Type 0 where
  pub size : length k ≡ kept_length
  pub kinds : (i : ℕ) → i ≤ others_at → get_or k i 0 ≡ kind_count m i
  pub readers : get_or k all_readers_at 0 ≡ (counts_in (settings_of Of1978 m)).readers
  pub awaiting : get_or k awaiting_at 0 ≡ (counts_in (settings_of Of1978 m)).awaiting
  pub fed : (d : ℕ) → d < 16 → get_or k (fed_at d) 0 ≡ sources_of ((counts_in (settings_of Of1978 m)).feeders d)
  pub written : get_or k written_at 0 ≡ sources_of (counts_in (settings_of Of1978 m)).writers
  pub parted : get_or k parted_at 0 ≡ dacs_parted (counts_in (settings_of Of1978 m))
  pub shared : get_or k shared_at 0 ≡ words_shared (counts_in (settings_of Of1978 m))

module _ (m : Machine) (countable : Countable m) where
  abbrev s : Settings
  s = settings_of Of1978 m

  abbrev c : Counts
  c = counts_in s

  -- A count by place is that of its kind.
  counted-as : (i : ℕ) (p : ℕ → Bool) → ((g : ℕ) → g < 256 → eqb (place_in m g) i ≡ p g) → kind_count m i ≡ count_below p (ticks_of m)
  counted-as i p same = count-below-same (λ g. eqb (place_in m g) i) p (ticks_of m) (λ g l. same g (omega (arith, countable.ticks)))

  pub fed-as : (d v : ℕ) → d < 16 → v < 128 → kind_count m (feeders_at d v) ≡ c.feeders d v
  fed-as d v ld lv = counted-as (feeders_at d v) (λ g. s.feeds d g && eqb (s.source g) v) (λ g l. feeder-at m g (countable.gsums g l) (countable.gfms g l) d v ld lv)

  pub written_as : (v : ℕ) → v < 128 → kind_count m (writers_at v) ≡ c.writers v
  written_as v lv = counted-as (writers_at v) (λ g. s.writes g && eqb (s.source g) v) (λ g l. writer-at m g (countable.gsums g l) (countable.gfms g l) v lv)

  pub read_as : (w : ℕ) → w < 64 → kind_count m (readers_at w) ≡ c.readers_on w
  read_as w lw = counted-as (readers_at w) (λ g. s.on_word w g && s.replacing g) (λ g l. reader_at m g (countable.gsums g l) (countable.gfms g l) w lw)

  pub added-as : (w : ℕ) → w < 64 → kind_count m (adders_at w) ≡ c.adders_on w
  added-as w lw = counted-as (adders_at w) (λ g. s.on_word w g && s.adding g) (λ g l. adder-at m g (countable.gsums g l) (countable.gfms g l) w lw)

  -- So the words are the machine's own.
  sources-as : (f g : ℕ → ℕ) → ((v : ℕ) → v < 128 → f v ≡ g v) → count_below (λ v. ltb 0 (f v)) 128 ≡ sources_of g
  sources-as f g same = count-below-same (λ v. ltb 0 (f v)) (λ v. ltb 0 (g v)) 128 (λ v l. ap (λ (n : ℕ). ltb 0 n) (same v l))

  fed-sources : (d : ℕ) → d < 16 → count_below (λ v. ltb 0 (kind_count m (256 + 128 * d + v))) 128 ≡ sources_of (c.feeders d)
  fed-sources d l = sources-as (λ v. kind_count m (256 + 128 * d + v)) (c.feeders d) (λ v h. fed-as d v l h)

  pub own-words : (k : Kept) → Tally m (ticks_of m) k → OwnWords m k
  own-words k o =
      record {
        size = o.size;
        kinds = o.kinds;
        readers = o.all-readers;
        awaiting = o.all-awaiting;
        fed = λ d l. o.fed d l ∙ fed-sources d l;
        written = o.written ∙ sources-as (λ v. kind_count m (128 + v)) c.writers written_as;
        parted = o.parted ∙ count-below-same _ _ 16 (λ d l. ap (λ (n : ℕ). ltb 1 n) (fed-sources d l));
        shared = o.shared ∙ count-below-same _ _ 64 (λ w l. rw (read_as w l, added-as w l));
      }

-- Two machines whose generators but g are the same, and are counted in both or in none.
pub record SameBut (g : ℕ) (m n : Machine) : Type 0 where
  pub ticks : (h : ℕ) → h < 256 → h ≢ g → ltb h (ticks_of m) ≡ ltb h (ticks_of n)
  pub places : (h : ℕ) → h < 256 → h ≢ g → place_in m h ≡ place_in n h
  pub runs : (h : ℕ) → h < 256 → h ≢ g → run_mode_at Of1978 m h ≡ run_mode_at Of1978 n h

-- Without g they have the same counts.
pub same-without : (g : ℕ) (m n : Machine) {k : Kept} → SameBut g m n → Without m (ticks_of m) g false k → Without n (ticks_of n) g false k
same-without g m n same o =
    holds_same
    (λ i l. alike (λ h. ltb h (ticks_of m) && eqb (place_in m h) i) (λ h. ltb h (ticks_of n) && eqb (place_in n h) i) (λ h l q. rw (same.ticks h l q, same.places h l q)))
    (alike (λ h. ltb h (ticks_of m) && replaces (run_mode_at Of1978 m h)) (λ h. ltb h (ticks_of n) && replaces (run_mode_at Of1978 n h)) (λ h l q. rw (same.ticks h l q, same.runs h l q)))
    (alike (λ h. ltb h (ticks_of m) && (awaits (settings_of Of1978 m) h && not (eqb h (g + 1)))) (λ h. ltb h (ticks_of n) && (awaits (settings_of Of1978 n) h && not (eqb h (g + 1))))
    (λ h l q. rw (same.ticks h l q) (above h (eqb h (g + 1)) refl l q)))
    o
  where
    none : (c : Bool) → (c && false) ≡ false
    none true = refl
    none false = refl

    alike : (p q : ℕ → Bool) → ((h : ℕ) → h < 256 → h ≢ g → p h ≡ q h) → count_below (λ h. p h && not (eqb h g)) 256 ≡ count_below (λ h. q h && not (eqb h g)) 256
    alike p q f = count-below-same (λ h. p h && not (eqb h g)) (λ h. q h && not (eqb h g)) 256 (λ h l. at h l (eqb h g) refl)
      where
        at : (h : ℕ) → h < 256 → (b : Bool) → eqb h g ≡ b → (p h && not b) ≡ (q h && not b)
        at h l true e = none (p h) ∙ sym (none (q h))
        at h l false e = rw (f h l (eqb-false h g e))

    pairs : (h : ℕ) → h < 256 → h ≢ g → h ≢ g + 1 → awaits (settings_of Of1978 m) h ≡ awaits (settings_of Of1978 n) h
    pairs h l p q = go (leb 1 h) refl
      where
        go : (b : Bool) → leb 1 h ≡ b
            → ((b && eqb (run_mode_at Of1978 m h) wait) && free (run_mode_at Of1978 m (h - 1))) ≡ ((b && eqb (run_mode_at Of1978 n h) wait) && free (run_mode_at Of1978 n (h - 1)))
        go true e = rw (same.runs h l p, same.runs (h - 1) (omega arith) (λ r. q (omega (arith, leb-true 1 h e, r))))
        go false e = refl

    above : (h : ℕ) (b : Bool) → eqb h (g + 1) ≡ b → h < 256 → h ≢ g
        → (ltb h (ticks_of n) && (awaits (settings_of Of1978 m) h && not (eqb h (g + 1)))) ≡ (ltb h (ticks_of n) && (awaits (settings_of Of1978 n) h && not (eqb h (g + 1))))
    above h true e l p = rw (e, none (awaits (settings_of Of1978 m) h), none (awaits (settings_of Of1978 n) h))
    above h false e l p = rw (pairs h l p (eqb-false h (g + 1) e))

-- Generator g put in or taken out where it is below T.
module _ (m : Machine) (g : ℕ) (countable : Countable m) where
  pub counted-moved : (up : Bool) (k : Kept) → Without m (ticks_of m) g (not up) k → Without m (ticks_of m) g up (counted_moved up m k g)
  unfolding counted_moved
  counted-moved up k o = go (ltb g (ticks_of m)) refl
    where
      go : (b : Bool) → ltb g (ticks_of m) ≡ b → Without m (ticks_of m) g up (cond b (generator_moved up m (ticks_of m) k g) k)
      go true e = generator-moved m (ticks_of m) g countable.ticks up (ltb-true g (ticks_of m) e) countable k o
      go false e = unmoved m (ticks_of m) g countable.ticks (ltb-false g (ticks_of m) e) up o

-- From the counts of one machine to those of the other.
pub changed-tally : (g : ℕ) (m n : Machine) → Countable m → Countable n → SameBut g m n → (k : Kept) → Tally m (ticks_of m) k
    → Tally n (ticks_of n) (counted_moved true n (counted_moved false m k g) g)
changed-tally g m n a b same k o =
    all-of-it n (ticks_of n) g b.ticks
    (counted-moved n g b true (counted_moved false m k g) (same-without g m n same (counted-moved m g a false k (with_it m (ticks_of m) g a.ticks o))))
