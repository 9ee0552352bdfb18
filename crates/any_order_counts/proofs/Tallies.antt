-- Words that hold the counts of the first t generators hold them after a generator is put in or taken out.
-- Assumes nothing.
use mathlib.Core.Path.{◌≡◌, refl, sym, ap, ◌∙◌}
use mathlib.Core.Bool.{Bool, true, false, not, ◌&&◌, ◌||◌}
use Prim.Native.Nat.{ℕ, zero, suc, ◌+◌, ◌<◌, ◌≤◌}
use native.Mathlib.Omega.{arith}
use borrow.Author.Tests.{eqb-true, eqb-false, ne_eqb, ltb-true, ltb-false, lt-ltb, le-ltb}
use lib.Dec.{eqb, ltb}
use Rattle.base_lists.specs.Lists.{count_below}
use Rattle.base_lists.proofs.Counts.{count-below-same, count-below-le}
use Rattle.layout.specs.Machine.{Machine}
use Rattle.layout_texts.specs.Texts.{run_mode_at}
use Rattle.layout_texts.specs.declared.Text.TheVariants.{Of1978}
use Rattle.layout_modes.specs.Modes.{replaces}
use Rattle.compare_agreement.specs.Agreement.{settings_of, awaits}
use Rattle.any_order_sums.specs.Places.{Kept, others_at, all_readers_at, awaiting_at}
use Rattle.any_order_sums.specs.AsCoded.{moved_if, kind_moved}
use Rattle.any_order_sums.proofs.CountsAt.{bit, bit_le, count-upto, count-side}
use Rattle.any_order_sums.proofs.Levels.{level}
use Rattle.any_order_sums.proofs.Holds.{Holds, kind-moved, holds_same, readers-moved, awaiting-moved, zeros-hold}
use Rattle.any_order_counts.specs.Kept.{place_in}
use Rattle.any_order_counts.specs.AsCoded.{Countable, awaited, generator_moved, counted_to}
use Rattle.any_order_counts.proofs.OfKinds.{place-below}
use Rattle.any_order_counts.proofs.Steps.{counted_none, counted_next}

-- The counts of the first t generators.
abbrev pub Tally : Machine → ℕ → Kept → Type 0
Tally m t k = Holds k (λ i. count_below (λ h. eqb (place_in m h) i) t) (count_below (λ h. replaces (run_mode_at Of1978 m h)) t) (count_below (awaits (settings_of Of1978 m)) t)

-- The same with generator g (up) or without it and the two pairs that it is in.
module _ (m : Machine) (t g : ℕ) (up : Bool) where
  abbrev pub kind_side : ℕ → ℕ
  kind_side i = count_below (λ h. (ltb h t && eqb (place_in m h) i) && (up || not (eqb h g))) 256

  abbrev pub read_side : ℕ
  read_side = count_below (λ h. (ltb h t && replaces (run_mode_at Of1978 m h)) && (up || not (eqb h g))) 256

  abbrev pub pair_side : ℕ
  pair_side = count_below (λ h. (ltb h t && (awaits (settings_of Of1978 m) h && (up || not (eqb h (g + 1))))) && (up || not (eqb h g))) 256

abbrev pub Without : Machine → ℕ → ℕ → Bool → Kept → Type 0
Without m t g up k = Holds k (kind_side m t g up) (read_side m t g up) (pair_side m t g up)

-- With it they are all.
and-true : (b : Bool) → (b && true) ≡ b
and-true true = refl
and-true false = refl

all-counted : (p : ℕ → Bool) (t : ℕ) → t ≤ 256 → count_below (λ h. (ltb h t && p h) && true) 256 ≡ count_below p t
all-counted p t l = count-below-same (λ h. (ltb h t && p h) && true) (λ h. ltb h t && p h) 256 (λ h k. and-true (ltb h t && p h)) ∙ count-upto p t 256 l

module _ (m : Machine) (t g : ℕ) (few : t ≤ 256) where
  abbrev pair : ℕ → Bool
  pair h = awaits (settings_of Of1978 m) h

  abbrev read : ℕ → Bool
  read h = replaces (run_mode_at Of1978 m h)

  pairs-counted : pair_side m t g true ≡ count_below pair t
  pairs-counted = count-below-same (λ h. (ltb h t && (pair h && true)) && true) (λ h. (ltb h t && pair h) && true) 256 (λ h l. rw (and-true (pair h))) ∙ all-counted pair t few

  pub with_it : {k : Kept} → Tally m t k → Without m t g true k
  with_it o = holds_same (λ i l. sym (all-counted (λ h. eqb (place_in m h) i) t few)) (sym (all-counted read t few)) (sym pairs-counted) o

  pub all-of-it : {k : Kept} → Without m t g true k → Tally m t k
  all-of-it o = holds_same (λ i l. all-counted (λ h. eqb (place_in m h) i) t few) (all-counted read t few) pairs-counted o

  -- What generator g counts for.
  module _ (up : Bool) where
    kind-side : (i : ℕ) → kind_side m t g up i ≡ kind_side m t g false i + bit (up && (ltb g t && eqb (place_in m g) i))
    kind-side i = count-side (λ h. eqb (place_in m h) i) t 256 g up few

    read-side : read_side m t g up ≡ read_side m t g false + bit (up && (ltb g t && read g))
    read-side = count-side read t 256 g up few

    pair-side : pair_side m t g up ≡ pair_side m t g false + bit (up && (ltb g t && pair g)) + bit (up && awaited m t g)
    pair-side =
        omega (
          arith,
          count-side (λ h. pair h && (up || not (eqb h (g + 1)))) t 256 g up few,
          middle,
          count-side (λ h. pair h && not (eqb h g)) t 256 (g + 1) up few,
          last,
          ap (λ (b : Bool). bit (up && (ltb g t && b))) here,
          ap (λ (b : Bool). bit (up && (ltb (g + 1) t && b))) above,
        )
      where
        turn : (a b c d : Bool) → ((a && (b && c)) && d) ≡ ((a && (b && d)) && c)
        turn true true true true = refl
        turn true true true false = refl
        turn true true false true = refl
        turn true true false false = refl
        turn true false c d = refl
        turn false b c d = refl

        middle : count_below (λ h. (ltb h t && (pair h && (up || not (eqb h (g + 1))))) && not (eqb h g)) 256
            ≡ count_below (λ h. (ltb h t && (pair h && not (eqb h g))) && (up || not (eqb h (g + 1)))) 256
        middle = count-below-same _ _ 256 (λ h l. turn (ltb h t) (pair h) (up || not (eqb h (g + 1))) (not (eqb h g)))

        last : pair_side m t g false ≡ count_below (λ h. (ltb h t && (pair h && not (eqb h g))) && not (eqb h (g + 1))) 256
        last = count-below-same _ _ 256 (λ h l. turn (ltb h t) (pair h) (not (eqb h (g + 1))) (not (eqb h g)))

        here : (pair g && (up || not (eqb g (g + 1)))) ≡ pair g
        here = rw (ne_eqb g (g + 1) (λ e. omega arith), or-true up) (and-true (pair g))
          where
            or-true : (b : Bool) → (b || true) ≡ true
            or-true true = refl
            or-true false = refl

        above : (pair (g + 1) && not (eqb (g + 1) g)) ≡ pair (g + 1)
        above = rw (ne_eqb (g + 1) g (λ e. omega arith)) (and-true (pair (g + 1)))

  -- A generator that isn't counted counts for nothing.
  module _ (above : t ≤ g) where
    side-none : (b : Bool) (p : ℕ → Bool) → bit (b && (ltb g t && p g)) ≡ 0
    side-none b p = rw (le-ltb g t above) (off b)
      where
        off : (c : Bool) → bit (c && false) ≡ 0
        off true = refl
        off false = refl

    pair-none : (b : Bool) → bit (b && awaited m t g) ≡ 0
    pair-none b = rw (le-ltb (g + 1) t (omega arith)) (off b)
      where
        off : (c : Bool) → bit (c && false) ≡ 0
        off true = refl
        off false = refl

    pub unmoved : (up : Bool) {k : Kept} → Without m t g (not up) k → Without m t g up k
    unmoved up o =
        holds_same
        (λ i l. omega (arith, kind-side up i, kind-side (not up) i, side-none up (λ h. eqb (place_in m h) i), side-none (not up) (λ h. eqb (place_in m h) i)))
        (omega (arith, read-side up, read-side (not up), side-none up read, side-none (not up) read))
        (omega (arith, pair-side up, pair-side (not up), side-none up pair, side-none (not up) pair, pair-none up, pair-none (not up)))
        o

  -- One that is counted is put in or taken out.
  module _ (up : Bool) (below : g < t) (countable : Countable m) where
    inside : (b : Bool) → (ltb g t && b) ≡ b
    inside b = rw (lt-ltb g t below)

    within : place_in m g ≤ others_at
    within = place-below m g (countable.gsums g (omega arith)) (countable.gfms g (omega arith))

    few-pairs : pair_side m t g false ≤ 256
    few-pairs = count-below-le (λ h. (ltb h t && (pair h && not (eqb h (g + 1)))) && not (eqb h g)) 256

    level-is : (b : Bool) (i : ℕ) → kind_side m t g b i ≡ level b (place_in m g) (kind_side m t g false) i
    level-is b i = kind-side b i ∙ ap (λ (c : Bool). kind_side m t g false i + bit (b && c)) (inside (eqb (place_in m g) i))

    read_is : (b : Bool) → read_side m t g b ≡ read_side m t g false + bit (b && read g)
    read_is b = read-side b ∙ ap (λ (c : Bool). read_side m t g false + bit (b && c)) (inside (read g))

    pair_is : (b : Bool) → pair_side m t g b ≡ pair_side m t g false + bit (b && pair g) + bit (b && awaited m t g)
    pair_is b = pair-side b ∙ ap (λ (c : Bool). pair_side m t g false + bit (b && c) + bit (b && awaited m t g)) (inside (pair g))

    pub generator-moved : (k : Kept) → Without m t g (not up) k → Without m t g up (generator_moved up m t k g)
    unfolding generator_moved
    generator-moved k o = holds_same (λ i l. sym (level-is up i)) (sym (read_is up)) (omega (arith, pair_is up)) upper
      where
        f : ℕ → ℕ
        f = kind_side m t g false

        r : ℕ
        r = read_side m t g false

        a : ℕ
        a = pair_side m t g false

        kind : Kept
        kind = kind_moved up k (place_in m g)

        kinds : Holds kind (level up (place_in m g) f) (r + bit (not up && read g)) (pair_side m t g (not up))
        kinds =
            kind-moved up k f (λ j. count-below-le (λ h. (ltb h t && eqb (place_in m h) j) && not (eqb h g)) 256) (r + bit (not up && read g)) (pair_side m t g (not up)) (place_in m g) within
            (holds_same (λ i l. level-is (not up) i) (read_is (not up)) refl o)

        reads : Holds (moved_if (read g) up kind all_readers_at) (level up (place_in m g) f) (r + bit (up && read g)) (a + bit (not up && awaited m t g) + bit (not up && pair g))
        reads =
            readers-moved (read g) up kind (level up (place_in m g) f) r (a + bit (not up && awaited m t g) + bit (not up && pair g))
            (omega (arith, count-below-le (λ h. (ltb h t && read h) && not (eqb h g)) 256))
            (holds_same (λ i l. refl) refl (omega (arith, pair_is (not up))) kinds)

        lower : Holds (moved_if (pair g) up (moved_if (read g) up kind all_readers_at) awaiting_at) (level up (place_in m g) f) (r + bit (up && read g)) (a + bit (up && pair g) + bit (not up && awaited m t g))
        lower =
            holds_same (λ i l. refl) refl (omega arith)
            (awaiting-moved (pair g) up (moved_if (read g) up kind all_readers_at) (level up (place_in m g) f) (r + bit (up && read g)) (a + bit (not up && awaited m t g))
            (omega (arith, few-pairs, bit_le (not up && awaited m t g))) reads)

        upper : Holds (moved_if (awaited m t g) up (moved_if (pair g) up (moved_if (read g) up kind all_readers_at) awaiting_at) awaiting_at) (level up (place_in m g) f) (r + bit (up && read g))
            (a + bit (up && pair g) + bit (up && awaited m t g))
        upper =
            awaiting-moved (awaited m t g) up (moved_if (pair g) up (moved_if (read g) up kind all_readers_at) awaiting_at) (level up (place_in m g) f) (r + bit (up && read g)) (a + bit (up && pair g))
            (omega (arith, few-pairs, bit_le (up && pair g))) lower

-- The first t generators are the first t and one more, without that one.
pub one_more : (m : Machine) (t : ℕ) {k : Kept} → t < 256 → Tally m t k → Without m (suc t) t false k
one_more m t l o =
    holds_same (λ i h. same (λ g. eqb (place_in m g) i)) (same (λ g. replaces (run_mode_at Of1978 m g)))
    (same (awaits (settings_of Of1978 m)) ∙ count-below-same _ _ 256 (λ h k. pairs h (eqb h (t + 1)) refl)) o
  where
    test : (p : ℕ → Bool) (h : ℕ) → (ltb h t && p h) ≡ ((ltb h (suc t) && p h) && not (eqb h t))
    test p h = go (ltb h t) refl (eqb h t) refl
      where
        go : (a : Bool) → ltb h t ≡ a → (b : Bool) → eqb h t ≡ b → (a && p h) ≡ ((ltb h (suc t) && p h) && not b)
        go true e true q = absurd (omega (arith, ltb-true h t e, eqb-true h t q))
        go true e false q = rw (lt-ltb h (suc t) (omega (arith, ltb-true h t e))) (sym (and-true (p h)))
        go false e true q = sym (off (ltb h (suc t) && p h))
          where
            off : (c : Bool) → (c && false) ≡ false
            off true = refl
            off false = refl
        go false e false q = rw (le-ltb h (suc t) (omega (arith, ltb-false h t e, eqb-false h t q)))

    same : (p : ℕ → Bool) → count_below p t ≡ count_below (λ h. (ltb h (suc t) && p h) && not (eqb h t)) 256
    same p = sym (count-upto p t 256 (omega arith)) ∙ count-below-same _ _ 256 (λ h k. test p h)

    pairs : (h : ℕ) (b : Bool) → eqb h (t + 1) ≡ b
        → ((ltb h (suc t) && awaits (settings_of Of1978 m) h) && not (eqb h t)) ≡ ((ltb h (suc t) && (awaits (settings_of Of1978 m) h && not (eqb h (t + 1)))) && not (eqb h t))
    pairs h true e = rw (le-ltb h (suc t) (omega (arith, eqb-true h (t + 1) e)))
    pairs h false e = rw (e, and-true (awaits (settings_of Of1978 m) h))

-- Counted one after the other from zero they are counted.
pub counted : (m : Machine) → Countable m → (t : ℕ) → t ≤ 256 → Tally m t (counted_to m t)
unfolding count_below
counted m c zero l = rw (counted_none m) (zeros-hold (λ i. 0) (λ i. refl))
counted m c (suc t) l =
    rw (counted_next m t)
    (all-of-it m (suc t) t l (generator-moved m (suc t) t l true (omega arith) c (counted_to m t) (one_more m t (omega arith) (counted m c t (omega arith)))))
