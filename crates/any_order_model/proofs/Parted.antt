-- Two generators whose sequence tells: orders that end with them in one sequence and in the other don't agree on the four points.
-- Assumes nothing.
use mathlib.Core.Path.{◌≡◌, refl, sym, ap, ◌∙◌}
use mathlib.Core.Logic.{◌≢◌}
use mathlib.Core.Bool.{Bool, true, false, not, ◌&&◌, ◌||◌, true≢false}
use mathlib.Core.List.{List, [], ◌∷◌, ◌++◌, map}
use Prim.Native.Nat.{ℕ, ◌+◌, ◌-◌, ◌<◌}
use native.Mathlib.Omega.{arith}
use borrow.Author.Tests.{eqb-true, eqb-false}
use lib.Dec.{eqb, leb}
use lib.ListN.{length, get_or, get_or-map}
use lib.Seq.{get_or-append_seam}
use Rattle.base_lists.proofs.Below.{and_both}
use Rattle.layout.specs.Layout.{dacs, quadrant_words}
use Rattle.layout.specs.Machine.{Order}
use Rattle.base_sequences.specs.Sequences.{keep, place_of, before}
use Rattle.base_sequences.proofs.Found.{some-found}
use Rattle.compare_agreement.specs.Agreement.{Settings, awaits, replaces_word, adds_to_word, SameWord, Agreeing}
use Rattle.compare_agreement.proofs.Agreed.{and_parts}
use Rattle.any_order_model.specs.Parting.{some_below, waits_for, send_apart, both_replace, replaces_under, tells, ending_with}
use Rattle.any_order_model.proofs.Clauses.{Separate}
use Rattle.any_order_model.proofs.Ending.{others, others_same, first-before, second-after, last-first, last-second, kept-ending, kept-places}

-- What follows from either part of a disjunction follows from it.
either : {R : Type 0} (a b : Bool) → (a || b) ≡ true → (a ≡ true → R) → (b ≡ true → R) → R
either true b e f g = f refl
either false b e f g = g e

not-true : (b : Bool) → not b ≡ true → b ≡ false
not-true true e = absurd (true≢false (sym e))
not-true false e = refl

module _ (s : Settings) (g h : ℕ) (lg : g < s.ticks) (lh : h < s.ticks) where
  abbrev earlier : Order
  earlier = ending_with s.ticks g h

  abbrev later : Order
  later = ending_with s.ticks h g

  module _ (apart : g ≢ h) (ag : Agreeing s earlier later) where
    other : h ≢ g
    other e = apart (sym e)

    -- h waits for g, its lower neighbour.
    by-waiting : s.waits h ≡ true → s.triggering g ≡ true → s.distance + g ≡ h → ⊥
    by-waiting w t e =
        true≢false
        (sym (first-before s.ticks g h lg lh apart)
        ∙ rw e at (ag.neighbours g (rw e lh) (rw e w) t)
        ∙ second-after s.ticks h g lh lg other)

    -- They feed one DAC.
    by-feeding : (d : ℕ) → d < dacs → s.feeds d g ≡ true → s.feeds d h ≡ true → s.source g ≡ s.source h
    by-feeding d l fg fh =
        sym (ap s.source (last-second s.ticks h g lh lg other (s.feeds d) fg))
        ∙ sym (ag.feeders d g l lg fg)
        ∙ ap s.source (last-second s.ticks g h lg lh apart (s.feeds d) fh)

    -- They write data.
    by-writing : s.writes g ≡ true → s.writes h ≡ true → s.source g ≡ s.source h
    by-writing wg wh =
        sym (sent (others s.ticks g h) g (h ∷ []) earlier (kept-ending s.ticks g h lg lh apart s.writes wg wh))
        ∙ ap (λ (l : List ℕ). get_or l n (s.source 0)) ag.writers
        ∙ sent (others s.ticks g h) h (g ∷ []) later (kept-ending s.ticks h g lh lg other s.writes wh wg ∙ rw (others_same s.ticks h g))
      where
        n : ℕ
        n = length (keep s.writes (others s.ticks g h))

        sent : (rest : List ℕ) (x : ℕ) (xs : List ℕ) (o : Order) → keep s.writes o ≡ keep s.writes rest ++ (x ∷ xs)
            → get_or (map s.source (keep s.writes o)) (length (keep s.writes rest)) (s.source 0) ≡ s.source x
        sent rest x xs o e =
            get_or-map s.source (keep s.writes o) (length (keep s.writes rest)) 0
            ∙ ap s.source (ap (λ (l : List ℕ). get_or l (length (keep s.writes rest)) 0) e ∙ get_or-append_seam (keep s.writes rest) x xs 0)

    -- Both replace: h, the last 0111 of its word, has another place among all 0111s.
    by-reading : (w : ℕ) → w < quadrant_words → s.on_word w h ≡ true → s.replacing g ≡ true → s.replacing h ≡ true → ⊥
    by-reading w l on rg rh =
        let same : SameWord s w earlier later = ag.words w h l lh (and_both _ _ on rh) in
        let last = last-second s.ticks g h lg lh apart (replaces_word s w) (and_both _ _ on rh) in
        let one = (kept-places s.ticks g h lg lh apart s.replacing rg rh).1 in
        let two = (kept-places s.ticks h g lh lg other s.replacing rh rg).0 in
        let place : place_of h (keep s.replacing earlier) ≡ place_of h (keep s.replacing later)
        = ap (λ (x : ℕ). place_of x (keep s.replacing earlier)) (sym last)
        ∙ same.place
        ∙ ap (λ (x : ℕ). place_of x (keep s.replacing later)) (sym same.last ∙ last) in
        omega (arith, one, two, place, ap (λ (l : List ℕ). length (keep s.replacing l)) (others_same s.ticks g h))

    -- g replaces a word to which h adds.
    by-adding : (w : ℕ) → w < quadrant_words → replaces_word s w g ≡ true → adds_to_word s w h ≡ true → s.replacing h ≡ false → ⊥
    by-adding w l rg ah nh =
        let same : SameWord s w earlier later = ag.words w g l lg rg in
        true≢false
        (sym (first-before s.ticks g h lg lh apart)
        ∙ ap (λ (x : ℕ). before x h earlier) (sym (last-first s.ticks g h lg lh apart (replaces_word s w) rg (never (s.on_word w h) (s.replacing h) nh)))
        ∙ same.adders h lh ah
        ∙ ap (λ (x : ℕ). before x h later) (last-second s.ticks h g lh lg other (replaces_word s w) rg)
        ∙ second-after s.ticks h g lh lg other)
      where
        never : (a b : Bool) → b ≡ false → (a && b) ≡ false
        never true b e = e
        never false b e = refl

  -- What each way of telling says of them.
  record Waiting : Type 0 where
    is : s.distance + g ≡ h
    waits : s.waits h ≡ true
    triggers : s.triggering g ≡ true

  waiting : waits_for s g h ≡ true → Waiting
  waiting e =
      let q = and_parts (awaits s h) (eqb (s.distance + g) h) e in
      let a = and_parts (leb s.distance h && s.waits h) (s.triggering (h - s.distance)) q.0 in
      let b = and_parts (leb s.distance h) (s.waits h) a.0 in
      let is = eqb-true (s.distance + g) h q.1 in
      let back : h - s.distance ≡ g = omega (arith, is) in
      record { is = is; waits = b.1; triggers = rw back at a.1 }

  record Sending : Type 0 where
    differ : s.source g ≢ s.source h
    both : (some_below (λ d. s.feeds d g && s.feeds d h) dacs || (s.writes g && s.writes h)) ≡ true

  sending : send_apart s g h ≡ true → Sending
  sending e =
      let q = and_parts (not (eqb (s.source g) (s.source h))) _ e in
      record { differ = eqb-false (s.source g) (s.source h) (not-true (eqb (s.source g) (s.source h)) q.0); both = q.1 }

  record Reading : Type 0 where
    differ : g ≢ h
    first : s.replacing g ≡ true
    second : s.replacing h ≡ true

  reading : both_replace s g h ≡ true → Reading
  reading e =
      let q = and_parts (not (eqb g h) && s.replacing g) (s.replacing h) e in
      let r = and_parts (not (eqb g h)) (s.replacing g) q.0 in
      record { differ = eqb-false g h (not-true (eqb g h) r.0); first = r.1; second = q.1 }

  record Adding : Type 0 where
    word : ℕ
    below : word < quadrant_words
    first : replaces_word s word g ≡ true
    second : adds_to_word s word h ≡ true

  adding : replaces_under s g h ≡ true → Adding
  adding e =
      let w = some-found (λ w. replaces_word s w g && adds_to_word s w h) quadrant_words e in
      let q = and_parts (replaces_word s w.at g) (adds_to_word s w.at h) w.passes in
      record { word = w.at; below = w.below; first = q.0; second = q.1 }

  module _ (separate : Separate s) where
    -- One that adds doesn't replace.
    alone : (a : Adding) → s.replacing h ≡ false
    alone a = go (s.replacing h) refl
      where
        go : (b : Bool) → s.replacing h ≡ b → b ≡ false
        go true e = absurd (true≢false (sym (and_parts (s.on_word a.word h) (s.adding h) a.second).1 ∙ separate.exclusive h e))
        go false e = refl

    -- They are two.
    pub distinct : tells s g h ≡ true → g ≢ h
    unfolding tells
    distinct e =
        either _ _ e
        (λ a. either _ _ a
        (λ b. either _ _ b
        (λ w. lower (waiting w).is)
        (λ f x. (sending f).differ (ap s.source x)))
        (λ r. (reading r).differ))
        (λ a x.
        let q = adding a in
        true≢false (sym (and_parts (s.on_word q.word g) (s.replacing g) q.first).1 ∙ ap s.replacing x ∙ alone q))
      where
        lower : s.distance + g ≡ h → g ≢ h
        lower q x = omega (arith, q, x, separate.apart)

    -- The two orders don't agree.
    pub parted : tells s g h ≡ true → Agreeing s earlier later → ⊥
    unfolding tells
    parted e ag =
        either _ _ e
        (λ a. either _ _ a
        (λ b. either _ _ b
        (λ w. by-waiting apart ag (waiting w).waits (waiting w).triggers (waiting w).is)
        (λ f. sent (sending f)))
        (λ r. let w = separate.worded h lh in by-reading apart ag w.at w.below w.passes (reading r).first (reading r).second))
        (λ a. let q = adding a in by-adding apart ag q.word q.below q.first q.second (alone q))
      where
        apart : g ≢ h
        apart = distinct e

        sent : Sending → ⊥
        sent q =
            either (some_below (λ d. s.feeds d g && s.feeds d h) dacs) (s.writes g && s.writes h) q.both
            (λ f.
            let d = some-found (λ d. s.feeds d g && s.feeds d h) dacs f in
            let feeding = and_parts (s.feeds d.at g) (s.feeds d.at h) d.passes in
            q.differ (by-feeding apart ag d.at d.below feeding.0 feeding.1))
            (λ w. let writing = and_parts (s.writes g) (s.writes h) w in q.differ (by-writing apart ag writing.0 writing.1))
