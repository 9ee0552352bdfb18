-- Where the rule fails there are two generators whose sequence tells, and the two orders that end with the lowest such ones don't agree.
-- Assumes nothing.
use mathlib.Core.Path.{◌≡◌, refl, sym, ◌∙◌}
use mathlib.Core.Logic.{◌≢◌}
use mathlib.Core.Bool.{Bool, true, false, not, ◌&&◌, ◌||◌, true≢false}
use Prim.Native.Nat.{ℕ, zero, suc, ◌+◌, ◌-◌, ◌<◌}
use native.Mathlib.Omega.{arith}
use borrow.Author.Tests.{eqb-true, eqb-false, eq-eqb, ne_eqb, leb-true, leb-false, ltb-true}
use lib.Dec.{eqb, leb, ltb}
use Rattle.base_lists.specs.Lists.{all_below, count_below}
use Rattle.base_lists.proofs.Below.{and_both}
use Rattle.layout.specs.Layout.{dacs, quadrant_words}
use Rattle.pass_order.specs.Order.{IsOrder}
use Rattle.base_sequences.proofs.Found.{Found, FoundTwo, found, found-two, found_some, lowest-passes}
use Rattle.compare_agreement.specs.Agreement.{Settings, awaits, replaces_word, adds_to_word, Agreeing}
use Rattle.compare_agreement.proofs.Agreed.{and_parts}
use Rattle.any_order_model.specs.OrderFree.{counts_in, sources, share_one, feeders_share, words_apart, order_free}
use Rattle.any_order_model.specs.Parting.{some_below, waits_for, send_apart, both_replace, replaces_under, tells, partner_of, later_of, parting_orders}
use Rattle.any_order_model.proofs.Clauses.{Separate}
use Rattle.any_order_model.proofs.Ending.{ending_order}
use Rattle.any_order_model.proofs.Parted.{parted, distinct}

-- A conjunction that fails has a part that fails, a disjunction that fails has both.
fails : {R : Type 0} (a b : Bool) → (a && b) ≡ false → (a ≡ false → R) → (b ≡ false → R) → R
fails true b e f g = g e
fails false b e f g = f refl

one-fails : {R : Type 0} (a b c d e : Bool) → (a && b && c && d && e) ≡ false
    → (a ≡ false → R) → (b ≡ false → R) → (c ≡ false → R) → (d ≡ false → R) → (e ≡ false → R) → R
one-fails a b c d e f of-a of-b of_c of-d of-e =
    fails (a && b && c && d) e f (λ x. fails (a && b && c) d x (λ y. fails (a && b) c y (λ z. fails a b z of-a of-b) of_c) of-d) of-e

neither : (a b : Bool) → (a || b) ≡ false → (a ≡ false) × (b ≡ false)
neither true b e = absurd (true≢false e)
neither false b e = (refl, e)

or_left : (a b : Bool) → a ≡ true → (a || b) ≡ true
or_left true b e = refl
or_left false b e = absurd (true≢false (sym e))

or_right : (a b : Bool) → b ≡ true → (a || b) ≡ true
or_right true b e = refl
or_right false b e = e

differs : (a b : ℕ) → a ≢ b → not (eqb a b) ≡ true
differs a b n = rw (ne_eqb a b n)

-- A number at which a test fails that doesn't pass everywhere.
below_fails : (p : ℕ → Bool) (n : ℕ) → all_below p n ≡ false → Found (λ k. not (p k)) n
below_fails p zero e = absurd (true≢false e)
below_fails p (suc n) e = go (p n) refl e (below_fails p n)
  where
    go : (b : Bool) → p n ≡ b → (b && all_below p n) ≡ false → (all_below p n ≡ false → Found (λ k. not (p k)) n) → Found (λ k. not (p k)) (suc n)
    go true q f ih = let x = ih f in record { at = x.at; below = omega (arith, x.below); passes = x.passes }
    go false q f ih = record { at = n; below = omega arith; passes = rw q }

failed : (b : Bool) → not b ≡ true → b ≡ false
failed true e = absurd (true≢false (sym e))
failed false e = refl

-- Two generators whose sequence tells.
pub record Telling (s : Settings) : Type 0 where
  pub first : ℕ
  pub second : ℕ
  pub first_below : first < s.ticks
  pub second_below : second < s.ticks
  pub tell : tells s first second ≡ true

module _ (s : Settings) where
  -- Two of those counted by source that don't share one.
  record Apart (p : ℕ → Bool) : Type 0 where
    one : Found p s.ticks
    other : Found p s.ticks
    differ : s.source one.at ≢ s.source other.at

  unshared : (p : ℕ → Bool) → share_one (λ v. count_below (λ g. p g && eqb (s.source g) v) s.ticks) ≡ false → Apart p
  unfolding share_one
  unshared p e =
      record {
        one = passing two.one.at one;
        other = passing two.other.at other;
        differ = λ x. two.apart (sym (source_is two.one.at one) ∙ x ∙ source_is two.other.at other);
      }
    where
      from : ℕ → ℕ → Bool
      from v g = p g && eqb (s.source g) v

      two : FoundTwo (λ v. ltb 0 (count_below (from v) s.ticks)) sources
      two = found-two _ sources (omega (arith, leb-false (count_below (λ v. ltb 0 (count_below (from v) s.ticks)) sources) 1 e))

      one : Found (from two.one.at) s.ticks
      one = found _ s.ticks (ltb-true 0 (count_below (from two.one.at) s.ticks) two.one.passes)

      other : Found (from two.other.at) s.ticks
      other = found _ s.ticks (ltb-true 0 (count_below (from two.other.at) s.ticks) two.other.passes)

      passing : (v : ℕ) → Found (from v) s.ticks → Found p s.ticks
      passing v f = record { at = f.at; below = f.below; passes = (and_parts (p f.at) (eqb (s.source f.at) v) f.passes).0 }

      source_is : (v : ℕ) (f : Found (from v) s.ticks) → s.source f.at ≡ v
      source_is v f = eqb-true (s.source f.at) v (and_parts (p f.at) (eqb (s.source f.at) v) f.passes).1

  -- Each way of telling tells.
  module _ (g h : ℕ) where
    tell-waiting : waits_for s g h ≡ true → tells s g h ≡ true
    unfolding tells
    tell-waiting e = or_left _ (replaces_under s g h) (or_left _ (both_replace s g h) (or_left (waits_for s g h) (send_apart s g h) e))

    tell-sending : send_apart s g h ≡ true → tells s g h ≡ true
    unfolding tells
    tell-sending e = or_left _ (replaces_under s g h) (or_left _ (both_replace s g h) (or_right (waits_for s g h) (send_apart s g h) e))

    tell-reading : both_replace s g h ≡ true → tells s g h ≡ true
    unfolding tells
    tell-reading e = or_left _ (replaces_under s g h) (or_right (waits_for s g h || send_apart s g h) (both_replace s g h) e)

    tell-adding : replaces_under s g h ≡ true → tells s g h ≡ true
    unfolding tells
    tell-adding e = or_right (waits_for s g h || send_apart s g h || both_replace s g h) (replaces_under s g h) e

  -- Each clause that fails.
  of-waiting : eqb (counts_in s).awaiting 0 ≡ false → Telling s
  of-waiting e =
      let f = found (awaits s) s.ticks (omega (arith, eqb-false (counts_in s).awaiting 0 e)) in
      let a = and_parts (leb s.distance f.at && s.waits f.at) _ f.passes in
      let l = leb-true s.distance f.at (and_parts (leb s.distance f.at) _ a.0).0 in
      let g = f.at - s.distance in
      let back : s.distance + g ≡ f.at = omega (arith, l) in
      record {
        first = g;
        second = f.at;
        first_below = omega (arith, f.below);
        second_below = f.below;
        tell = tell-waiting g f.at (and_both _ _ f.passes (eq-eqb (s.distance + g) f.at back));
      }

  of-feeding : (d : ℕ) → d < dacs → share_one ((counts_in s).feeders d) ≡ false → Telling s
  of-feeding d l e =
      let a = unshared (s.feeds d) e in
      let g = a.one.at in
      let h = a.other.at in
      let feeding = found_some (λ k. s.feeds k g && s.feeds k h) dacs d l (and_both _ _ a.one.passes a.other.passes) in
      record {
        first = g;
        second = h;
        first_below = a.one.below;
        second_below = a.other.below;
        tell = tell-sending g h (and_both _ _ (differs (s.source g) (s.source h) a.differ) (or_left _ (s.writes g && s.writes h) feeding));
      }

  of-writing : share_one (counts_in s).writers ≡ false → Telling s
  of-writing e =
      let a = unshared s.writes e in
      let g = a.one.at in
      let h = a.other.at in
      record {
        first = g;
        second = h;
        first_below = a.one.below;
        second_below = a.other.below;
        tell = tell-sending g h
            (and_both _ _ (differs (s.source g) (s.source h) a.differ)
            (or_right (some_below (λ d. s.feeds d g && s.feeds d h) dacs) _ (and_both _ _ a.one.passes a.other.passes)));
      }

  of-reading : leb (counts_in s).readers 1 ≡ false → Telling s
  of-reading e =
      let two = found-two s.replacing s.ticks (omega (arith, leb-false (counts_in s).readers 1 e)) in
      record {
        first = two.one.at;
        second = two.other.at;
        first_below = two.one.below;
        second_below = two.other.below;
        tell = tell-reading two.one.at two.other.at
            (and_both _ _ (and_both _ _ (differs two.one.at two.other.at two.apart) two.one.passes) two.other.passes);
      }

  of-adding : (w : ℕ) → w < quadrant_words → (eqb ((counts_in s).readers_on w) 0 || eqb ((counts_in s).adders_on w) 0) ≡ false → Telling s
  of-adding w l e =
      let n = neither (eqb ((counts_in s).readers_on w) 0) _ e in
      let g = found (replaces_word s w) s.ticks (omega (arith, eqb-false ((counts_in s).readers_on w) 0 n.0)) in
      let h = found (adds_to_word s w) s.ticks (omega (arith, eqb-false ((counts_in s).adders_on w) 0 n.1)) in
      record {
        first = g.at;
        second = h.at;
        first_below = g.below;
        second_below = h.below;
        tell = tell-adding g.at h.at
            (found_some (λ k. replaces_word s k g.at && adds_to_word s k h.at) quadrant_words w l (and_both _ _ g.passes h.passes));
      }

  -- One of them fails where the rule does.
  pub rule-fails : order_free (counts_in s) ≡ false → Telling s
  unfolding order_free feeders_share words_apart
  rule-fails e =
      let c = counts_in s in
      one-fails (eqb c.awaiting 0) (feeders_share c) (share_one c.writers) (leb c.readers 1) (words_apart c) e
      of-waiting
      (λ f. let d = below_fails (λ d. share_one (c.feeders d)) dacs f in of-feeding d.at d.below (failed (share_one (c.feeders d.at)) d.passes))
      of-writing
      of-reading
      (λ f.
      let w = below_fails (λ w. eqb (c.readers_on w) 0 || eqb (c.adders_on w) 0) quadrant_words f in
      of-adding w.at w.below (failed (eqb (c.readers_on w.at) 0 || eqb (c.adders_on w.at) 0) w.passes))

  -- The lowest ones then tell.
  pub record LowestTell : Type 0 where
    pub earlier : partner_of s (later_of s) < s.ticks
    pub later : later_of s < s.ticks
    pub tell : tells s (partner_of s (later_of s)) (later_of s) ≡ true

  pub lowest-tell : Telling s → LowestTell
  unfolding partner_of later_of
  lowest-tell t =
      let has : (h : ℕ) → Bool = λ h. ltb (partner_of s h) s.ticks in
      let some = found_some has s.ticks t.second t.second_below (found_some (λ g. tells s g t.second) s.ticks t.first t.first_below t.tell) in
      let partner = lowest-passes has s.ticks some in
      record {
        earlier = ltb-true (partner_of s (later_of s)) s.ticks partner;
        later = ltb-true (later_of s) s.ticks some;
        tell = lowest-passes (λ g. tells s g (later_of s)) s.ticks partner;
      }

  -- The two orders are orders that don't agree.
  pub record Part : Type 0 where
    pub first : IsOrder s.ticks (parting_orders s).first
    pub second : IsOrder s.ticks (parting_orders s).second
    pub disagree : Agreeing s (parting_orders s).first (parting_orders s).second → ⊥

  pub orders-part : Separate s → order_free (counts_in s) ≡ false → Part
  unfolding parting_orders
  orders-part separate e =
      record {
        first = ending_order s.ticks g h l.earlier l.later apart;
        second = ending_order s.ticks h g l.later l.earlier (λ x. apart (sym x));
        disagree = λ ag. parted s g h l.earlier l.later separate l.tell ag;
      }
    where
      l : LowestTell
      l = lowest-tell (rule-fails e)

      g : ℕ
      g = partner_of s (later_of s)

      h : ℕ
      h = later_of s

      apart : g ≢ h
      apart = distinct s g h l.earlier l.later separate l.tell
