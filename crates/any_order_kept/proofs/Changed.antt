-- What is a machine's own becomes, with a change, the changed machine's own.
-- Assumes nothing.
use mathlib.Core.Path.{◌≡◌, refl, sym, ap, ◌∙◌}
use mathlib.Core.Logic.{◌≢◌}
use mathlib.Core.Bool.{Bool, true, false, cond, ◌&&◌, ◌||◌}
use Prim.Native.Nat.{ℕ, ◌+◌, ◌-◌, ◌/◌, ◌<◌, ◌≤◌}
use native.Mathlib.Omega.{arith}
use native.Mathlib.Nat.{add-zero}
use borrow.Author.Tests.{eqb-true, eqb-false, ne_eqb, ltb-true, lt-ltb}
use lib.Dec.{eqb, ltb}
use lib.ListN.{length, get_or, set}
use lib.Seq.{get_or-set_same}
use Rattle.base_lists.proofs.Below.{both_ways, and_second}
use Rattle.layout.specs.Layout.{machine_length, generator_at, t_at, update_ticks_at}
use Rattle.layout.specs.Machine.{Machine, ticks_of}
use Rattle.layout.proofs.UpdateTicks.{counted-other}
use Rattle.layout_texts.specs.declared.Text.TheVariants.{Of1978}
use Rattle.machine.specs.Questions.{valid}
use Rattle.machine.proofs.ValidMachine.{valid-controls}
use Rattle.any_order_counts.specs.Kept.{place_in, kept_of}
use Rattle.any_order_counts.specs.AsCoded.{Countable, counted_moved}
use Rattle.any_order_counts.proofs.Own.{SameBut, changed-tally}
use Rattle.any_order_rule.proofs.Rule.{answered-tally, own-tally}
use Rattle.machine_change.specs.Change.{Change, tick_more, tick_fewer, is_change, with_ticks, changed_by, concerned, is_of}
use Rattle.machine_change.specs.AsCoded.{let_through}
use Rattle.machine_change.proofs.Branches.{more-changed, fewer-changed, more-concerns, fewer-concerns, register-concerns, more_room, fewer-room, register-fits}
use Rattle.machine_change.proofs.Valid.{let-through-is, changed-length, change-elsewhere}
use Rattle.any_order.proofs.Answers.{valid-countable}
use Rattle.any_order_kept.specs.Keeping.{kept_after}

-- The words of a generator that say where it is counted.
same_place : (m n : Machine) (h : ℕ) → get_or n (generator_at h) 0 ≡ get_or m (generator_at h) 0 → get_or n (generator_at h + 8) 0 ≡ get_or m (generator_at h + 8) 0
    → get_or n (generator_at h + 9) 0 ≡ get_or m (generator_at h + 9) 0 → get_or n (generator_at h + 10) 0 ≡ get_or m (generator_at h + 10) 0 → place_in m h ≡ place_in n h
unfolding place_in
same_place m n h go gsum gfm gmode = rw (go, gsum, gfm, gmode)

-- A word of another generator is none that a change is of, nor is T where T is not changed.
not-of : (kind g v i : ℕ) → (kind ≤ 3 → (j : ℕ) → j < 11 → i ≢ generator_at g + j) → (3 < kind → (i ≢ t_at) × (i ≢ update_ticks_at))
    → is_of (record { kind = kind; generator = g; value = v }) i ≡ false
unfolding is_of
not-of kind g v i words ticks = go (eqb kind 0) refl (eqb kind 1) refl (eqb kind 2) refl (eqb kind 3) refl
  where
    go : (a : Bool) → eqb kind 0 ≡ a → (b : Bool) → eqb kind 1 ≡ b → (c : Bool) → eqb kind 2 ≡ c → (d : Bool) → eqb kind 3 ≡ d
        → cond a (eqb i (generator_at g + 10)) (cond b (eqb i (generator_at g + 8)) (cond c (eqb i (generator_at g + 9)) (cond d (eqb i (generator_at g + 0)) (eqb i t_at || eqb i update_ticks_at)))) ≡ false
    go true p b q c r d s = ne_eqb i (generator_at g + 10) (words (omega (arith, eqb-true kind 0 p)) 10 (omega arith))
    go false p true q c r d s = ne_eqb i (generator_at g + 8) (words (omega (arith, eqb-true kind 1 q)) 8 (omega arith))
    go false p false q true r d s = ne_eqb i (generator_at g + 9) (words (omega (arith, eqb-true kind 2 r)) 9 (omega arith))
    go false p false q false r true s = ne_eqb i (generator_at g + 0) (words (omega (arith, eqb-true kind 3 s)) 0 (omega arith))
    go false p false q false r false s =
        let none = ticks (omega (arith, eqb-false kind 0 p, eqb-false kind 1 q, eqb-false kind 2 r, eqb-false kind 3 s)) in
        rw (ne_eqb i t_at none.0, ne_eqb i update_ticks_at none.1)

module _ (m : Machine) (whole : length m ≡ machine_length) (good : valid Of1978 m ≡ true) (kind g v : ℕ) where
  abbrev c : Change
  c = record { kind = kind; generator = g; value = v }

  module _ (passes : let_through m c ≡ true) where
    abbrev n : Machine
    n = changed_by m c

    both_yes : (is_change c && valid Of1978 n) ≡ true
    both_yes = sym (let-through-is m whole good kind g v) ∙ passes

    pub changed-valid : valid Of1978 n ≡ true
    changed-valid = and_second (is_change c) (valid Of1978 n) both_yes

    pub changed-whole : length n ≡ machine_length
    changed-whole = changed-length m kind g v ∙ whole

    pub few : kind ≤ 5
    few = go (eqb kind tick_more) refl (eqb kind tick_fewer) refl
      where
        go : (a : Bool) → eqb kind tick_more ≡ a → (b : Bool) → eqb kind tick_fewer ≡ b → kind ≤ 5
        go true p b q = omega (arith, eqb-true kind tick_more p)
        go false p true q = omega (arith, eqb-true kind tick_fewer q)
        go false p false q = omega (arith, (register-fits m kind g v (eqb-false kind tick_more p) (eqb-false kind tick_fewer q) passes).0)

    -- What the change concerns, and T before and after.
    record Concerned : Type 0 where
      below : concerned m c < 256
      named : kind ≤ 3 → concerned m c ≡ g
      ticks : (h : ℕ) → h ≢ concerned m c → ltb h (ticks_of m) ≡ ltb h (ticks_of n)

    ticks-after : (t : ℕ) → n ≡ with_ticks m t → ticks_of n ≡ t
    ticks-after t e =
        ap (λ (x : Machine). get_or x t_at 0) e ∙ counted-other (set m t_at t) t_at (eqb-false t_at update_ticks_at refl) ∙ get_or-set_same m t_at t 0 (omega (arith, whole))

    concerns : Concerned
    concerns = go (eqb kind tick_more) refl (eqb kind tick_fewer) refl
      where
        go : (a : Bool) → eqb kind tick_more ≡ a → (b : Bool) → eqb kind tick_fewer ≡ b → Concerned
        go true p b q =
            let k = eqb-true kind tick_more p in
            let is = more-concerns m kind g v k refl in
            let room = more_room m kind g v k passes in
            let after = ticks-after (ticks_of m + 1) (sym (more-changed m kind g v k refl)) in
            record {
              below = omega (arith, is, room);
              named = λ h. absurd (omega (arith, k, h));
              ticks = λ h off.
                  rw after
                  (both_ways (ltb h (ticks_of m)) (ltb h (ticks_of m + 1))
                  (λ e. lt-ltb h (ticks_of m + 1) (omega (arith, ltb-true h (ticks_of m) e)))
                  (λ e. lt-ltb h (ticks_of m) (omega (arith, ltb-true h (ticks_of m + 1) e, off, is))));
            }
        go false p true q =
            let no = eqb-false kind tick_more p in
            let k = eqb-true kind tick_fewer q in
            let is = fewer-concerns m kind g v no k refl in
            let room = fewer-room m kind g v no k passes in
            let high = (valid-controls Of1978 m good).t_high in
            let after = ticks-after (ticks_of m - 1) (sym (fewer-changed m kind g v no k refl)) in
            record {
              below = omega (arith, is, room, high);
              named = λ h. absurd (omega (arith, k, h));
              ticks = λ h off.
                  rw after
                  (both_ways (ltb h (ticks_of m)) (ltb h (ticks_of m - 1))
                  (λ e. lt-ltb h (ticks_of m - 1) (omega (arith, ltb-true h (ticks_of m) e, off, is, room)))
                  (λ e. lt-ltb h (ticks_of m) (omega (arith, ltb-true h (ticks_of m - 1) e))));
            }
        go false p false q =
            let no = eqb-false kind tick_more p in
            let none = eqb-false kind tick_fewer q in
            let is = register-concerns m kind g v no none refl in
            let fits = register-fits m kind g v no none passes in
            record {
              below = omega (arith, is, fits.1);
              named = λ h. sym is;
              ticks = λ h off.
                  ap (λ (t : ℕ). ltb h t)
                  (sym (change-elsewhere m kind g v few t_at (not-of kind g v t_at (λ l j b e. omega (arith, e, fits.1, b)) (λ l. absurd (omega (arith, l, fits.0))))));
            }

    pub concerned-below : concerned m c < 256
    concerned-below = concerns.below

    -- Every other generator is as it was.
    same_word : (h j : ℕ) → h < 256 → h ≢ concerned m c → j < 11 → get_or n (generator_at h + j) 0 ≡ get_or m (generator_at h + j) 0
    same_word h j l off b =
        change-elsewhere m kind g v few (generator_at h + j)
        (not-of kind g v (generator_at h + j)
        (λ k i a e. off (other (concerns.named k) i a e))
        (λ k. ((λ e. omega (arith, l, b, e)), (λ e. omega (arith, l, b, e)))))
      where
        other : concerned m c ≡ g → (i : ℕ) → i < 11 → generator_at h + j ≡ generator_at g + i → h ≡ concerned m c
        other is i a e = omega (arith, is, a, b, e)

    pub same-but : SameBut (concerned m c) m n
    same-but =
        record {
          ticks = λ h l off. concerns.ticks h off;
          places = λ h l off.
              same_place m n h (rw (add-zero (generator_at h)) at (same_word h 0 l off (omega arith))) (same_word h 8 l off (omega arith)) (same_word h 9 l off (omega arith))
              (same_word h 10 l off (omega arith));
          runs = λ h l off. ap (λ (x : ℕ). x / 64) (sym (same_word h 10 l off (omega arith)));
        }

    pub kept-own : kept_after m n (concerned m c) (kept_of m) ≡ kept_of n
    unfolding kept_after
    kept-own =
        answered-tally n countable (counted_moved true n (counted_moved false m (kept_of m) (concerned m c)) (concerned m c))
        (changed-tally (concerned m c) m n (valid-countable m whole good) countable same-but (kept_of m) (own-tally m (valid-countable m whole good)))
      where
        countable : Countable n
        countable = valid-countable n changed-whole changed-valid
