-- The counter and Lingers: a Linger doesn't write the counter, so after TIMER it is what TT 01 or 11 set it to; and of the counter its low bits alone decide.
-- Assumes nothing.
use mathlib.Core.Path.{◌≡◌, refl, sym, ap, ◌∙◌}
use mathlib.Core.Logic.{◌≢◌}
use mathlib.Core.Bool.{Bool, true, false, cond}
use mathlib.Core.List.{List}
use Prim.Native.Nat.{ℕ, ◌%◌, ◌^◌, ◌<◌}
use native.Mathlib.Omega.{arith}
use borrow.Author.Tests.{eqb-false}
use lib.Dec.{eqb}
use lib.ListN.{length, get_or, set}
use lib.Seq.{get_or-set_same, get_or-set_other, set_comm}
use Rattle.base_lists.proofs.Choices.{of-cond}
use Rattle.layout.specs.Layout.{counter_at, lingering_at, linger_pass_at, overrun_at}
use Rattle.layout.specs.Machine.{Reaches}
use Rattle.layout.specs.Widths.{linger_bits}
use Rattle.command_fields.specs.Fields.{data_of}
use Rattle.command_timer.specs.Timer.{counter_set, behind, waits_for, lingered, tt_of, timed}
use Rattle.command_update.specs.Update.{still_lingering}

lingered-counter : (m : List ℕ) (n : ℕ) → get_or (lingered m n) counter_at 0 ≡ get_or m counter_at 0
unfolding lingered
lingered-counter m n =
    of-cond (λ (l : List ℕ). get_or l counter_at 0 ≡ get_or m counter_at 0) (waits_for m n)
    (get_or-set_other (set m lingering_at 1) linger_pass_at counter_at n 0 (eqb-false counter_at linger_pass_at refl)
    ∙ get_or-set_other m lingering_at counter_at 1 0 (eqb-false counter_at lingering_at refl))
    (of-cond (λ (l : List ℕ). get_or l counter_at 0 ≡ get_or m counter_at 0) (eqb (behind m n) 0) refl
    (get_or-set_other m overrun_at counter_at 1 0 (eqb-false counter_at overrun_at refl)))

module _ (m : List ℕ) (r : Reaches m) (c : ℕ) where
  set_to : (n : ℕ) → get_or (counter_set m n) counter_at 0 ≡ n
  unfolding counter_set
  set_to n = get_or-set_same m counter_at n 0 (omega (arith, r.all))

  -- TT 01: the counter is the data, so it has 20 bits.
  pub timer-sets : tt_of c ≡ 0b01 → (get_or (timed m c) counter_at 0 ≡ data_of c) × (data_of c < 2 ^ linger_bits)
  unfolding timed
  timer-sets e = (rw e (set_to (data_of c)), omega arith)

  -- TT 11: the counter is 0.
  pub timer-clears : tt_of c ≡ 0b11 → get_or (timed m c) counter_at 0 ≡ 0
  unfolding timed
  timer-clears e = rw e (lingered-counter (counter_set m 0) (data_of c) ∙ set_to 0)

-- Two counters with the same low bits: lingering goes on alike, a number is as far behind, and so a Linger to it waits alike and leaves the same but for the counter.
module _ (m : List ℕ) (r : Reaches m) (n k : ℕ) (e : n % 2 ^ linger_bits ≡ k % 2 ^ linger_bits) where
  inside : counter_at < length m
  inside = omega (arith, r.all)

  still-low : still_lingering (set m counter_at n) ≡ still_lingering (set m counter_at k)
  unfolding still_lingering
  still-low =
      rw (
        get_or-set_other m counter_at lingering_at n 0 (eqb-false lingering_at counter_at refl),
        get_or-set_other m counter_at lingering_at k 0 (eqb-false lingering_at counter_at refl),
        get_or-set_other m counter_at linger_pass_at n 0 (eqb-false linger_pass_at counter_at refl),
        get_or-set_other m counter_at linger_pass_at k 0 (eqb-false linger_pass_at counter_at refl),
        get_or-set_same m counter_at n 0 inside,
        get_or-set_same m counter_at k 0 inside,
        e,
      )

  behind-low : (number : ℕ) → behind (set m counter_at n) number ≡ behind (set m counter_at k) number
  unfolding behind
  behind-low number = rw (get_or-set_same m counter_at n 0 inside, get_or-set_same m counter_at k 0 inside, e)

  waits-low : (number : ℕ) → waits_for (set m counter_at n) number ≡ waits_for (set m counter_at k) number
  unfolding waits_for
  waits-low number = rw (behind-low number)

  -- All words but the counter's are the same after a Linger.
  lingered-low : (number i : ℕ) → i ≢ counter_at → get_or (lingered (set m counter_at n) number) i 0 ≡ get_or (lingered (set m counter_at k) number) i 0
  unfolding lingered
  lingered-low number i d = rw (waits-low number, behind-low number) (go (waits_for (set m counter_at k) number) (eqb (behind (set m counter_at k) number) 0))
    where
      -- What the counter is doesn't tell in another word, also after words are put in other places.
      off : (l : List ℕ) (v : ℕ) → get_or (set l counter_at v) i 0 ≡ get_or l i 0
      off l v = get_or-set_other l counter_at i v 0 d

      waiting : (v : ℕ) → get_or (set (set (set m counter_at v) lingering_at 1) linger_pass_at number) i 0 ≡ get_or (set (set m lingering_at 1) linger_pass_at number) i 0
      waiting v =
          ap (λ (l : List ℕ). get_or (set l linger_pass_at number) i 0) (set_comm m counter_at lingering_at v 1 (eqb-false counter_at lingering_at refl))
          ∙ ap (λ (l : List ℕ). get_or l i 0) (set_comm (set m lingering_at 1) counter_at linger_pass_at v number (eqb-false counter_at linger_pass_at refl))
          ∙ off (set (set m lingering_at 1) linger_pass_at number) v

      overrun : (v : ℕ) → get_or (set (set m counter_at v) overrun_at 1) i 0 ≡ get_or (set m overrun_at 1) i 0
      overrun v = ap (λ (l : List ℕ). get_or l i 0) (set_comm m counter_at overrun_at v 1 (eqb-false counter_at overrun_at refl)) ∙ off (set m overrun_at 1) v

      go : (a b : Bool)
          → get_or (cond a (set (set (set m counter_at n) lingering_at 1) linger_pass_at number) (cond b (set m counter_at n) (set (set m counter_at n) overrun_at 1))) i 0
          ≡ get_or (cond a (set (set (set m counter_at k) lingering_at 1) linger_pass_at number) (cond b (set m counter_at k) (set (set m counter_at k) overrun_at 1))) i 0
      go true b = waiting n ∙ sym (waiting k)
      go false true = off m n ∙ sym (off m k)
      go false false = overrun n ∙ sym (overrun k)

  pub lingers-low : (still_lingering (set m counter_at n) ≡ still_lingering (set m counter_at k))
      × ((number : ℕ) → (waits_for (set m counter_at n) number ≡ waits_for (set m counter_at k) number)
      × ((i : ℕ) → i ≢ counter_at → get_or (lingered (set m counter_at n) number) i 0 ≡ get_or (lingered (set m counter_at k) number) i 0))
  lingers-low = (still-low, λ number. (waits-low number, lingered-low number))
