-- A Linger's number against the pass counter, a counter of any width up to 32 bits, a number of 20; TIMER and TICKS by their fields.
-- Assumes nothing.
use Rattle.std.proofs.Common.{◌≡◌, ℕ, ◌+◌, ◌-◌, ◌%◌, arith, ◌^◌, ◌<◌, ◌≤◌, Bool, true, false, ◌≢◌, List, get_or, set, pos, ◌-ℤ◌, neg_ℤ, sym, refl, ap, ◌∙◌, lit≤, eq-eqb, ne_eqb, le-leb}
use native.Mathlib.Nat.{mod-mod}
use borrow.Author.Tests.{lt-leb}
use Rattle.base_words.specs.Words.{low_bits}
use Rattle.base_words.proofs.Residues.{low-add, minus-code}
use Rattle.layout.specs.Layout.{t_at, n_at, counter_at, lingering_at, linger_pass_at, overrun_at, update_ticks_at}
use Rattle.layout.specs.Machine.{Reaches, update_ticks, with_update_ticks}
use Rattle.layout.proofs.UpdateTicks.{ticks-by-t, ticks-by-n}
use Rattle.layout.specs.Widths.{linger_bits}
use Rattle.command_fields.specs.Fields.{flag, data_of}
use Rattle.command_timer.specs.Timer.{behind, waits_for, lingered, counter_set, tt_of, timed, timer_waits, ticks_data, ticks_set}

-- How far k is behind n tells no more of n than its low bits.
low-distance : (w n k : ℕ) → low_bits w (pos n -ℤ pos k) ≡ low_bits w (pos (n % 2 ^ w) -ℤ pos k)
unfolding low_bits
low-distance w n k =
    low-add w (pos n) (neg_ℤ (pos k)) ∙ ap (λ (x : ℕ). (x + low_bits w (neg_ℤ (pos k))) % 2 ^ w) (sym (mod-mod n (2 ^ w)))
    ∙ sym (low-add w (pos (n % 2 ^ w)) (neg_ℤ (pos k)))

-- The difference's code: a wrapping subtraction at 32 bits, r, and a remainder.
behind-code : (m : List ℕ) (n r : ℕ) → (r + n) % 2 ^ 32 ≡ get_or m counter_at 0 → r % 2 ^ 20 ≡ behind m n
unfolding behind
behind-code m n r e = minus-code linger_bits (get_or m counter_at 0) n r (lit≤ tt) e ∙ low-distance linger_bits (get_or m counter_at 0) n

pub behind-wrapped : (m : List ℕ) (n : ℕ) → get_or m counter_at 0 < 2 ^ 32 → n < 2 ^ 32 → (get_or m counter_at 0 + (2 ^ 32 - n)) % 2 ^ 32 % 2 ^ 20 ≡ behind m n
behind-wrapped m n h k = behind-code m n _ (omega arith)

module _ (m : List ℕ) (n : ℕ) {b : ℕ} (e : b ≡ behind m n) where
  -- More than 4,096 passes behind, which is ahead: it waits.
  pub linger-waits : 4096 < b → (true ≡ waits_for m n) × (set (set m lingering_at 1) linger_pass_at n ≡ lingered m n)
  unfolding waits_for lingered
  linger-waits h = rw (← e, lt-leb b 4096 h) (refl, refl)

  -- 1 to 4,096 passes behind: overrun.
  pub linger-late : b ≤ 4096 → b ≢ 0 → (false ≡ waits_for m n) × (set m overrun_at 1 ≡ lingered m n)
  unfolding waits_for lingered
  linger-late h k = rw (← e, le-leb b 4096 h, ne_eqb b 0 k) (refl, refl)

  -- At the counter: nothing.
  pub linger-now : b ≤ 4096 → b ≡ 0 → (false ≡ waits_for m n) × (m ≡ lingered m n)
  unfolding waits_for lingered
  linger-now h k = rw (← e, le-leb b 4096 h, eq-eqb b 0 k) (refl, refl)

-- TIMER by TT, with the data and TT as the code found them.
module _ (m : List ℕ) (c : ℕ) {number tt : ℕ} (en : number ≡ data_of c) (et : tt ≡ tt_of c) where
  pub timer-sets : {l : List ℕ} → tt ≡ 0b01 → l ≡ set m counter_at number → (false ≡ timer_waits m c) × (l ≡ timed m c)
  unfolding timer_waits timed counter_set
  timer-sets e q = rw (q, ← et, e, en) (refl, refl)

  pub timer-lingers : {r : Bool} {l : List ℕ} → tt ≡ 0b10 → (r ≡ waits_for m number) × (l ≡ lingered m number) → (r ≡ timer_waits m c) × (l ≡ timed m c)
  unfolding timer_waits timed
  timer-lingers e q = rw (← et, e, ← en) q

  pub timer-clears : {cleared : List ℕ} {r : Bool} {l : List ℕ} → tt ≡ 0b11 → cleared ≡ set m counter_at 0
      → (r ≡ waits_for cleared number) × (l ≡ lingered cleared number) → (r ≡ timer_waits m c) × (l ≡ timed m c)
  unfolding timer_waits timed counter_set
  timer-clears e z q = rw (← et, e, ← en, ← z) q

  pub timer-idle : tt ≢ 0b01 → tt ≢ 0b10 → tt ≢ 0b11 → (false ≡ timer_waits m c) × (m ≡ timed m c)
  unfolding timer_waits timed
  timer-idle e f g = rw (← et, ne_eqb tt 0b01 e, ne_eqb tt 0b10 f, ne_eqb tt 0b11 g) (refl, refl)

-- TICKS by Q, likewise, with the update ticks of the T and N that it leaves.
module _ (m : List ℕ) (r : Reaches m) (c : ℕ) {number : ℕ} {q : Bool} (en : number ≡ ticks_data c) (eq : q ≡ flag 32 c) {ticks : ℕ} where
  pub ticks-n : q ≡ true → ticks ≡ update_ticks (get_or m t_at 0) (number + 2) → set (set m n_at (number + 2)) update_ticks_at ticks ≡ ticks_set m c
  unfolding ticks_set with_update_ticks
  ticks-n e et = rw (← eq, e, ← en, et, ticks-by-n m r (number + 2))

  pub ticks-t : q ≡ false → ticks ≡ update_ticks (number + 1) (get_or m n_at 0) → set (set m t_at (number + 1)) update_ticks_at ticks ≡ ticks_set m c
  unfolding ticks_set with_update_ticks
  ticks-t e et = rw (← eq, e, ← en, et, ticks-by-t m r (number + 1))
