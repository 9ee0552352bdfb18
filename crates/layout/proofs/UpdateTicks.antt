-- The update ticks: the count is N-T-8 where that is a number, and the word holds the count of T and N once it is worked out, since it is neither of them.
-- Assumes nothing.
use Rattle.std.proofs.Common.{◌≡◌, ℕ, ◌+◌, ◌≤◌, ◌≢◌, length, get_or, set, sym, refl, ◌∙◌, arith, length-set, get_or-set_other, get_or-set_same}
use borrow.Author.Tests.{eqb-false}
use Rattle.layout.specs.Layout.{t_at, n_at, update_ticks_at}
use Rattle.layout.specs.Machine.{Machine, Reaches, ticks_of, update_ticks, update_ticks_of, with_update_ticks}

-- T, the eight and the update ticks are N; where N has no more than T and the eight there are none.
pub ticks-exact : (t n : ℕ) → t + 8 ≤ n → update_ticks t n + (t + 8) ≡ n
ticks-exact t n h = omega arith

pub ticks-none : (t n : ℕ) → n ≤ t + 8 → update_ticks t n ≡ 0
ticks-none t n h = omega arith

-- The count where T or N is set.
module _ (m : Machine) (r : Reaches m) (v : ℕ) where
  pub ticks-by-t : update_ticks_of (set m t_at v) ≡ update_ticks v (get_or m n_at 0)
  ticks-by-t = rw (get_or-set_same m t_at v 0 (omega (arith, r.all)), get_or-set_other m t_at n_at v 0 (eqb-false n_at t_at refl))

  pub ticks-by-n : update_ticks_of (set m n_at v) ≡ update_ticks (ticks_of m) v
  ticks-by-n = rw (get_or-set_same m n_at v 0 (omega (arith, r.all)), get_or-set_other m n_at t_at v 0 (eqb-false t_at n_at refl))

-- A machine with its count: its length, its other words, and the count itself.
module _ (m : Machine) where
  pub counted-length : length (with_update_ticks m) ≡ length m
  unfolding with_update_ticks
  counted-length = length-set m update_ticks_at (update_ticks_of m)

  pub counted-other : (i : ℕ) → i ≢ update_ticks_at → get_or (with_update_ticks m) i 0 ≡ get_or m i 0
  unfolding with_update_ticks
  counted-other i n = get_or-set_other m update_ticks_at i (update_ticks_of m) 0 n

  counted_same : update_ticks_of (with_update_ticks m) ≡ update_ticks_of m
  counted_same = rw (counted-other t_at (eqb-false t_at update_ticks_at refl), counted-other n_at (eqb-false n_at update_ticks_at refl))

  pub counted-own : Reaches m → get_or (with_update_ticks m) update_ticks_at 0 ≡ update_ticks_of (with_update_ticks m)
  unfolding with_update_ticks
  counted-own r = get_or-set_same m update_ticks_at (update_ticks_of m) 0 (omega (arith, r.all)) ∙ sym counted_same
