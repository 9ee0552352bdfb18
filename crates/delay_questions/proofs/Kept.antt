-- Questions 11 and 12 ask of T, of the modifiers' MRM and MMODE, and of the units' X, Z, P and Y alone: what keeps them answered yes.
-- Assumes nothing.
use mathlib.Core.Path.{◌≡◌, refl}
use mathlib.Core.Bool.{Bool, true, false, cond, ◌&&◌}
use Prim.Native.Nat.{ℕ, ◌+◌, ◌/◌, ◌≤◌, ◌<◌}
use native.Mathlib.Omega.{arith}
use borrow.Author.Tests.{leb-true, le-leb}
use lib.Dec.{eqb, leb, ltb}
use lib.ListN.{get_or}
use Rattle.base_lists.specs.Lists.{all_below}
use Rattle.base_lists.proofs.Below.{and_first, and_second, and_both, below_at, below-from, below-same}
use Rattle.layout.specs.Layout.{modifier_at, MMODE, memory_words}
use Rattle.layout.specs.Machine.{Machine, mrm_at, ticks_of}
use Rattle.delay.specs.declared.Delay.{Delay}
use Rattle.layout_codes.specs.BuiltCodes.{line}
use Rattle.delay.specs.Delay.{runs}
use Rattle.delay_questions.specs.Questions.{invokes, named_by, delay_of, fits, good_line, lines_good, apart, named_once}

-- Two machines with the same T, and the same MRM and MMODE in every modifier that a pass takes.
pub record SameModifiers (m n : Machine) : Type 0 where
  pub ticks : ticks_of n ≡ ticks_of m
  pub mrm : (k : ℕ) → k < ticks_of m / 2 → mrm_at n k ≡ mrm_at m k
  pub mmode : (k : ℕ) → k < ticks_of m / 2 → get_or n (modifier_at k + MMODE) 0 ≡ get_or m (modifier_at k + MMODE) 0

-- Whether a unit runs is told by T, its number and P.
pub runs-by-mode : (t u : ℕ) (d e : Delay) → e.p ≡ d.p → runs t u e ≡ runs t u d
unfolding runs
runs-by-mode t u d e p = rw p

-- A line still fits where X and Z are the same, and Y is still at most Z.
pub fits_kept : (d e : Delay) → e.x ≡ d.x → e.z ≡ d.z → (d.y ≤ d.z → e.y ≤ d.z) → fits d ≡ true → fits e ≡ true
fits_kept d e x z y h =
    rw (x, z)
    (and_both (ltb (d.x + d.z) memory_words) (leb e.y d.z)
    (and_first (ltb (d.x + d.z) memory_words) (leb d.y d.z) h)
    (le-leb e.y d.z (y (leb-true d.y d.z (and_second (ltb (d.x + d.z) memory_words) (leb d.y d.z) h)))))

module _ (m n : Machine) (s : SameModifiers m n) where
  -- Question 12 is answered alike.
  pub named-once-same : named_once n ≡ named_once m
  unfolding named_once apart
  named-once-same =
      rw s.ticks
      (below-same (λ k. all_below (λ j. apart n j k) k) (λ k. all_below (λ j. apart m j k) k) (ticks_of m / 2)
      (λ k h. below-same (λ j. apart n j k) (λ j. apart m j k) k (λ j l. alike j k (omega arith) h)))
    where
      alike : (j k : ℕ) → j < ticks_of m / 2 → k < ticks_of m / 2 → apart n j k ≡ apart m j k
      alike j k hj hk = rw (s.mmode j hj, s.mmode k hk, s.mrm j hj, s.mrm k hk)

  -- And question 11 of a modifier, where the unit that it names has the same P and fits alike.
  pub good-line-same : (k : ℕ) → k < ticks_of m / 2 → (delay_of n (named_by m k)).p ≡ (delay_of m (named_by m k)).p
      → fits (delay_of n (named_by m k)) ≡ fits (delay_of m (named_by m k)) → good_line n k ≡ good_line m k
  unfolding good_line
  good-line-same k h p f =
      rw (s.mmode k h, s.mrm k h, s.ticks, runs-by-mode (ticks_of m) (named_by m k) (delay_of m (named_by m k)) (delay_of n (named_by m k)) p, p, f)

  -- A line that was good is good where its unit still fits.
  pub good-line-kept : (k : ℕ) → k < ticks_of m / 2 → (delay_of n (named_by m k)).p ≡ (delay_of m (named_by m k)).p
      → (fits (delay_of m (named_by m k)) ≡ true → fits (delay_of n (named_by m k)) ≡ true) → good_line m k ≡ true → good_line n k ≡ true
  unfolding good_line
  good-line-kept k h p f e =
      let u = named_by m k in
      rw (s.mmode k h, s.mrm k h, s.ticks, runs-by-mode (ticks_of m) u (delay_of m u) (delay_of n u) p, p)
      (still (invokes m k && (eqb (delay_of m u).p line && runs (ticks_of m) u (delay_of m u))) f e)
    where
      still : (b : Bool) {x y : Bool} → (x ≡ true → y ≡ true) → cond b x true ≡ true → cond b y true ≡ true
      still true g q = g q
      still false g q = refl

  -- Question 11 stays answered yes where every unit keeps its P and still fits.
  pub lines-good-kept : ((u : ℕ) → u < 32 → (delay_of n u).p ≡ (delay_of m u).p) → ((u : ℕ) → u < 32 → fits (delay_of m u) ≡ true → fits (delay_of n u) ≡ true)
      → lines_good m ≡ true → lines_good n ≡ true
  unfolding lines_good
  lines-good-kept p f e =
      rw s.ticks
      (below-from (good_line n) (ticks_of m / 2)
      (λ k h. good-line-kept k h (p (named_by m k) (omega arith)) (f (named_by m k) (omega arith)) (below_at (good_line m) (ticks_of m / 2) e k h)))
