-- Question 11: one modifier's line, case by case.
-- Assumes nothing.
use mathlib.Core.Path.{◌≡◌, sym, ◌∙◌}
use mathlib.Core.Bool.{Bool, true, false, and-false}
use mathlib.Core.Logic.{◌≢◌}
use Prim.Native.Nat.{ℕ}
use borrow.Author.Tests.{eq-eqb, ne_eqb}
use Rattle.layout.specs.Machine.{Machine, ticks_of}
use Rattle.delay.specs.declared.Delay.{Delay}
use Rattle.layout_codes.specs.BuiltCodes.{line}
use Rattle.delay.specs.Delay.{runs}
use Rattle.delay_questions.specs.Questions.{invokes, named_by, delay_of, fits, good_line}

module _ (m : Machine) (k : ℕ) where
  pub none-invoked : invokes m k ≡ false → good_line m k ≡ true
  unfolding good_line
  none-invoked e = rw e

  pub no_line : (delay_of m (named_by m k)).p ≢ line → good_line m k ≡ true
  unfolding good_line
  no_line n = rw (ne_eqb (delay_of m (named_by m k)).p line n, and-false)

  pub acts-inactive : runs (ticks_of m) (named_by m k) (delay_of m (named_by m k)) ≡ false → good_line m k ≡ true
  unfolding good_line
  acts-inactive e = simp (e, and-false)

  pub line-runs : invokes m k ≡ true → (delay_of m (named_by m k)).p ≡ line → runs (ticks_of m) (named_by m k) (delay_of m (named_by m k)) ≡ true
      → good_line m k ≡ fits (delay_of m (named_by m k))
  unfolding good_line
  line-runs e l r = rw (e, eq-eqb (delay_of m (named_by m k)).p line l, r)

  -- The unit as the code comes to it: by its number, and by T.
  pub unit-is : {u : ℕ} {d : Delay} → u ≡ named_by m k → d ≡ delay_of m u → d ≡ delay_of m (named_by m k)
  unit-is e f = rw (← e) f

  pub runs-is : {t u : ℕ} {d : Delay} {r : Bool} → t ≡ ticks_of m → u ≡ named_by m k → d ≡ delay_of m (named_by m k) → r ≡ runs t u d
      → runs (ticks_of m) (named_by m k) (delay_of m (named_by m k)) ≡ r
  runs-is et eu ed e = sym (e ∙ rw (ed, et, eu))
