-- Numbers that pass a test: one where the count is not 0, two where it is more than 1, and the count that one or two of them make.
-- Assumes nothing.
use mathlib.Core.Path.{◌≡◌, refl, sym, ◌∙◌}
use mathlib.Core.Logic.{◌≢◌}
use mathlib.Core.Bool.{Bool, true, false, not, cond, true≢false}
use Prim.Native.Nat.{ℕ, zero, suc, ◌+◌, ◌≤◌, ◌<◌}
use native.Mathlib.Omega.{arith}
use borrow.Author.Tests.{eqb-true, eqb-false, ltb-true, ltb-false, lt-ltb}
use lib.Dec.{eqb, ltb}
use Rattle.base_lists.specs.Lists.{count_below}
use Rattle.base_sequences.specs.Sequences.{first_failing}
use Rattle.base_sequences.proofs.Failing.{failing-lowest, failing-nowhere}

-- A number below n that passes.
pub record Found (p : ℕ → Bool) (n : ℕ) : Type 0 where
  pub at : ℕ
  pub below : at < n
  pub passes : p at ≡ true

-- Two of them.
pub record FoundTwo (p : ℕ → Bool) (n : ℕ) : Type 0 where
  pub one : Found p n
  pub other : Found p n
  pub apart : one.at ≢ other.at

more : (p : ℕ → Bool) (n : ℕ) → Found p n → Found p (suc n)
more p n f = record { at = f.at; below = omega (arith, f.below); passes = f.passes }

-- One is found where the count is not 0.
pub found : (p : ℕ → Bool) (n : ℕ) → 1 ≤ count_below p n → Found p n
unfolding count_below
found p zero h = absurd (omega arith)
found p (suc n) h = go (p n) refl h (found p n)
  where
    go : (b : Bool) → p n ≡ b → 1 ≤ cond b 1 0 + count_below p n → (1 ≤ count_below p n → Found p n) → Found p (suc n)
    go true e l ih = record { at = n; below = omega arith; passes = e }
    go false e l ih = more p n (ih (omega arith))

-- Two are found where it is more than 1.
pub found-two : (p : ℕ → Bool) (n : ℕ) → 2 ≤ count_below p n → FoundTwo p n
unfolding count_below more
found-two p zero h = absurd (omega arith)
found-two p (suc n) h = go (p n) refl h (found-two p n)
  where
    go : (b : Bool) → p n ≡ b → 2 ≤ cond b 1 0 + count_below p n → (2 ≤ count_below p n → FoundTwo p n) → FoundTwo p (suc n)
    go true e l ih =
        let f = found p n (omega arith) in
        record { one = record { at = n; below = omega arith; passes = e }; other = more p n f; apart = λ q. omega (arith, f.below) }
    go false e l ih = let f = ih (omega arith) in record { one = more p n f.one; other = more p n f.other; apart = f.apart }

-- One that passes counts, and two that pass count twice.
pub counts-one : (p : ℕ → Bool) (n g : ℕ) → g < n → p g ≡ true → 1 ≤ count_below p n
unfolding count_below
counts-one p zero g h e = absurd (omega arith)
counts-one p (suc n) g h e = go (eqb g n) refl (counts-one p n g)
  where
    go : (b : Bool) → eqb g n ≡ b → (g < n → p g ≡ true → 1 ≤ count_below p n) → 1 ≤ cond (p n) 1 0 + count_below p n
    go true q ih = let r = eqb-true g n q in rw (← r, e) (omega arith)
    go false q ih = let r = eqb-false g n q in omega (arith, ih (omega (arith, r)) e)

pub counts-two : (p : ℕ → Bool) (n g h : ℕ) → g < h → h < n → p g ≡ true → p h ≡ true → 2 ≤ count_below p n
unfolding count_below
counts-two p zero g h l k a b = absurd (omega arith)
counts-two p (suc n) g h l k a b = go (eqb h n) refl (λ q. counts-two p n g h l q a b)
  where
    go : (c : Bool) → eqb h n ≡ c → (h < n → 2 ≤ count_below p n) → 2 ≤ cond (p n) 1 0 + count_below p n
    go true q ih = let r = eqb-true h n q in rw (← r, b) (omega (arith, counts-one p h g l a))
    go false q ih = let r = eqb-false h n q in omega (arith, ih (omega (arith, r)))

-- Where at most one passes, two that pass are one.
pub at_most_one : (p : ℕ → Bool) (n g h : ℕ) → count_below p n ≤ 1 → g < n → h < n → p g ≡ true → p h ≡ true → g ≡ h
at_most_one p n g h m l k a b = go (eqb g h) refl (ltb g h) refl
  where
    go : (c : Bool) → eqb g h ≡ c → (d : Bool) → ltb g h ≡ d → g ≡ h
    go true q d r = eqb-true g h q
    go false q true r = absurd (omega (arith, counts-two p n g h (ltb-true g h r) k a b))
    go false q false r = absurd (omega (arith, counts-two p n h g (after (eqb-false g h q) r) l b a))
      where
        after : g ≢ h → ltb g h ≡ false → h < g
        after x y = omega (arith, x, ltb-false g h y)

-- Whether some number below n passes, asked by the lowest one, which then passes.
pub lowest-passes : (p : ℕ → Bool) (n : ℕ) → ltb (first_failing (λ k. not (p k)) n) n ≡ true → p (first_failing (λ k. not (p k)) n) ≡ true
lowest-passes p n e = go (p f) ((failing-lowest (λ k. not (p k)) n).fails (ltb-true f n e))
  where
    f : ℕ
    f = first_failing (λ k. not (p k)) n

    go : (b : Bool) → not b ≡ false → b ≡ true
    go true q = refl
    go false q = absurd (true≢false q)

pub some-found : (p : ℕ → Bool) (n : ℕ) → ltb (first_failing (λ k. not (p k)) n) n ≡ true → Found p n
some-found p n e = record { at = first_failing (λ k. not (p k)) n; below = ltb-true _ n e; passes = lowest-passes p n e }

pub found_some : (p : ℕ → Bool) (n g : ℕ) → g < n → p g ≡ true → ltb (first_failing (λ k. not (p k)) n) n ≡ true
found_some p n g h e = go (eqb (first_failing (λ k. not (p k)) n) n) refl
  where
    f : ℕ
    f = first_failing (λ k. not (p k)) n

    go : (b : Bool) → eqb f n ≡ b → ltb f n ≡ true
    go true q = absurd (true≢false (sym (failing-nowhere (λ k. not (p k)) n (eqb-true f n q) g h) ∙ rw e))
    go false q = lt-ltb f n (omega (arith, eqb-false f n q, (failing-lowest (λ k. not (p k)) n).within))
