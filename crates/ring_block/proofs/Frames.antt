-- Frames: how long they are, what stands in them, and how many there is room for.
-- Assumes nothing.
use mathlib.Core.Path.{◌≡◌, refl, sym, ap, ◌∙◌}
use mathlib.Core.Logic.{◌≢◌}
use mathlib.Core.Bool.{Bool, true, false, cond}
use mathlib.Core.List.{List, [], ◌∷◌, ◌++◌, append_assoc, append-nil}
use Prim.Native.Nat.{ℕ, zero, suc, ◌*◌, ◌-◌, ◌/◌, ◌%◌, ◌^◌, ◌≤◌, ◌<◌}
use native.Mathlib.Nat.{mul-zero, mul-le-mul_right, div-mul-le_self, le_trans}
use native.Mathlib.Omega.{arith}
use borrow.Author.Tests.{le-leb, lt-leb, leb-true}
use lib.Dec.{leb}
use lib.ListN.{length, get_or}
use Rattle.base_words.specs.Words.{extended}
use Rattle.layout.specs.Layout.{dac_at}
use Rattle.layout.specs.Machine.{Machine}
use Rattle.ring_block.specs.Block.{dacs_of, frames_of, fitting}

pub dacs-length : (ds : List ℕ) (m : Machine) → length (dacs_of ds m) ≡ length ds
unfolding dacs_of
dacs-length [] m = refl
dacs-length (d ∷ ds) m = ap suc (dacs-length ds m)

pub dac-at : (ds : List ℕ) (m : Machine) (i : ℕ) → i < length ds → get_or (dacs_of ds m) i 0 ≡ extended 20 32 (get_or m (dac_at (get_or ds i 0 % 2 ^ 4)) 0)
unfolding dacs_of
dac-at [] m i h = absurd (omega arith)
dac-at (d ∷ ds) m zero h = refl
dac-at (d ∷ ds) m (suc i) h = dac-at ds m i (omega arith)

-- The frames with one more after them.
pub frames-more : (dacs : List ℕ) (ms : List Machine) (m : Machine) → frames_of dacs (ms ++ m ∷ []) ≡ frames_of dacs ms ++ dacs_of dacs m
unfolding frames_of
frames-more dacs [] m = append-nil (dacs_of dacs m)
frames-more dacs (n ∷ ms) m = ap (λ (l : List ℕ). dacs_of dacs n ++ l) (frames-more dacs ms m) ∙ sym (append_assoc (dacs_of dacs n) (frames_of dacs ms) (dacs_of dacs m))

-- As the code asks how many there is room for.
module _ (width room passes : ℕ) where
  pub fit-without : width ≡ 0 → passes ≡ fitting width room passes
  unfolding fitting
  fit-without e = rw e

  module _ (some : width ≢ 0) where
    fit-by : fitting width room passes ≡ cond (leb passes (room / width)) passes (room / width)
    unfolding fitting
    fit-by = let e : width ≡ suc (width - 1) = omega arith in rw e

    pub fit_all : passes ≤ room / width → passes ≡ fitting width room passes
    fit_all h = rw (fit-by, le-leb passes (room / width) h)

    pub fit-some : room / width < passes → room / width ≡ fitting width room passes
    fit-some h = rw (fit-by, lt-leb passes (room / width) h)

-- There is.
pub fit-room : (width room passes : ℕ) → fitting width room passes * width ≤ room
unfolding fitting
fit-room zero room passes = rw (mul-zero passes) (omega arith)
fit-room (suc w) room passes = go (leb passes (room / suc w)) refl
  where
    go : (b : Bool) → leb passes (room / suc w) ≡ b → cond b passes (room / suc w) * suc w ≤ room
    go true e = le_trans (mul-le-mul_right (suc w) (leb-true passes (room / suc w) e)) (div-mul-le_self room (suc w))
    go false e = div-mul-le_self room (suc w)
