-- The registers of a modifier that a turn can change stand side by side: what writes them, and what it leaves.
-- Assumes nothing.
use mathlib.Core.Path.{◌≡◌, refl, sym, ◌∙◌}
use mathlib.Core.List.{List, [], ◌∷◌, ◌++◌}
use Prim.Native.Nat.{ℕ, zero, suc, ◌+◌, ◌*◌, ◌-◌, ◌≤◌, ◌<◌}
use native.Mathlib.Omega.{arith}
use native.Mathlib.Nat.{add-zero, suc-add, add-suc, not-suc-le-zero}
use lib.ListN.{length, get_or, set, take, drop}
use lib.Seq.{sets}
use Rattle.layout.specs.Layout.{modifier_at}
use Rattle.modifier.specs.declared.Modifier.{Modifier}
use Rattle.modifier.specs.Modifier.{stored}
use Rattle.pass_sums.proofs.Blocks.{get_d-outside, part-back}

-- M0, M1, L0 and L1.
unfoldable pub registers : Modifier → List ℕ
registers u = u.m0 ∷ u.m1 ∷ u.l0 ∷ u.l1 ∷ []

pub four : (u : Modifier) → length (registers u) ≡ 4
unfolding registers
four u = refl

pub put_is : (words : List ℕ) (m : ℕ) (u : Modifier) → stored words (modifier_at m) u ≡ sets words (2816 + 8 * m) (registers u)
unfolding stored registers
put_is words m u =
    let at = modifier_at m in
    let one : at + 1 ≡ suc at = omega arith in
    let two : at + 2 ≡ suc (suc at) = omega arith in
    let three : at + 3 ≡ suc (suc (suc at)) = omega arith in
    rw (one, two, three)

-- A part of the machine from a place on, written back as modifier m.
pub put_back : (words : List ℕ) (m : ℕ) (u : Modifier) → modifier_at m ≤ length words →
    take (modifier_at m) words ++ (stored (take (length words - modifier_at m) (drop (modifier_at m) words)) 0 u ++ drop (length words - modifier_at m) (drop (modifier_at m) words))
    ≡ stored words (modifier_at m) u
unfolding stored registers
put_back words m u h = part-back words (registers u) (modifier_at m) h ∙ sym (put_is words m u)

-- What is written from a place on is below a bound where the numbers written are.
set-low : (l : List ℕ) (i v b : ℕ) → v < b → get_or (set l i v) i 0 < b
set-low [] i v b h = omega arith
set-low (x ∷ l) zero v b h = h
set-low (x ∷ l) (suc i) v b h = set-low l i v b h

pub sets-low : (vs l : List ℕ) (i k b : ℕ) → k < length vs → get_or vs k 0 < b → get_or (sets l i vs) (i + k) 0 < b
sets-low [] l i k b h e = absurd (not-suc-le-zero h)
sets-low (v ∷ vs) l i zero b h e =
    rw (add-zero, get_d-outside vs (set l i v) (suc i) i 0 (record { out = λ k b e. omega arith })) (set-low l i v b e)
sets-low (v ∷ vs) l i (suc k) b h e = rw (add-suc, ← suc-add) (sets-low vs (set l i v) (suc i) k b (omega arith) e)
