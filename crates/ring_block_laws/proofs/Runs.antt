-- Runs put together: frames put in a run of two parts, and how many frames such a run has room for.
-- Assumes nothing.
use mathlib.Core.Path.{◌≡◌, refl, sym, ap, ◌∙◌}
use mathlib.Core.Bool.{Bool, true, false, cond}
use mathlib.Core.List.{List, [], ◌∷◌, ◌++◌, append_assoc}
use Prim.Native.Nat.{ℕ, zero, suc, ◌+◌, ◌*◌, ◌/◌, ◌≤◌, ◌<◌}
use native.Mathlib.Nat.{zero-add, suc-mul, add-mul-div_right, le-div_iff_mul-le}
use native.Mathlib.Omega.{arith}
use borrow.Author.Tests.{le-leb, lt-leb, leb-true, leb-false}
use lib.Dec.{leb}
use lib.ListN.{length, set, length-append, length-set}
use lib.Seq.{sets, length-sets, set-append_left}
use Rattle.layout.specs.Machine.{Machine}
use Rattle.file_bytes.proofs.Puts.{sets-append}
use Rattle.ring_block.specs.Block.{dacs_of, frames_of, fitting}
use Rattle.ring_block.proofs.Frames.{dacs-length}

pub frames-append : (dacs : List ℕ) (ms ns : List Machine) → frames_of dacs (ms ++ ns) ≡ frames_of dacs ms ++ frames_of dacs ns
unfolding frames_of
frames-append dacs [] ns = refl
frames-append dacs (m ∷ ms) ns = ap (λ (l : List ℕ). dacs_of dacs m ++ l) (frames-append dacs ms ns) ∙ sym (append_assoc (dacs_of dacs m) (frames_of dacs ms) (frames_of dacs ns))

pub frames-length : (dacs : List ℕ) (ms : List Machine) → length (frames_of dacs ms) ≡ length ms * length dacs
unfolding frames_of
frames-length dacs [] = omega arith
frames-length dacs (m ∷ ms) =
    omega (arith, length-append (dacs_of dacs m) (frames_of dacs ms), dacs-length dacs m, frames-length dacs ms, suc-mul (length ms) (length dacs))

-- In the first part alone.
pub sets_first : (xs f r : List ℕ) (i : ℕ) → i + length xs ≤ length f → sets (f ++ r) i xs ≡ sets f i xs ++ r
sets_first [] f r i h = refl
sets_first (x ∷ xs) f r i h =
    ap (λ (l : List ℕ). sets l (suc i) xs) (set-append_left f r i x (omega arith)) ∙ sets_first xs (set f i x) r (suc i) (omega (arith, length-set f i x))

-- In the second part alone.
set-second : (f r : List ℕ) (j x : ℕ) → set (f ++ r) (length f + j) x ≡ f ++ set r j x
set-second [] r j x = ap (λ (i : ℕ). set r i x) (zero-add j)
set-second (y ∷ f) r j x = let e : length (y ∷ f) + j ≡ suc (length f + j) = omega arith in ap (λ (i : ℕ). set (y ∷ f ++ r) i x) e ∙ ap (λ (l : List ℕ). y ∷ l) (set-second f r j x)

sets-second : (ys f r : List ℕ) (j : ℕ) → sets (f ++ r) (length f + j) ys ≡ f ++ sets r j ys
sets-second [] f r j = refl
sets-second (y ∷ ys) f r j =
    let e : suc (length f + j) ≡ length f + suc j = omega arith in
    ap (λ (l : List ℕ). sets l (suc (length f + j)) ys) (set-second f r j y) ∙ ap (λ (i : ℕ). sets (f ++ set r j y) i ys) e ∙ sets-second ys f (set r j y) (suc j)

-- The first part whole, and then in the second.
pub sets-both : (xs ys f r : List ℕ) → length xs ≡ length f → sets (f ++ r) 0 (xs ++ ys) ≡ sets f 0 xs ++ sets r 0 ys
sets-both xs ys f r e =
    let first = sets f 0 xs in
    let place : 0 + length xs ≡ length first + 0 = omega (arith, e, length-sets f 0 xs) in
    sym (sets-append (f ++ r) 0 xs ys)
    ∙ ap (λ (l : List ℕ). sets l (0 + length xs) ys) (sets_first xs f r 0 (omega (arith, e)))
    ∙ ap (λ (i : ℕ). sets (first ++ r) i ys) place
    ∙ sets-second ys first r 0

-- Room for exactly so many, for at least so many, and for more behind it.
pub fit-enough : (w room a : ℕ) → a * w ≤ room → fitting w room a ≡ a
unfolding fitting
fit-enough zero room a h = refl
fit-enough (suc w) room a h = let z : zero < suc w = omega arith in let k : a ≤ room / suc w = (le-div_iff_mul-le z).1 h in rw (le-leb a (room / suc w) k)

pub fit-more : (w room more a b : ℕ) → a * w ≡ room → fitting w (room + more) (a + b) ≡ a + fitting w more b
unfolding fitting
fit-more zero room more a b e = refl
fit-more (suc w) room more a b e = go (leb b (more / suc w)) refl
  where
    z : zero < suc w
    z = omega arith

    sum : room + more ≡ more + a * suc w
    sum = omega (arith, e)

    quotient : (room + more) / suc w ≡ a + more / suc w
    quotient = ap (λ (x : ℕ). x / suc w) sum ∙ add-mul-div_right more a z ∙ omega arith

    go : (c : Bool) → leb b (more / suc w) ≡ c → cond (leb (a + b) ((room + more) / suc w)) (a + b) ((room + more) / suc w) ≡ a + cond c b (more / suc w)
    go true q = let h : a + b ≤ a + more / suc w = omega (arith, leb-true b (more / suc w) q) in rw (quotient, le-leb (a + b) (a + more / suc w) h)
    go false q = let h : a + more / suc w < a + b = omega (arith, leb-false b (more / suc w) q) in rw (quotient, lt-leb (a + b) (a + more / suc w) h)
