-- What one byte more does to a text's start and to the search for a byte.
-- Assumes nothing.
use mathlib.Core.Path.{◌≡◌, refl, ap, ◌∙◌}
use mathlib.Core.List.{List, [], ◌∷◌}
use mathlib.Core.Bool.{Bool, true, ◌&&◌}
use Prim.Native.Nat.{ℕ, zero, suc, ◌+◌, ◌-◌, ◌≤◌, ◌<◌}
use borrow.Author.Tests.{eq-eqb, ne_eqb}
use native.Mathlib.Omega.{arith}
use native.Mathlib.Numerals.{add-one}
use lib.Dec.{eqb}
use lib.ListN.{length, get_or, take, drop, length-drop, drop_of_length-le}
use lib.Seq.{drop-cons, get_or-drop, take_all}
use Rattle.base_lists.proofs.Below.{and_second}
use Rattle.file_bytes.specs.Bytes.{starts_with, bytes_before}
use Rattle.base_lists.proofs.Choices.{of-cond}
use Rattle.std.specs.List as list

-- What is left of a text is its next byte and what is left then.
pub next : (bytes : List ℕ) (i : ℕ) → i < length bytes → drop i bytes ≡ get_or bytes i 0 ∷ drop (i + 1) bytes
next bytes i h = rw (add-one, drop-cons bytes i 0)

-- The search for a byte: none is left, it stands next, or another does.
module _ (bytes : List ℕ) (i x : ℕ) where
  pub before-none : length bytes ≤ i → bytes_before x (drop i bytes) ≡ 0
  unfolding bytes_before
  before-none h = rw (drop_of_length-le bytes h)

  module _ (h : i < length bytes) where
    pub before-hit : get_or bytes i 0 ≡ x → bytes_before x (drop i bytes) ≡ 0
    unfolding bytes_before
    before-hit e = rw (next bytes i h, eq-eqb (get_or bytes i 0) x e)

    pub before-miss : (get_or bytes i 0 ≡ x → ⊥) → bytes_before x (drop i bytes) ≡ bytes_before x (drop (i + 1) bytes) + 1
    unfolding bytes_before
    before-miss e = rw (next bytes i h, ne_eqb (get_or bytes i 0) x e) (omega arith)

-- An x at j bounds where the first x stands.
before_at : (x : ℕ) (bytes : List ℕ) (j : ℕ) → j < length bytes → get_or bytes j 0 ≡ x → bytes_before x bytes ≤ j
unfolding bytes_before
before_at x [] j h e = omega arith
before_at x (b ∷ bytes) zero h e = rw (eq-eqb b x e) (omega arith)
before_at x (b ∷ bytes) (suc j) h e =
    of-cond (λ k. k ≤ suc j) (eqb b x) {x = 0} {y = suc (bytes_before x bytes)} (omega arith) (let g = before_at x bytes j (omega arith) e in omega arith)

-- From any place of a text that ends in x there is an x.
pub before-within : (x : ℕ) (bytes : List ℕ) (i : ℕ) → i < length bytes → get_or bytes (length bytes - 1) 0 ≡ x → bytes_before x (drop i bytes) < length bytes - i
before-within x bytes i h e =
    let j : i + (length bytes - 1 - i) ≡ length bytes - 1 = omega arith in
    let g : get_or (drop i bytes) (length bytes - 1 - i) 0 ≡ x = get_or-drop i bytes (length bytes - 1 - i) 0 ∙ ap (λ (k : ℕ). get_or bytes k 0) j ∙ e in
    let w = before_at x (drop i bytes) (length bytes - 1 - i) (rw length-drop (omega arith)) g in
    omega arith

-- A text that starts with another is at least as long.
pub starts-long : (bytes start : List ℕ) → starts_with bytes start ≡ true → length start ≤ length bytes
unfolding starts_with
starts-long bytes [] e = omega arith
starts-long [] (p ∷ start) e = let z : ◌≡◌ {A = ℕ} 0 1 = cc in omega arith
starts-long (b ∷ bytes) (p ∷ start) e =
    let h = starts-long bytes start (and_second (eqb b p) (starts_with bytes start) e) in
    omega arith

pub rest_of : (bytes : List ℕ) (n : ℕ) → take (length bytes - n) (drop n bytes) ≡ drop n bytes
rest_of bytes n = take_all (length bytes - n) (drop n bytes) (omega (arith, length-drop n bytes))

-- The library's test is the definition.
pub begun : (bytes start : List ℕ) → list.starts_with eqb bytes start ≡ starts_with bytes start
unfolding starts_with
begun [] [] = refl
begun (b ∷ bytes) [] = refl
begun [] (p ∷ start) = refl
begun (b ∷ bytes) (p ∷ start) = ap (λ (t : Bool). eqb p b && t) (begun bytes start) ∙ ap (λ (t : Bool). t && starts_with bytes start) (either p b)
  where
    either : (x y : ℕ) → eqb x y ≡ eqb y x
    either x y = grind arith
