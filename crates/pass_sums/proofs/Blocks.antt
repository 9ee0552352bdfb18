-- A block of a list that is written: what stands in it and beside it, and a block of a part that is lent as `&m[at..]` and given back.
-- Assumes nothing.
use mathlib.Core.Path.{◌≡◌, refl, sym, ap, ◌∙◌}
use mathlib.Core.Logic.{◌≢◌}
use mathlib.Core.List.{List, [], ◌∷◌, ◌++◌, append-nil}
use Prim.Native.Nat.{ℕ, zero, suc, ◌+◌, ◌-◌, ◌≤◌, ◌<◌}
use native.Mathlib.Omega.{arith}
use native.Mathlib.Nat.{zero-add, add-zero, suc-add, add-suc, not-suc-le-zero}
use lib.ListN.{length, get_or, set, take, drop, length-set, length-drop, take-append-drop, drop_of_length-le}
use lib.Seq.{sets, get_or-set_same, get_or-set_other, length-take-le}
use Rattle.base_lists.proofs.Parts.{part-from}

-- Place j is none of the n places from i on.
pub record Outside (j i n : ℕ) : Type 0 where
  pub out : (k : ℕ) → k < n → j ≢ i + k

next : {j i n : ℕ} → Outside j i (suc n) → Outside j (suc i) n
next {j} {i} {n} o = record { out = λ k h e. o.out (suc k) (omega arith) (omega arith) }

here : {j i n : ℕ} → Outside j i (suc n) → j ≢ i
here o e = o.out 0 (omega arith) (omega arith)

pub outside-before : (j i n : ℕ) → j < i → Outside j i n
outside-before j i n h = record { out = λ k l e. omega arith }

pub outside-after : (j i n : ℕ) → i + n ≤ j → Outside j i n
outside-after j i n h = record { out = λ k l e. omega arith }

module _ {A : Type 0} where
  -- Beside a block that is written, each place keeps what it has.
  pub get_d-outside : (vs l : List A) (i j : ℕ) (d : A) → Outside j i (length vs) → get_or (sets l i vs) j d ≡ get_or l j d
  get_d-outside [] l i j d o = refl
  get_d-outside (v ∷ vs) l i j d o = get_d-outside vs (set l i v) (suc i) j d (next o) ∙ get_or-set_other l i j v d (here o)

  -- In it stands what was written.
  pub get_d-inside : (vs l : List A) (i k : ℕ) (d : A) → i + length vs ≤ length l → k < length vs → get_or (sets l i vs) (i + k) d ≡ get_or vs k d
  get_d-inside [] l i k d h b = absurd (not-suc-le-zero b)
  get_d-inside (v ∷ vs) l i zero d h b =
      rw add-zero
      (get_d-outside vs (set l i v) (suc i) i d (outside-before i (suc i) (length vs) (omega arith)) ∙ get_or-set_same l i v d (omega arith))
  get_d-inside (v ∷ vs) l i (suc k) d h b =
      rw (add-suc, ← suc-add)
      (get_d-inside vs (set l i v) (suc i) k d (omega (arith, length-set l i v)) (omega arith))

  -- A block behind p is written in what stands behind p.
  pub set-behind : (p q : List A) (j : ℕ) (a : A) → set (p ++ q) (length p + j) a ≡ p ++ set q j a
  set-behind [] q j a = rw zero-add
  set-behind (x ∷ p) q j a = rw suc-add (ap (λ (l : List A). x ∷ l) (set-behind p q j a))

  pub sets_behind : (p q vs : List A) (j : ℕ) → sets (p ++ q) (length p + j) vs ≡ p ++ sets q j vs
  sets_behind p q [] j = refl
  sets_behind p q (v ∷ vs) j = rw (set-behind p q j v, ← add-suc) (sets_behind p (set q j v) vs (suc j))

  -- Behind the part from a place to the end, as it is lent, there is nothing.
  pub part-rest : (m : List A) (at : ℕ) → drop (length m - at) (drop at m) ≡ []
  part-rest m at = drop_of_length-le (drop at m) {i = length m - at} (omega (arith, length-drop at m))

  -- A block that was written at place j of such a part, which is given back, is written at place at + j.
  pub part-sets : (m vs : List A) (at j : ℕ) → at ≤ length m →
      take at m ++ (sets (take (length m - at) (drop at m)) j vs ++ drop (length m - at) (drop at m)) ≡ sets m (at + j) vs
  part-sets m vs at j h =
      rw (part-from m at, part-rest m at, append-nil)
      (sym (sets_behind (take at m) (drop at m) vs j) ∙ rw (length-take-le at m h, take-append-drop at m))

  -- At its start, and so at place at.
  pub part-back : (m vs : List A) (at : ℕ) → at ≤ length m →
      take at m ++ (sets (take (length m - at) (drop at m)) 0 vs ++ drop (length m - at) (drop at m)) ≡ sets m at vs
  part-back m vs at h = part-sets m vs at 0 h ∙ ap (λ (k : ℕ). sets m k vs) (add-zero at)
