-- A ring of four slots: it holds the last four entries of a list that grows, the entry at place i in slot i mod 4.
-- Assumes nothing.
use mathlib.Core.Path.{◌≡◌, refl, sym, ◌∙◌}
use mathlib.Core.Logic.{⊎_elim}
use mathlib.Core.List.{List, [], ◌∷◌, ◌++◌}
use Prim.Native.Nat.{ℕ, suc, ◌+◌, ◌%◌, ◌<◌}
use native.Mathlib.Omega.{arith}
use native.Mathlib.Nat.{add-zero, zero-add, mod-eq_of_lt, le_of_suc-le-suc, eq-or-lt_of_le}
use lib.ListN.{length, get_or, set, length-set, length-append, get_or-append}
use lib.Seq.{get_or-set_same, get_or-set_other, get_or_at}

-- The ring r holds what stands at the places n to n+3 of l, its last four. (d is what a read past the end gives.)
pub record Ring {A : Type 0} (d : A) (r l : List A) (n : ℕ) : Type 0 where
  pub four : length r ≡ 4
  pub all : length l ≡ n + 4
  pub slot : (i : ℕ) → i < 4 → get_or r ((n + i) % 4) d ≡ get_or l (n + i) d

module _ {A : Type 0} (d : A) where
  -- The oldest stands in slot n mod 4.
  pub oldest : (r l : List A) (n : ℕ) → Ring d r l n → get_or r (n % 4) d ≡ get_or l n d
  oldest r l n h = rw (add-zero n) at (h.slot 0 (omega arith))

  -- Another entry comes in where the oldest stood.
  module _ (r l : List A) (n : ℕ) (x : A) (h : Ring d r l n) where
    kept : (i : ℕ) → i < 3 → get_or (set r (n % 4) x) ((suc n + i) % 4) d ≡ get_or (l ++ (x ∷ [])) (suc n + i) d
    kept i b =
        let next : suc n + i ≡ n + suc i = omega arith in
        rw (get_or-set_other r (n % 4) ((suc n + i) % 4) x d (λ e. omega arith), get_or-append l (x ∷ []) d (suc n + i) (omega (arith, h.all)), next)
        (h.slot (suc i) (omega arith))

    newest : get_or (set r (n % 4) x) ((suc n + 3) % 4) d ≡ get_or (l ++ (x ∷ [])) (suc n + 3) d
    newest =
        let here : (suc n + 3) % 4 ≡ n % 4 = omega arith in
        rw (here, get_or-set_same r (n % 4) x d (omega (arith, h.four))) (sym (get_or_at l x [] d (suc n + 3) (omega (arith, h.all))))

    pub ring-on : Ring d (set r (n % 4) x) (l ++ (x ∷ [])) (suc n)
    ring-on = record {
      four = length-set r (n % 4) x ∙ h.four;
      all = omega (arith, length-append l (x ∷ []), h.all);
      slot = λ i b. ⊎_elim (λ e. rw e newest) (λ c. kept i c) (eq-or-lt_of_le (le_of_suc-le-suc b));
    }

  -- A ring as it begins.
  pub ring-start : (a b c e : A) → Ring d (a ∷ b ∷ c ∷ e ∷ []) (a ∷ b ∷ c ∷ e ∷ []) 0
  ring-start a b c e = record { four = refl; all = refl; slot = λ i h. rw (zero-add i, mod-eq_of_lt {n = i} {m = 4} h) refl }
