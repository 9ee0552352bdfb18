-- The order by number with two generators at its end: it is an order, and what stands last in it, before what and at which place.
-- Assumes nothing.
use mathlib.Core.Path.{◌≡◌, refl, sym, ap, ◌∙◌}
use mathlib.Core.Logic.{◌≢◌}
use mathlib.Core.Bool.{Bool, true, false, not, cond, ◌||◌}
use mathlib.Core.List.{List, [], ◌∷◌, ◌++◌}
use Prim.Native.Nat.{ℕ, suc, ◌+◌, ◌≤◌, ◌<◌}
use native.Mathlib.Omega.{arith}
use borrow.Author.Tests.{eqb-true, eqb-false, eq-eqb, ltb-true, ltb-false}
use lib.Dec.{eqb, ltb}
use lib.ListN.{length, get_or}
use Rattle.base_lists.specs.Lists.{count}
use Rattle.base_lists.proofs.Counts.{count-first, count_next}
use Rattle.pass_order.specs.Order.{IsOrder}
use Rattle.base_sequences.specs.Sequences.{by_number, keep, some, last_of, place_of, before}
use Rattle.base_sequences.proofs.ByNumber.{by-number-once, by-number-none}
use Rattle.base_sequences.proofs.Entries.{count-append, count-entry, keep_append, keep-count, keep_same, last-cut}
use Rattle.base_sequences.proofs.Places.{place-past, place-first, place-next, before-from, not-before-from}
use Rattle.base_sequences.proofs.Orders.{order-length}
use Rattle.any_order_model.specs.Parting.{ending_with}

-- The numbers below t but g and h.
abbrev pub others : ℕ → ℕ → ℕ → List ℕ
others t g h = keep (λ k. not (eqb k g || eqb k h)) (by_number t)

-- The same where g and h are exchanged.
pub others_same : (t g h : ℕ) → others t g h ≡ others t h g
others_same t g h = keep_same _ _ (by_number t) (λ i l. go (eqb (get_or (by_number t) i 0) g) (eqb (get_or (by_number t) i 0) h))
  where
    go : (a b : Bool) → not (a || b) ≡ not (b || a)
    go true true = refl
    go true false = refl
    go false true = refl
    go false false = refl

module _ (t g h : ℕ) (lg : g < t) (lh : h < t) (apart : g ≢ h) where
  -- Neither is among the others.
  no-first : count g (others t g h) ≡ 0
  no-first = keep-count (λ k. not (eqb k g || eqb k h)) g (by_number t) ∙ rw (eq-eqb g g refl)

  no_second : count h (others t g h) ≡ 0
  no_second = keep-count (λ k. not (eqb k g || eqb k h)) h (by_number t) ∙ go (eqb h g)
    where
      go : (a : Bool) → cond (not (a || eqb h h)) (count h (by_number t)) 0 ≡ 0
      go true = refl
      go false = rw (eq-eqb h h refl)

  ending : ending_with t g h ≡ others t g h ++ (g ∷ h ∷ [])
  unfolding ending_with
  ending = refl

  -- How often a number is there.
  counted : (k : ℕ) → count k (ending_with t g h) ≡ count k (others t g h) + count k (g ∷ h ∷ [])
  counted k = ap (count k) ending ∙ count-append k (others t g h) (g ∷ h ∷ [])

  once : (k : ℕ) → k < t → count k (ending_with t g h) ≡ 1
  unfolding count
  once k l = counted k ∙ go (eqb k g) refl (eqb k h) refl
    where
      go : (a : Bool) → eqb k g ≡ a → (b : Bool) → eqb k h ≡ b → count k (others t g h) + count k (g ∷ h ∷ []) ≡ 1
      go true p b q =
          let e = eqb-true k g p in
          rw e (omega (arith, no-first, count-first g (h ∷ []), count_next g h [] (λ x. apart (sym x))))
      go false p true q =
          let e = eqb-true k h q in
          rw e (omega (arith, no_second, count_next h g (h ∷ []) apart, count-first h []))
      go false p false q =
          let n = keep-count (λ j. not (eqb j g || eqb j h)) k (by_number t) in
          let m : count k (others t g h) ≡ 1 = rw (p, q) at n ∙ by-number-once t k l in
          omega (arith, m, count_next k g (h ∷ []) (λ x. eqb-false k g p (sym x)), count_next k h [] (λ x. eqb-false k h q (sym x)))

  none : (k : ℕ) → t ≤ k → count k (ending_with t g h) ≡ 0
  unfolding count
  none k l =
      counted k
      ∙ omega (arith, past (not (eqb k g || eqb k h)) (keep-count (λ j. not (eqb j g || eqb j h)) k (by_number t)), count_next k g (h ∷ []) (λ x. omega arith), count_next k h [] (λ x. omega arith))
    where
      past : (b : Bool) → count k (others t g h) ≡ cond b (count k (by_number t)) 0 → count k (others t g h) ≡ 0
      past true e = e ∙ by-number-none t k l
      past false e = e

  below : (i : ℕ) → i < length (ending_with t g h) → get_or (ending_with t g h) i 0 < t
  below i l = go (ltb x t) refl
    where
      x : ℕ
      x = get_or (ending_with t g h) i 0

      go : (b : Bool) → ltb x t ≡ b → x < t
      go true e = ltb-true x t e
      go false e = absurd (omega (arith, count-entry (ending_with t g h) i l, none x (omega (arith, ltb-false x t e))))

  -- It is an order.
  pub ending_order : IsOrder t (ending_with t g h)
  ending_order = record { entries = order-length t (ending_with t g h) once below; once = once; below = below }

  -- Where the two stand.
  place-one : place_of g (ending_with t g h) ≡ length (others t g h)
  place-one = ap (place_of g) ending ∙ omega (arith, place-past g (others t g h) (g ∷ h ∷ []) no-first, place-first g (h ∷ []))

  place-two : place_of h (ending_with t g h) ≡ suc (length (others t g h))
  place-two = ap (place_of h) ending ∙ omega (arith, place-past h (others t g h) (g ∷ h ∷ []) no_second, place-next h g (h ∷ []) apart, place-first h [])

  pub first-before : before g h (ending_with t g h) ≡ true
  first-before = before-from g h (ending_with t g h) (omega (arith, place-one, place-two))

  pub second-after : before h g (ending_with t g h) ≡ false
  second-after = not-before-from h g (ending_with t g h) (omega (arith, place-one, place-two))

  -- The last one that passes a test.
  pub last-second : (p : ℕ → Bool) → p h ≡ true → last_of p (ending_with t g h) ≡ h
  unfolding some
  last-second p e = ap (last_of p) (ending ∙ seam (others t g h)) ∙ last-cut p (others t g h ++ (g ∷ [])) h [] e refl
    where
      seam : (xs : List ℕ) → xs ++ (g ∷ h ∷ []) ≡ (xs ++ (g ∷ [])) ++ (h ∷ [])
      seam [] = refl
      seam (x ∷ xs) = ap (λ (l : List ℕ). x ∷ l) (seam xs)

  pub last-first : (p : ℕ → Bool) → p g ≡ true → p h ≡ false → last_of p (ending_with t g h) ≡ g
  unfolding some
  last-first p e n = ap (last_of p) ending ∙ last-cut p (others t g h) g (h ∷ []) e (rw n)

  -- Where both pass a test, they stand at the end of those that pass.
  pub kept-ending : (p : ℕ → Bool) → p g ≡ true → p h ≡ true → keep p (ending_with t g h) ≡ keep p (others t g h) ++ (g ∷ h ∷ [])
  unfolding keep
  kept-ending p a b = ap (keep p) ending ∙ keep_append p (others t g h) (g ∷ h ∷ []) ∙ rw (a, b)

  pub kept-places : (p : ℕ → Bool) → p g ≡ true → p h ≡ true
      → (place_of g (keep p (ending_with t g h)) ≡ length (keep p (others t g h))) × (place_of h (keep p (ending_with t g h)) ≡ suc (length (keep p (others t g h))))
  kept-places p a b = (
    ap (place_of g) (kept-ending p a b) ∙ omega (arith, place-past g kept (g ∷ h ∷ []) gone-first, place-first g (h ∷ [])),
    ap (place_of h) (kept-ending p a b)
        ∙ omega (arith, place-past h kept (g ∷ h ∷ []) gone-second, place-next h g (h ∷ []) apart, place-first h []),
  )
    where
      kept : List ℕ
      kept = keep p (others t g h)

      gone-first : count g kept ≡ 0
      gone-first = keep-count p g (others t g h) ∙ rw a no-first

      gone-second : count h kept ≡ 0
      gone-second = keep-count p h (others t g h) ∙ rw b no_second
