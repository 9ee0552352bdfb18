-- Sums of counts, and how they move where one count is one more: f is what the counts are without that one, and up says whether it is there.
-- Assumes nothing.
use Rattle.std.proofs.Common.{◌≡◌, ℕ, ◌+◌, ◌-◌, ◌*◌, ◌<◌, ◌≤◌, Bool, true, false, ◌&&◌, eqb, ltb, ◌≢◌, sym, refl, ap, ◌∙◌, add-zero, arith, ltb-false, ltb-true, le-ltb, lt-ltb, eq-eqb, ne_eqb, eqb-true}
use borrow.Author.Tests.{eqb-false}
use Rattle.base_lists.specs.Lists.{count_below}
use Rattle.base_lists.proofs.Counts.{count-below-same}
use Rattle.any_order_sums.specs.AsCoded.{other_kind}
use Rattle.any_order_sums.proofs.CountsAt.{bit, and-false, count-below-at, count-below-more}

-- How many of the 128 counts from a place on are not 0; how many DACs have more than one such; how many sum words have a 0111 and an adding generator.
abbrev pub used_by : (ℕ → ℕ) → ℕ → ℕ
used_by f at = count_below (λ v. ltb 0 (f (at + v))) 128

abbrev pub parted_by : (ℕ → ℕ) → ℕ
parted_by f = count_below (λ d. ltb 1 (used_by f (256 + 128 * d))) 16

abbrev pub shared_by : (ℕ → ℕ) → ℕ
shared_by f = count_below (λ w. ltb 0 (f w) && ltb 0 (f (64 + w))) 64

-- Functions with the same counts have the same sums; also where only the counts that are 0 are the same.
pub used-same : (f g : ℕ → ℕ) (at : ℕ) → ((v : ℕ) → v < 128 → ltb 0 (f (at + v)) ≡ ltb 0 (g (at + v))) → used_by f at ≡ used_by g at
used-same f g at same = count-below-same _ _ 128 same

pub parted-same : (f g : ℕ → ℕ) → ((d : ℕ) → d < 16 → used_by f (256 + 128 * d) ≡ used_by g (256 + 128 * d)) → parted_by f ≡ parted_by g
parted-same f g same = count-below-same _ _ 16 (λ d l. ap (λ (n : ℕ). ltb 1 n) (same d l))

pub shared_same : (f g : ℕ → ℕ) → ((j : ℕ) → j < 128 → ltb 0 (f j) ≡ ltb 0 (g j)) → shared_by f ≡ shared_by g
shared_same f g same = count-below-same _ _ 64 (λ w l. rw (same w (omega arith), same (64 + w) (omega arith)))

-- The counts with or without one more at place i.
abbrev pub level : Bool → ℕ → (ℕ → ℕ) → ℕ → ℕ
level up i f j = f j + bit (up && eqb i j)

and-true : (b : Bool) → (b && true) ≡ b
and-true true = refl
and-true false = refl

swap : (a b : Bool) → (a && b) ≡ (b && a)
swap true b = sym (and-true b)
swap false b = sym (and-false b)

module _ (up : Bool) (f : ℕ → ℕ) (i : ℕ) where
  pub level-off : (j : ℕ) → i ≢ j → level up i f j ≡ f j
  level-off j n = rw (ne_eqb i j n, and-false up) (add-zero (f j))

  pub level-on : level up i f i ≡ f i + bit up
  level-on = rw (eq-eqb i i refl, and-true up)

  -- Where there are others no sum moves.
  module _ (some : 1 ≤ f i) where
    pos-same : (j : ℕ) → ltb 0 (level up i f j) ≡ ltb 0 (f j)
    pos-same j = go (eqb i j) refl
      where
        go : (b : Bool) → eqb i j ≡ b → ltb 0 (level up i f j) ≡ ltb 0 (f j)
        go true e = let q = eqb-true i j e in rw (← q) (lt-ltb 0 (level up i f i) (omega arith) ∙ sym (lt-ltb 0 (f i) some))
        go false e = ap (λ (n : ℕ). ltb 0 n) (level-off j (eqb-false i j e))

    pub used-there : (at : ℕ) → used_by (level up i f) at ≡ used_by f at
    used-there at = used-same (level up i f) f at (λ v l. pos-same (at + v))

    pub parted-there : parted_by (level up i f) ≡ parted_by f
    parted-there = parted-same (level up i f) f (λ d l. used-there (256 + 128 * d))

    pub shared-there : shared_by (level up i f) ≡ shared_by f
    shared-there = shared_same (level up i f) f (λ j l. pos-same j)

  -- Nor does a sum of other places.
  pub used-elsewhere : (at : ℕ) → ((v : ℕ) → v < 128 → i ≢ at + v) → used_by (level up i f) at ≡ used_by f at
  used-elsewhere at off = used-same (level up i f) f at (λ v l. ap (λ (n : ℕ). ltb 0 n) (level-off (at + v) (off v l)))

  pub parted-elsewhere : ((d v : ℕ) → d < 16 → v < 128 → i ≢ 256 + 128 * d + v) → parted_by (level up i f) ≡ parted_by f
  parted-elsewhere off = parted-same (level up i f) f (λ d l. used-elsewhere (256 + 128 * d) (λ v h. off d v l h))

  pub shared-elsewhere : 128 ≤ i → shared_by (level up i f) ≡ shared_by f
  shared-elsewhere h = shared_same (level up i f) f (λ j l. ap (λ (n : ℕ). ltb 0 n) (level-off j (λ e. omega arith)))

  -- The sum of a place at which there is none else moves.
  module _ (none : f i ≡ 0) where
    pos-here : ltb 0 (level up i f i) ≡ up
    pos-here = rw (level-on, none) (go up)
      where
        go : (b : Bool) → ltb 0 (0 + bit b) ≡ b
        go true = refl
        go false = refl

    pos-before : ltb 0 (f i) ≡ false
    pos-before = rw none

    pub used-here : (at v : ℕ) → v < 128 → i ≡ at + v → used_by (level up i f) at ≡ used_by f at + bit up
    used-here at v l e =
        count-below-more (λ u. ltb 0 (f (at + u))) (λ u. ltb 0 (level up i f (at + u))) 128 v l
        (λ u h n. sym (ap (λ (x : ℕ). ltb 0 x) (level-off (at + u) (λ q. n (omega (arith, q, e))))))
        (rw (← e) pos-before)
        ∙ rw (← e, pos-here)

    pub parted-here : (d v : ℕ) → d < 16 → v < 128 → i ≡ 256 + 128 * d + v
        → parted_by (level up i f) ≡ parted_by f + bit (up && eqb (used_by f (256 + 128 * d)) 1)
    parted-here d v l h e =
        more up (used_by f (256 + 128 * d)) (parted_by (level up i f)) (parted_by f)
        (rw (used-here (256 + 128 * d) v h e) at
        (count-below-at (λ c. ltb 1 (used_by f (256 + 128 * c))) (λ c. ltb 1 (used_by (level up i f) (256 + 128 * c))) 16 d l
        (λ c k n. sym (ap (λ (x : ℕ). ltb 1 x) (used-elsewhere (256 + 128 * c) (λ u j q. n (omega (arith, q, e, h, j))))))))
      where
        more : (b : Bool) (n x y : ℕ) → x + bit (ltb 1 n) ≡ y + bit (ltb 1 (n + bit b)) → x ≡ y + bit (b && eqb n 1)
        more false n x y q = let z : n + 0 ≡ n = add-zero n in omega (arith, rw z at q)
        more true n x y q = go (eqb n 1) refl (ltb 1 n) refl
          where
            go : (c : Bool) → eqb n 1 ≡ c → (d : Bool) → ltb 1 n ≡ d → x ≡ y + bit c
            go true e d g = let m = eqb-true n 1 e in omega (arith, rw m at q)
            go false e true g = omega (arith, rw (g, lt-ltb 1 (n + 1) (omega (arith, ltb-true 1 n g))) at q)
            go false e false g = omega (arith, rw (g, le-ltb 1 (n + 1) (omega (arith, ltb-false 1 n g, eqb-false n 1 e))) at q)

    pub shared-here : i < 128 → shared_by (level up i f) ≡ shared_by f + bit (up && ltb 0 (f (other_kind i)))
    shared-here l = go (ltb i 64) refl
      where
        go : (b : Bool) → ltb i 64 ≡ b → shared_by (level up i f) ≡ shared_by f + bit (up && ltb 0 (f (other_kind i)))
        go true e =
            let h = ltb-true i 64 e in
            let other : other_kind i ≡ 64 + i = omega arith in
            count-below-more (λ w. ltb 0 (f w) && ltb 0 (f (64 + w))) (λ w. ltb 0 (level up i f w) && ltb 0 (level up i f (64 + w))) 64 i h
            (λ w k n. rw (level-off w (λ q. n (sym q)), level-off (64 + w) (λ q. omega (arith, q))))
            (rw pos-before)
            ∙ rw (pos-here, other, level-off (64 + i) (λ q. omega (arith, q)))
        go false e =
            let h = ltb-false i 64 e in
            let other : other_kind i ≡ i - 64 = omega arith in
            let back : 64 + (i - 64) ≡ i = omega arith in
            count-below-more (λ w. ltb 0 (f w) && ltb 0 (f (64 + w))) (λ w. ltb 0 (level up i f w) && ltb 0 (level up i f (64 + w))) 64 (i - 64) (omega arith)
            (λ w k n. rw (level-off w (λ q. omega (arith, q)), level-off (64 + w) (λ q. n (omega (arith, q)))))
            (rw (back, pos-before) (and-false (ltb 0 (f (i - 64)))))
            ∙ rw (back, pos-here, other, level-off (i - 64) (λ q. omega (arith, q))) (ap (λ (b : Bool). shared_by f + bit b) (swap (ltb 0 (f (i - 64))) up))
