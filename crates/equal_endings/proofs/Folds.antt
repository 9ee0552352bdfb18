-- What the entries of a list leave one after the other, over any tests and values: a word that some of them replace, a word that some replace and some add to, and items that some of them write.
-- Assumes nothing.
use mathlib.Core.Path.{◌≡◌, refl, sym, ap, ◌∙◌}
use mathlib.Core.Bool.{Bool, true, false, cond, ◌&&◌, ◌||◌, and-true, and-false}
use mathlib.Core.List.{List, [], ◌∷◌, ◌++◌, map}
use Prim.Native.Nat.{ℕ, suc, ◌+◌, ◌%◌, ◌≤◌, ◌<◌}
use native.Mathlib.Omega.{arith}
use native.Mathlib.Nat.{zero-add, add-zero, add_assoc, mod-add-mod, mod-eq_of_lt, mod-lt}
use lib.ListN.{length, get_or, set}
use lib.Seq.{sets}
use Rattle.base_lists.specs.Lists.{count}
use Rattle.base_sequences.specs.Sequences.{keep, some, last_of, place_of, before, latest, total}
use Rattle.base_sequences.proofs.Entries.{count-entry, none-in-front, some_first, last-passes, CutAtLast, cut-at-last}
use Rattle.base_sequences.proofs.Places.{place_kept, before-itself, after_front, after-behind}
use Rattle.base_sequences.proofs.Totals.{total-append, total-same, total-none}

-- A word that the entries passing p replace one after the other by f.
module _ (p : ℕ → Bool) (f : ℕ → ℕ) where
  abbrev pub replacing : List ℕ → ℕ → ℕ
  replacing [] x = x
  replacing (g ∷ order) x = replacing order (cond (p g) (f g) x)

  pub replacing-left : (order : List ℕ) (x : ℕ) → replacing order x ≡ latest p f order x
  unfolding latest some last_of
  replacing-left [] x = refl
  replacing-left (g ∷ order) x = replacing-left order (cond (p g) (f g) x) ∙ go (p g) (some p order)
    where
      go : (b c : Bool) → cond c (f (last_of p order)) (cond b (f g) x) ≡ cond (b || c) (f (cond c (last_of p order) (cond b g 0))) x
      go true true = refl
      go true false = refl
      go false true = refl
      go false false = refl

-- Items that the entries passing p write one after the other from place k on.
module _ (p : ℕ → Bool) (f : ℕ → ℕ) where
  abbrev pub writing : List ℕ → List ℕ → ℕ → List ℕ
  writing [] places k = places
  writing (g ∷ order) places k = writing order (cond (p g) (set places k (f g)) places) (cond (p g) (suc k) k)

  pub writing-sets : (order places : List ℕ) (k : ℕ) → writing order places k ≡ sets places k (map f (keep p order))
  unfolding keep
  writing-sets [] places k = refl
  writing-sets (g ∷ order) places k =
      writing-sets order (cond (p g) (set places k (f g)) places) (cond (p g) (suc k) k) ∙ go (p g)
    where
      go : (b : Bool) → sets (cond b (set places k (f g)) places) (cond b (suc k) k) (map f (keep p order))
          ≡ sets places k (map f (cond b (g ∷ keep p order) (keep p order)))
      go true = refl
      go false = refl

-- How many entries pass, beginning with k.
module _ (p : ℕ → Bool) where
  abbrev pub counting : List ℕ → ℕ → ℕ
  counting [] k = k
  counting (g ∷ order) k = counting order (cond (p g) (suc k) k)

  pub counting_kept : (order : List ℕ) (k : ℕ) → counting order k ≡ k + length (keep p order)
  unfolding keep
  counting_kept [] k = sym (add-zero k)
  counting_kept (g ∷ order) k = counting_kept order (cond (p g) (suc k) k) ∙ go (p g)
    where
      go : (b : Bool) → cond b (suc k) k + length (keep p order) ≡ k + length (cond b (g ∷ keep p order) (keep p order))
      go true = omega arith
      go false = refl

-- A word modulo n: an entry of `replaces` brings its f plus the next item in its place, one of `adds` adds its f to it; each entry of `reads` takes an item.
module _ (n : ℕ) (replaces adds reads : ℕ → Bool) (f item : ℕ → ℕ) where
  abbrev pub next : ℕ → ℕ → ℕ → ℕ
  next g c k = cond (replaces g) ((f g + item k) % n) (cond (adds g) ((c + f g) % n) c)

  abbrev pub summing : List ℕ → ℕ → ℕ → ℕ
  summing [] c k = c
  summing (g ∷ order) c k = summing order (next g c k) (cond (reads g) (suc k) k)

  summing-append : (a b : List ℕ) (c k : ℕ) → summing (a ++ b) c k ≡ summing b (summing a c k) (k + length (keep reads a))
  unfolding keep
  summing-append [] b c k = rw (add-zero k)
  summing-append (g ∷ a) b c k =
      summing-append a b (next g c k) (cond (reads g) (suc k) k)
      ∙ ap (λ (j : ℕ). summing b (summing a (next g c k) (cond (reads g) (suc k) k)) j) (go (reads g))
    where
      go : (v : Bool) → cond v (suc k) k + length (keep reads a) ≡ k + length (cond v (g ∷ keep reads a) (keep reads a))
      go true = omega arith
      go false = refl

-- What an adding entry brings, and what it brings where x stands before it.
module _ (adds : ℕ → Bool) (f : ℕ → ℕ) where
  abbrev pub brings : ℕ → ℕ
  brings g = cond (adds g) (f g) 0

  abbrev brings_after : ℕ → List ℕ → ℕ → ℕ
  brings_after x order g = cond (adds g && before x g order) (f g) 0

  -- What the adding entries behind x bring is what those bring that it stands before.
  module _ (a : List ℕ) (x : ℕ) (b : List ℕ) (once : (g : ℕ) → count g (a ++ (x ∷ b)) ≤ 1) where
    total-behind : total (brings_after x (a ++ (x ∷ b))) (a ++ (x ∷ b)) ≡ total brings b
    unfolding total
    total-behind =
        total-append (brings_after x (a ++ (x ∷ b))) a (x ∷ b)
        ∙ rw (
          total-none (brings_after x (a ++ (x ∷ b))) a (λ i l. rw (after_front a x b (none-in-front a x b (once x)) (get_or a i 0) (count-entry a i l), and-false (adds (get_or a i 0)))),
          before-itself x (a ++ (x ∷ b)),
          and-false (adds x),
          total-same (brings_after x (a ++ (x ∷ b))) brings b
              (λ i l. rw (after-behind a x b (none-in-front a x b (once x)) (get_or b i 0) (count-entry b i l) (once (get_or b i 0)), and-true (adds (get_or b i 0)))),
        ) (omega arith)

module _ (n : ℕ) (n_pos : 0 < n) (replaces adds reads : ℕ → Bool) (f item : ℕ → ℕ) where
  abbrev leaves : List ℕ → ℕ → ℕ → ℕ
  leaves = summing n replaces adds reads f item

  -- With no replacing entry.
  adding : (v : Bool) (c x : ℕ) → c < n → cond v ((c + x) % n) c ≡ (c + cond v x 0) % n
  adding true c x h = refl
  adding false c x h = rw (add-zero c, mod-eq_of_lt h)

  pub summing-plain : (order : List ℕ) (c k : ℕ) → c < n → some replaces order ≡ false → leaves order c k ≡ (c + total (brings adds f) order) % n
  unfolding total
  summing-plain [] c k h e = rw (add-zero c, mod-eq_of_lt h)
  summing-plain (g ∷ order) c k h e =
      let z = some_first replaces g order e in
      let q : next n replaces adds reads f item g c k ≡ (c + brings adds f g) % n = rw z.0 (adding (adds g) c (f g) h) in
      ap (λ (x : ℕ). leaves order x (cond (reads g) (suc k) k)) q
      ∙ summing-plain order ((c + brings adds f g) % n) (cond (reads g) (suc k) k) (mod-lt (c + brings adds f g) n_pos) z.1
      ∙ mod-add-mod (c + brings adds f g) n (total (brings adds f) order)
      ∙ ap (λ (x : ℕ). x % n) (add_assoc c (brings adds f g) (total (brings adds f) order))

  -- Cut at a replacing entry with none behind it.
  pub summing-cut : (a : List ℕ) (x : ℕ) (b : List ℕ) (c : ℕ) → replaces x ≡ true → some replaces b ≡ false
      → leaves (a ++ (x ∷ b)) c 0 ≡ (f x + item (length (keep reads a)) + total (brings adds f) b) % n
  summing-cut a x b c e none =
      summing-append n replaces adds reads f item a (x ∷ b) c 0
      ∙ rw (e, zero-add (length (keep reads a)))
      (summing-plain b ((f x + item (length (keep reads a))) % n) (cond (reads x) (suc (length (keep reads a))) (length (keep reads a)))
      (mod-lt (f x + item (length (keep reads a))) n_pos) none
      ∙ mod-add-mod (f x + item (length (keep reads a))) n (total (brings adds f) b))

  -- The closed form, of a list in which nothing stands twice.
  pub summing-replaced : ((g : ℕ) → replaces g ≡ true → reads g ≡ true) → (order : List ℕ) → ((g : ℕ) → count g order ≤ 1) → (c : ℕ) → some replaces order ≡ true
      → leaves order c 0 ≡ (f (last_of replaces order) + item (place_of (last_of replaces order) (keep reads order)) + total (brings_after adds f (last_of replaces order) order) order) % n
  summing-replaced all order once c e = go (cut-at-last replaces order e)
    where
      at : (x : ℕ) (a b : List ℕ) → replaces x ≡ true → some replaces b ≡ false → ((g : ℕ) → count g (a ++ (x ∷ b)) ≤ 1)
          → leaves (a ++ (x ∷ b)) c 0
          ≡ (f x + item (place_of x (keep reads (a ++ (x ∷ b)))) + total (brings_after adds f x (a ++ (x ∷ b))) (a ++ (x ∷ b))) % n
      at x a b p q o =
          summing-cut a x b c p q ∙ rw (place_kept a x b (none-in-front a x b (o x)) reads (all x p), total-behind adds f a x b o)

      go : CutAtLast replaces order → leaves order c 0
          ≡ (f (last_of replaces order) + item (place_of (last_of replaces order) (keep reads order)) + total (brings_after adds f (last_of replaces order) order) order) % n
      go s = general (last_of replaces order) (last-passes replaces order e) s.is
        where
          general : (x : ℕ) → replaces x ≡ true → order ≡ s.front ++ (x ∷ s.behind)
              → leaves order c 0 ≡ (f x + item (place_of x (keep reads order)) + total (brings_after adds f x order) order) % n
          general x p is = rw is (at x s.front s.behind p s.none-behind (λ g. rw (← is) (once g)))
