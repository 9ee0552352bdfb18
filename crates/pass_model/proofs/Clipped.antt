-- A mark is set by the steps that leave the range at its word, and by nothing else: each step sets it or keeps it, so the fold's marks are told by its steps.
-- Assumes nothing.
use mathlib.Core.Path.{◌≡◌, refl, sym, ap, ◌∙◌}
use mathlib.Core.Logic.{◌↔◌, ◌⊎◌, inl, inr}
use mathlib.Core.Bool.{Bool, true, false, cond, ◌&&◌}
use mathlib.Core.List.{[], ◌∷◌, ◌++◌}
use Prim.Native.Nat.{ℕ, ◌≤◌, ◌<◌}
use native.Mathlib.Omega.{arith}
use borrow.Author.Tests.{eqb-true, eqb-false}
use lib.Dec.{eqb}
use lib.ListN.{length, get_or, set, length-set}
use lib.Seq.{get_or-set_same, get_or-set_other}
use Rattle.base_lists.proofs.Zeros.{zeros-length, zeros-at}
use Rattle.layout.specs.Layout.{quadrant_words}
use Rattle.layout.specs.Machine.{Order, Items}
use Rattle.pass_model.specs.Generators.{Generators, State, contribution_of, step, steps}
use Rattle.pass_model.specs.Clipped.{Marks, no_marks, sum_leaves, leaves_at, marked_at, marked, marked_by, SumLeft}

-- The mark of word w after a sum in word v.
at_mark : (marks : Marks) (v w : ℕ) (left : Bool) → w < length marks → get_or (marked_at marks v left) w 0 ≡ cond (eqb v w && left) 1 (get_or marks w 0)
unfolding marked_at
at_mark marks v w false h = go (eqb v w)
  where
    go : (b : Bool) → get_or marks w 0 ≡ cond (b && false) 1 (get_or marks w 0)
    go true = refl
    go false = refl
at_mark marks v w true h = go (eqb v w) refl
  where
    go : (b : Bool) → eqb v w ≡ b → get_or (set marks v 1) w 0 ≡ cond (b && true) 1 (get_or marks w 0)
    go true e = rw (eqb-true v w e) (get_or-set_same marks w 1 0 h)
    go false e = get_or-set_other marks v w 1 0 (λ q. eqb-false v w e (sym q))

at_length : (marks : Marks) (v : ℕ) (left : Bool) → length (marked_at marks v left) ≡ length marks
unfolding marked_at
at_length marks v true = length-set marks v 1
at_length marks v false = refl

module _ (of : Generators) (items : Items) where
  -- A step keeps how many marks there are, and sets the mark of word w just where it leaves the range there.
  marked-length : (s : State) (marks : Marks) (g : ℕ) → length (marked of items s marks g) ≡ length marks
  unfolding marked
  marked-length s marks g =
      let b = contribution_of of s g in
      at_length marks b.word (sum_leaves s.sums b (get_or items s.reads 0))

  marked-mark : (s : State) (marks : Marks) (g w : ℕ) → w < length marks → get_or (marked of items s marks g) w 0 ≡ cond (leaves_at of items s g w) 1 (get_or marks w 0)
  unfolding marked leaves_at
  marked-mark s marks g w h =
      let b = contribution_of of s g in
      at_mark marks b.word w (sum_leaves s.sums b (get_or items s.reads 0)) h

  pub marks-length : (order : Order) (s : State) (marks : Marks) → length (marked_by of items s marks order) ≡ length marks
  unfolding marked_by
  marks-length [] s marks = refl
  marks-length (g ∷ order) s marks = marks-length order (step of items s g) (marked of items s marks g) ∙ marked-length s marks g

  module _ (w : ℕ) where
    -- What holds of a mark and of 1 holds of it at the end.
    marks-by : (P : ℕ → Type 0) → P 1 → (order : Order) (s : State) (marks : Marks) → w < length marks → P (get_or marks w 0) → P (get_or (marked_by of items s marks order) w 0)
    unfolding marked_by
    marks-by P one [] s marks h p = p
    marks-by P one (g ∷ order) s marks h p =
        marks-by P one order (step of items s g) (marked of items s marks g) (rw (marked-length s marks g) h)
        (rw (marked-mark s marks g w h) (go (leaves_at of items s g w)))
      where
        go : (b : Bool) → P (cond b 1 (get_or marks w 0))
        go true = one
        go false = p

    -- A mark that is set stays, whatever is taken afterwards.
    mark-stays : (order : Order) (s : State) (marks : Marks) → w < length marks → get_or marks w 0 ≡ 1 → get_or (marked_by of items s marks order) w 0 ≡ 1
    mark-stays = marks-by (λ n. n ≡ 1) refl

    pub mark-bit : (order : Order) (s : State) (marks : Marks) → w < length marks → get_or marks w 0 ≤ 1 → get_or (marked_by of items s marks order) w 0 ≤ 1
    mark-bit = marks-by (λ n. n ≤ 1) (omega arith)

    -- A generator that leaves the range sets it.
    sets-mark : (earlier : Order) (g : ℕ) (later : Order) (s : State) (marks : Marks) → w < length marks → leaves_at of items (steps of items s earlier) g w ≡ true
        → get_or (marked_by of items s marks (earlier ++ (g ∷ later))) w 0 ≡ 1
    unfolding marked_by steps
    sets-mark [] g later s marks h e =
        mark-stays later (step of items s g) (marked of items s marks g) (rw (marked-length s marks g) h) (marked-mark s marks g w h ∙ rw e)
    sets-mark (k ∷ earlier) g later s marks h e =
        sets-mark earlier g later (step of items s k) (marked of items s marks k) (rw (marked-length s marks k) h) e

    left-sets : (order : Order) (s : State) (marks : Marks) → w < length marks → SumLeft of items s order w → get_or (marked_by of items s marks order) w 0 ≡ 1
    left-sets order s marks h l = rw l.taken (sets-mark l.earlier l.generator l.later s marks h l.left)

    -- A mark that is set was set before, or some generator left the range.
    set-left : (order : Order) (s : State) (marks : Marks) → w < length marks → get_or (marked_by of items s marks order) w 0 ≡ 1
        → (get_or marks w 0 ≡ 1) ⊎ SumLeft of items s order w
    unfolding marked_by steps
    set-left [] s marks h e = inl e
    set-left (g ∷ order) s marks h e =
        later (set-left order (step of items s g) (marked of items s marks g) (rw (marked-length s marks g) h) e)
      where
        now : (b : Bool) → leaves_at of items s g w ≡ b → cond b 1 (get_or marks w 0) ≡ 1 → (get_or marks w 0 ≡ 1) ⊎ SumLeft of items s (g ∷ order) w
        now true l q = inr (record { earlier = []; generator = g; later = order; taken = refl; left = l })
        now false l q = inl q

        later : (get_or (marked of items s marks g) w 0 ≡ 1) ⊎ SumLeft of items (step of items s g) order w → (get_or marks w 0 ≡ 1) ⊎ SumLeft of items s (g ∷ order) w
        later (inl q) = now (leaves_at of items s g w) refl (sym (marked-mark s marks g w h) ∙ q)
        later (inr l) = inr (record { earlier = g ∷ l.earlier; generator = l.generator; later = l.later; taken = ap (λ (o : Order). g ∷ o) l.taken; left = l.left })

  -- From no marks: the mark of word w is set exactly if some generator left the range there.
  pub mark-tells : (order : Order) (s : State) (w : ℕ) → w < quadrant_words → (get_or (marked_by of items s no_marks order) w 0 ≡ 1) ↔ SumLeft of items s order w
  mark-tells order s w h = (λ e. go (set-left w order s no_marks within e), left-sets w order s no_marks within)
    where
      within : w < length no_marks
      within = rw (zeros-length quadrant_words) h

      go : (get_or no_marks w 0 ≡ 1) ⊎ SumLeft of items s order w → SumLeft of items s order w
      go (inl e) = absurd (omega (arith, e, zeros-at quadrant_words w h))
      go (inr l) = l
