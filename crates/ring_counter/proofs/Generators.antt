-- The generators of a pass, taken on two machines that differ in the counter's high bits alone: no turn looks at the counter or writes it.
-- Assumes nothing.
use mathlib.Core.Path.{◌≡◌, refl, ap, ◌∙◌}
use mathlib.Core.List.{[], ◌∷◌}
use Prim.Native.Nat.{ℕ, suc, ◌<◌}
use native.Mathlib.Omega.{arith}
use lib.ListN.{length, get_or}
use Rattle.layout.specs.Layout.{generator_at}
use Rattle.layout.specs.Machine.{Machine, Order, Items, Sums, Places}
use Rattle.layout_texts.specs.declared.Text.{Text}
use Rattle.generator.specs.declared.Generator.{Generator}
use Rattle.generator.specs.Generator.{stored}
use Rattle.pass_model.specs.Generators.{Contribution, generators_of, State, triggered_below, fed, contribution_of, step, steps, begun}
use Rattle.pass_model.specs.Clipped.{Marks, marked, marked_by}
use Rattle.pass_model.proofs.Turns.{turn-parts}
use Rattle.ring_counter.specs.SameButHigh.{SameButHigh}
use Rattle.ring_counter.proofs.Words.{put, either, generator}

-- A pass under way on two such machines: all but the counter's high bits is the same.
pub record SameState (s t : State) : Type 0 where
  pub words : SameButHigh s.words t.words
  pub sums : s.sums ≡ t.sums
  pub triggered : s.triggered ≡ t.triggered
  pub places : s.places ≡ t.places
  pub reads : s.reads ≡ t.reads
  pub writes : s.writes ≡ t.writes

stored_same : {m n : Machine} → SameButHigh m n → (at : ℕ) (u : Generator) → SameButHigh (stored m at u) (stored n at u)
unfolding stored
stored_same s at u = put (put (put (put s _ _) _ _) _ _) _ _

fed-same : {m n : Machine} → SameButHigh m n → (b : Contribution) → SameButHigh (fed m b) (fed n b)
unfolding fed
fed-same s b = either b.feeds (put s _ _) s

module _ (text : Text) (items : Items) where
  -- The turn of a generator brings the same.
  module _ (s t : State) (same : SameState s t) (g : ℕ) (h : g < 256) where
    brings : contribution_of (generators_of text) s g ≡ contribution_of (generators_of text) t g
    brings =
        turn-parts text s.words s.sums g (triggered_below (generators_of text).distance s.triggered g)
        ∙ rw (generator same.words g h, same.sums, same.triggered, turn-parts text t.words t.sums g (triggered_below (generators_of text).distance t.triggered g))

    step_same : SameState (step (generators_of text) items s g) (step (generators_of text) items t g)
    unfolding step
    step_same =
        record {
          words = rw (brings) (fed-same (stored_same same.words (generator_at g) _) _);
          sums = rw (brings, same.sums, same.reads);
          triggered = rw (brings, same.triggered);
          places = rw (brings, same.places, same.writes);
          reads = rw (brings, same.reads);
          writes = rw (brings, same.writes);
        }

    marked-same : (marks : Marks) → marked (generators_of text) items s marks g ≡ marked (generators_of text) items t marks g
    unfolding marked
    marked-same marks = rw (brings, same.sums, same.reads)

  -- And so do those of an order, one after the other.
  pub steps-same : (order : Order) → ((i : ℕ) → i < length order → get_or order i 0 < 256) → (s t : State) → SameState s t
      → SameState (steps (generators_of text) items s order) (steps (generators_of text) items t order)
  unfolding steps
  steps-same [] low s t same = same
  steps-same (g ∷ order) low s t same =
      steps-same order (λ i h. low (suc i) (omega arith)) (step (generators_of text) items s g) (step (generators_of text) items t g)
      (step_same s t same g (low 0 (omega arith)))

  pub marks-same : (order : Order) → ((i : ℕ) → i < length order → get_or order i 0 < 256) → (s t : State) → SameState s t → (marks : Marks)
      → marked_by (generators_of text) items s marks order ≡ marked_by (generators_of text) items t marks order
  unfolding marked_by
  marks-same [] low s t same marks = refl
  marks-same (g ∷ order) low s t same marks =
      ap (λ (l : Marks). marked_by (generators_of text) items (step (generators_of text) items s g) l order) (marked-same s t same g (low 0 (omega arith)) marks)
      ∙ marks-same order (λ i h. low (suc i) (omega arith)) (step (generators_of text) items s g) (step (generators_of text) items t g)
      (step_same s t same g (low 0 (omega arith))) (marked (generators_of text) items t marks g)

-- As a pass begins.
pub begun-same : {m n : Machine} → SameButHigh m n → (s r : Sums) → s ≡ r → (places : Places) → SameState (begun m s places) (begun n r places)
unfolding begun
begun-same same s r e places = record { words = same; sums = e; triggered = refl; places = refl; reads = refl; writes = refl }
