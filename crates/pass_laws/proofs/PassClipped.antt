-- The marks of a pass: 64, each 0 or 1, none set in a refusal; else each is told by the steps of the generators.
-- Assumes nothing.
use mathlib.Core.Path.{◌≡◌, refl, ◌∙◌}
use mathlib.Core.Logic.{◌↔◌, ◌≢◌}
use Prim.Native.Nat.{ℕ, ◌≤◌, ◌<◌}
use native.Mathlib.Omega.{arith}
use borrow.Author.Tests.{ne_eqb}
use lib.ListN.{length, get_or}
use Rattle.base_lists.proofs.Zeros.{zeros-length, zeros-at}
use Rattle.layout.specs.Layout.{quadrant_words}
use Rattle.layout.specs.Machine.{Machine}
use Rattle.layout_texts.specs.declared.Text.{Text}
use Rattle.pass_sums.specs.Sums.{sums_of}
use Rattle.pass_model.specs.Generators.{generators_of, begun, State}
use Rattle.pass_model.specs.Clipped.{no_marks, marked_by, SumLeft}
use Rattle.pass_model.specs.Pass.{Call, Outcome, generators_clipped, finished, ran, refused, pass_refusal, pass_of}
use Rattle.pass_model.proofs.Clipped.{marks-length, mark-bit, mark-tells}
use Rattle.pass_laws.proofs.Passing.{pass-by, let_through}

module _ (text : Text) (m : Machine) (call : Call) where
  -- The state as the generators begin.
  abbrev start : State
  start = begun m (sums_of m) call.places

  refused-clipped : (refused (pass_refusal text m call) m call).clipped ≡ no_marks
  unfolding refused
  refused-clipped = refl

  pub ran-clipped : (ran text m call).clipped ≡ marked_by (generators_of text) call.items start no_marks call.order
  unfolding ran finished generators_clipped
  ran-clipped = refl

  pub pass-marks : length (pass_of text m call).clipped ≡ quadrant_words
  pass-marks =
      pass-by text m call (λ (r : Outcome). length r.clipped ≡ quadrant_words) (rw refused-clipped (zeros-length quadrant_words))
      (λ e. rw ran-clipped (marks-length (generators_of text) call.items call.order start no_marks ∙ zeros-length quadrant_words))

  pub pass-mark-bits : (w : ℕ) → w < quadrant_words → get_or (pass_of text m call).clipped w 0 ≤ 1
  pass-mark-bits w h =
      pass-by text m call (λ (r : Outcome). get_or r.clipped w 0 ≤ 1) (rw refused-clipped none)
      (λ e. rw ran-clipped (mark-bit (generators_of text) call.items w call.order start no_marks (rw (zeros-length quadrant_words) h) none))
    where
      none : get_or no_marks w 0 ≤ 1
      none = omega (arith, zeros-at quadrant_words w h)

  -- A refused pass sets no mark.
  pub refused-unmarked : pass_refusal text m call ≢ 0 → (pass_of text m call).clipped ≡ no_marks
  unfolding pass_of refused
  refused-unmarked h = rw (ne_eqb (pass_refusal text m call) 0 h)

  -- In a pass that is let through the mark of word w is set exactly if some generator made a sum there that left its range.
  pub pass-mark-tells : pass_refusal text m call ≡ 0 → (w : ℕ) → w < quadrant_words
      → (get_or (pass_of text m call).clipped w 0 ≡ 1) ↔ SumLeft (generators_of text) call.items start call.order w
  pass-mark-tells e w h = rw (let_through text m call e, ran-clipped) (mark-tells (generators_of text) call.items call.order start w h)
