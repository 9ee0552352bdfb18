-- A pass leaves the GMODE of every generator from T on as it was: none of them is taken.
-- Assumes nothing.
use mathlib.Core.Path.{◌≡◌, refl, ◌∙◌}
use mathlib.Core.List.{List, [], ◌∷◌}
use Prim.Native.Nat.{ℕ, suc, ◌+◌, ◌≤◌, ◌<◌}
use native.Mathlib.Omega.{arith}
use lib.Dec.{lit<}
use lib.ListN.{length, get_or}
use Rattle.base_lists.specs.Lists.{count}
use Rattle.base_lists.proofs.Counts.{count_next}
use Rattle.layout.specs.Layout.{generator_at, GMODE}
use Rattle.layout.specs.Machine.{Machine, ticks_of, gmode_at}
use Rattle.machine.proofs.ValidMachine.{reaches}
use Rattle.pass_sums.specs.Sums.{sums_of}
use Rattle.pass_sums.proofs.Blocks.{outside-before}
use Rattle.pass_sums.proofs.Memory.{sums-quadrants}
use Rattle.layout_texts.specs.declared.Text.{Text}
use Rattle.pass_model.specs.Generators.{generators_of, begun}
use Rattle.pass_model.specs.Pass.{Call, Outcome, ran, pass_refusal, pass_of}
use Rattle.pass_model.proofs.Delays.{off-below}
use Rattle.pass_laws.proofs.Completing.{completed-word}
use Rattle.pass_laws.proofs.Frames.{steps-quadrants, steps-untaken}
use Rattle.pass_laws.proofs.Passing.{generators_done, held_then, begun-words, begun-sums, admitted, pass-by, refused-machine, ran-machine}

-- A number that no entry of a list is stands in it not once.
absent : (k : ℕ) (xs : List ℕ) → ((i : ℕ) → i < length xs → get_or xs i 0 < k) → count k xs ≡ 0
unfolding count
absent k [] below = refl
absent k (x ∷ xs) below =
    count_next k x xs (λ e. omega (arith, e, below 0 (omega arith))) ∙ absent k xs (λ i h. below (suc i) (omega arith))

module _ (text : Text) (m : Machine) (call : Call) (g : ℕ) (from : ticks_of m ≤ g) (h : g < 256) where
  ran-mode : pass_refusal text m call ≡ 0 → gmode_at (ran text m call).machine g ≡ gmode_at m g
  ran-mode e =
      let p = admitted text m call e in
      let start = begun m (sums_of m) call.places in
      rw (ran-machine text m call)
      (completed-word text (ticks_of m) (held_then text m call) (generators_done text m call).sums
      (steps-quadrants (generators_of text) call.items call.order start (rw (begun-sums m (sums_of m) call.places) (sums-quadrants m (reaches m p.good.whole))))
      (generator_at g + GMODE) (record { not_at = λ k j a b z. omega arith; units = off-below (generator_at g + GMODE) (omega arith) })
      (outside-before (generator_at g + GMODE) 3840 256 (omega arith)) (λ z. omega arith)
      ∙ steps-untaken (generators_of text) call.items call.order start g GMODE h (lit< tt)
      (absent g call.order (λ i l. omega (arith, p.is-order.below i l)))
      ∙ rw (begun-words m (sums_of m) call.places))

  pub untaken-mode : gmode_at (pass_of text m call).machine g ≡ gmode_at m g
  untaken-mode = pass-by text m call (λ (r : Outcome). gmode_at r.machine g ≡ gmode_at m g) (rw (refused-machine text m call)) ran-mode
