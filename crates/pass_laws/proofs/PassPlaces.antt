-- The places for written items: a pass keeps how many there are, and each past the last item. A refused pass reads and writes none.
-- Assumes nothing.
use mathlib.Core.Path.{◌≡◌, refl, ◌∙◌}
use mathlib.Core.Logic.{◌≢◌}
use mathlib.Core.Bool.{Bool, true, false, cond}
use Prim.Native.Nat.{ℕ, suc, ◌≤◌}
use native.Mathlib.Omega.{arith}
use borrow.Author.Tests.{ne_eqb}
use lib.ListN.{length, get_or, set, length-set}
use lib.Seq.{get_or-set_other}
use Rattle.base_lists.proofs.Choices.{of-cond}
use Rattle.layout.specs.Machine.{Machine, Items, Places}
use Rattle.layout_texts.specs.declared.Text.{Text}
use Rattle.pass_sums.specs.Sums.{sums_of}
use Rattle.pass_model.specs.Generators.{Generators, generators_of, State, contribution_of, step, begun, taken_by}
use Rattle.pass_model.specs.Pass.{Call, Outcome, generators_taken, finished, ran, refused, pass_refusal, pass_of}
use Rattle.pass_laws.proofs.Frames.{steps-keep-all}
use Rattle.pass_laws.proofs.Passing.{generators_done, pass-by, ran-written}

-- Place i is as it was, unless an item was written there or past it.
abbrev Kept : Places → ℕ → State → Type 0
Kept places i t = t.writes ≤ i → get_or t.places i 0 ≡ get_or places i 0

step_kept : (of : Generators) (items : Items) (places : Places) (i : ℕ) (t : State) (g : ℕ) → Kept places i t → Kept places i (step of items t g)
unfolding step
step_kept of items places i t g k = go (contribution_of of t g).writes
  where
    sent : ℕ
    sent = (contribution_of of t g).sends

    go : (b : Bool) → cond b (suc t.writes) t.writes ≤ i → get_or (cond b (set t.places t.writes sent) t.places) i 0 ≡ get_or places i 0
    go true h = get_or-set_other t.places t.writes i sent 0 (λ e. omega arith) ∙ k (omega arith)
    go false h = k h

step-long : (of : Generators) (items : Items) (n : ℕ) (t : State) (g : ℕ) → length t.places ≡ n → length (step of items t g).places ≡ n
unfolding step
step-long of items n t g e =
    of-cond (λ (l : Places). length l ≡ n) (contribution_of of t g).writes (length-set t.places t.writes (contribution_of of t g).sends ∙ e) e

module _ (text : Text) (m : Machine) (call : Call) where
  ran-places : (ran text m call).places ≡ (generators_done text m call).places
  unfolding ran finished generators_taken taken_by
  ran-places = refl

  -- Each place past the last item.
  ran-kept : (i : ℕ) → (ran text m call).written ≤ i → get_or (ran text m call).places i 0 ≡ get_or call.places i 0
  unfolding begun
  ran-kept i =
      rw (ran-written text m call, ran-places)
      (steps-keep-all (generators_of text) call.items (Kept call.places i) (step_kept (generators_of text) call.items call.places i) call.order
      (begun m (sums_of m) call.places) (λ h. refl))

  pub places-kept : (i : ℕ) → (pass_of text m call).written ≤ i → get_or (pass_of text m call).places i 0 ≡ get_or call.places i 0
  unfolding refused
  places-kept i = pass-by text m call (λ (r : Outcome). r.written ≤ i → get_or r.places i 0 ≡ get_or call.places i 0) (λ h. refl) (λ e. ran-kept i)

  -- How many there are.
  ran-long : length (ran text m call).places ≡ length call.places
  unfolding begun
  ran-long =
      rw ran-places
      (steps-keep-all (generators_of text) call.items (λ (t : State). length t.places ≡ length call.places) (step-long (generators_of text) call.items (length call.places)) call.order
      (begun m (sums_of m) call.places) refl)

  pub places-long : length (pass_of text m call).places ≡ length call.places
  unfolding refused
  places-long = pass-by text m call (λ (r : Outcome). length r.places ≡ length call.places) refl (λ e. ran-long)

  -- A refused pass.
  pub refused-counts : pass_refusal text m call ≢ 0 → ((pass_of text m call).read ≡ 0) × ((pass_of text m call).written ≡ 0)
  unfolding pass_of refused
  refused-counts h = rw (ne_eqb (pass_refusal text m call) 0 h) (refl, refl)
