-- What a pass writes is within its places, which keep their length; so by what two passes differ is the first word or the first written item by which they do.
-- Assumes nothing.
use mathlib.Core.Path.{◌≡◌, refl, ap, ◌∙◌}
use mathlib.Core.Bool.{Bool, true, false}
use Prim.Native.Nat.{ℕ, ◌≤◌, ◌<◌}
use native.Mathlib.Omega.{arith}
use borrow.Author.Tests.{ltb-true, ltb-false, lt-ltb, le-ltb}
use lib.Dec.{ltb}
use lib.ListN.{length, take, length-set}
use lib.Seq.{length-take-le}
use Rattle.base_lists.proofs.Choices.{of-cond, of_test}
use Rattle.layout.specs.Layout.{machine_length}
use Rattle.layout.specs.Machine.{Machine, Order, Items, Places}
use Rattle.layout_texts.specs.declared.Text.{Text}
use Rattle.pass_sums.specs.Sums.{sums_of}
use Rattle.pass_model.specs.Generators.{generators_of, State, contribution_of, step, begun, taken_by}
use Rattle.pass_model.specs.Pass.{Call, Outcome, written_data, generators_taken, finished, ran, refused, pass_of}
use Rattle.pass_model.proofs.Asked.{passes}
use Rattle.pass_laws.proofs.Frames.{steps-keep-all}
use Rattle.pass_laws.proofs.Passing.{pass-by, let_through}
use Rattle.pass_laws.proofs.PassCounts.{pass-counts}
use Rattle.parts_shown.specs.Shown.{first_different, difference_between, pass_by, difference_shown, Differ}
use Rattle.parts_shown.specs.declared.Difference.TheVariants.{Word, Written}
use Rattle.parts_shown.proofs.Different.{is-first, no_place}

-- A generator's turn keeps how many places there are.
step-places : (text : Text) (items : Items) (s : State) (g : ℕ) → length (step (generators_of text) items s g).places ≡ length s.places
unfolding step
step-places text items s g =
    of-cond (λ (l : Places). length l ≡ length s.places) (contribution_of (generators_of text) s g).writes (length-set s.places s.writes (contribution_of (generators_of text) s g).sends) refl

module _ (text : Text) (m : Machine) (call : Call) where
  -- A pass writes no more items than it has places.
  pub written-within : (pass_of text m call).written ≤ length call.places
  unfolding refused
  written-within =
      pass-by text m call (λ (r : Outcome). r.written ≤ length call.places) (omega arith)
      (λ e. omega (arith, ap (λ (r : Outcome). r.written) (let_through text m call e), (pass-counts text m call e).1, (passes text m call e).writes))

  ran-places : length (ran text m call).places ≡ length call.places
  unfolding ran finished generators_taken taken_by begun
  ran-places =
      steps-keep-all (generators_of text) call.items (λ (s : State). length s.places ≡ length call.places) (λ s g e. step-places text call.items s g ∙ e)
      call.order (begun m (sums_of m) call.places) refl

  -- It leaves as many places as there were.
  pub pass-places : length (pass_of text m call).places ≡ length call.places
  unfolding refused
  pass-places = pass-by text m call (λ (r : Outcome). length r.places ≡ length call.places) refl (λ e. ran-places)

  -- So the written data have as many items as it wrote.
  pub written-length : length (written_data (pass_of text m call)) ≡ (pass_of text m call).written
  written-length = length-take-le (pass_of text m call).written (pass_of text m call).places (rw pass-places written-within)

-- Two passes that leave machines of a length and as many written items, and not both the same, differ by what is named.
pub differs : (r s : Outcome) → length r.machine ≡ length s.machine → length (written_data r) ≡ length (written_data s)
    → (r.machine ≡ s.machine → written_data r ≡ written_data s → ⊥) → Differ r s (difference_between r s)
unfolding difference_between
differs r s em ew apart =
    of_test (Differ r s) (ltb (first_different r.machine s.machine) (length r.machine))
    (λ t. is-first r.machine s.machine em (ltb-true _ _ t))
    (λ f. let same = no_place r.machine s.machine em (ltb-false _ _ f) in (same, is-first (written_data r) (written_data s) ew (within same)))
  where
    within : r.machine ≡ s.machine → first_different (written_data r) (written_data s) < length (written_data r)
    within same = go (ltb (first_different (written_data r) (written_data s)) (length (written_data r))) refl
      where
        go : (b : Bool) → ltb (first_different (written_data r) (written_data s)) (length (written_data r)) ≡ b → first_different (written_data r) (written_data s) < length (written_data r)
        go true t = ltb-true _ _ t
        go false f = absurd (apart same (no_place (written_data r) (written_data s) ew (ltb-false _ _ f)))

-- What is known of what a pass left: the items written, the machine and the places.
abbrev pub Left : Outcome → ℕ → Machine → Places → Type 0
Left r written m places = (written ≡ r.written) × ((m ≡ r.machine) × (places ≡ r.places))

-- What a pass leaves by a machine that is the contents.
pub leaves : (text : Text) (call : Call) {contents m : Machine} → m ≡ contents → {r : Outcome} → r ≡ pass_of text m call → Left (pass_of text contents call) r.written r.machine r.places
leaves text call e f =
    let g = f ∙ ap (λ (x : Machine). pass_of text x call) e in
    (ap (λ (x : Outcome). x.written) g, (ap (λ (x : Outcome). x.machine) g, ap (λ (x : Outcome). x.places) g))

-- What is left of the places is enough for the written items.
pub left-within : (text : Text) (m : Machine) (call : Call) {written : ℕ} {n : Machine} {places : Places} → Left (pass_of text m call) written n places → written ≤ length places
left-within text m call e = rw (e.0, e.1.1, pass-places text m call) (written-within text m call)

-- By what two passes differ, from what they left and how many words their machines have.
module _ (text : Text) (contents : Machine) (items : Items) (o₁ o₂ : Order) {written others : ℕ} {m n : Machine} {places spaces : Places} (first : Left (pass_by text contents items o₁) written m places)
    (second : Left (pass_by text contents items o₂) others n spaces) (long : length m ≡ machine_length) {word : ℕ} (found : word ≡ first_different m n) where
  pub says-word : word < machine_length → Word word ≡ difference_shown text contents items o₁ o₂
  unfolding difference_between
  says-word h = rw (← first.1.0, ← second.1.0, ← found, long, lt-ltb word machine_length h)

  pub says-item : machine_length ≤ word → {item : ℕ} → item ≡ first_different (take written places) (take others spaces) → Written item ≡ difference_shown text contents items o₁ o₂
  unfolding difference_between
  says-item h e =
      rw (← first.1.0, ← second.1.0, ← found, long, le-ltb word machine_length h, ← first.0, ← first.1.1, ← second.0, ← second.1.1, e)
