-- What passes in sequence keep, and that they may be taken in parts.
-- Assumes nothing.
use mathlib.Core.Path.{◌≡◌, refl, sym, ap, ◌∙◌}
use mathlib.Core.Bool.{true}
use mathlib.Core.List.{List, [], ◌∷◌, ◌++◌}
use Prim.Native.Nat.{ℕ, zero, suc, ◌+◌}
use native.Mathlib.Nat.{zero-add, suc-add}
use lib.ListN.{replicate}
use Rattle.layout.specs.Machine.{Machine, Order, Memory, ticks_of}
use Rattle.layout_texts.specs.declared.Text.{Text}
use Rattle.delay_questions.specs.Questions.{memory_good}
use Rattle.pass_model.specs.Pass.{written_data, pass_of}
use Rattle.pass_laws.specs.Good.{Good}
use Rattle.pass_laws.specs.Passes.{PassData, call_of, Rung, rung_by, no_data, passes_by_number}
use Rattle.pass_laws.proofs.PassValid.{pass-valid}
use Rattle.pass_laws.proofs.PassDelays.{pass-memory}
use Rattle.pass_laws.proofs.PassSettings.{pass-settings}
use Rattle.base_sequences.specs.Sequences.{by_number}

module _ (text : Text) (order : Order) where
  -- Questions 1, 2 and 10 stay answered yes.
  pub rung-valid : (ds : List PassData) (m : Machine) (memory : Memory) → Good text m → Good text (rung_by text order m memory ds).machine
  unfolding rung_by
  rung-valid [] m memory good = good
  rung-valid (d ∷ ds) m memory good =
      let r = pass_of text m (call_of order memory d) in
      rung-valid ds r.machine r.memory (pass-valid text m (call_of order memory d) good)

  pub rung-memory : (ds : List PassData) (m : Machine) (memory : Memory) → memory_good memory ≡ true → memory_good (rung_by text order m memory ds).memory ≡ true
  unfolding rung_by
  rung-memory [] m memory good = good
  rung-memory (d ∷ ds) m memory good =
      let r = pass_of text m (call_of order memory d) in
      rung-memory ds r.machine r.memory (pass-memory text m (call_of order memory d) good)

  -- Some passes, then more from what they leave, are all of them.
  abbrev pub after : Rung → List PassData → Rung
  after r ds =
      let rest = rung_by text order r.machine r.memory ds in
      record { machine = rest.machine; memory = rest.memory; written = r.written ++ rest.written }

  pub rung-parts : (ds es : List PassData) (m : Machine) (memory : Memory) → rung_by text order m memory (ds ++ es) ≡ after (rung_by text order m memory ds) es
  unfolding rung_by
  rung-parts [] es m memory = refl
  rung-parts (d ∷ ds) es m memory =
      let r = pass_of text m (call_of order memory d) in
      ap (λ (x : Rung). record { machine = x.machine; memory = x.memory; written = written_data r ∷ x.written }) (rung-parts ds es r.machine r.memory)

  -- T stays.
  pub rung-ticks : (ds : List PassData) (m : Machine) (memory : Memory) → ticks_of (rung_by text order m memory ds).machine ≡ ticks_of m
  unfolding rung_by
  rung-ticks [] m memory = refl
  rung-ticks (d ∷ ds) m memory =
      let r = pass_of text m (call_of order memory d) in
      rung-ticks ds r.machine r.memory ∙ (pass-settings text m (call_of order memory d)).t

-- Passes by number may be taken in parts too.
more-passes : (k n : ℕ) → replicate (k + n) no_data ≡ replicate k no_data ++ replicate n no_data
more-passes zero n = ap (λ (i : ℕ). replicate i no_data) (zero-add n)
more-passes (suc k) n = ap (λ (i : ℕ). replicate i no_data) (suc-add k n) ∙ ap (λ (ds : List PassData). no_data ∷ ds) (more-passes k n)

pub by-number-parts : (text : Text) (k n : ℕ) (m : Machine) (memory : Memory)
    → (passes_by_number text (k + n) m memory).machine ≡ (passes_by_number text n (passes_by_number text k m memory).machine (passes_by_number text k m memory).memory).machine
by-number-parts text k n m memory =
    let first = passes_by_number text k m memory in
    ap (λ (ds : List PassData). (rung_by text (by_number (ticks_of m)) m memory ds).machine) (more-passes k n)
    ∙ ap (λ (r : Rung). r.machine) (rung-parts text (by_number (ticks_of m)) (replicate k no_data) (replicate n no_data) m memory)
    ∙ ap (λ (t : ℕ). (rung_by text (by_number t) first.machine first.memory (replicate n no_data)).machine)
    (sym (rung-ticks text (by_number (ticks_of m)) (replicate k no_data) m memory))

-- The first of some passes by number, and the others.
pub by-number-first : (text : Text) (n : ℕ) (m : Machine) (memory : Memory)
    → (passes_by_number text (suc n) m memory).machine
    ≡ (passes_by_number text n (pass_of text m (call_of (by_number (ticks_of m)) memory no_data)).machine (pass_of text m (call_of (by_number (ticks_of m)) memory no_data)).memory).machine
unfolding rung_by
by-number-first text n m memory =
    let r = pass_of text m (call_of (by_number (ticks_of m)) memory no_data) in
    ap (λ (t : ℕ). (rung_by text (by_number t) r.machine r.memory (replicate n no_data)).machine) (sym (pass-settings text m (call_of (by_number (ticks_of m)) memory no_data)).t)

pub by-number-none : (text : Text) (m : Machine) (memory : Memory) → (passes_by_number text 0 m memory).machine ≡ m
unfolding rung_by
by-number-none text m memory = refl
