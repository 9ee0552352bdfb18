-- What is heard without commands, from a machine that isn't lingering, are the machines of passes in sequence, up to the first refusal.
-- Assumes nothing.
use mathlib.Core.Path.{◌≡◌, refl, sym, ap, ◌∙◌}
use mathlib.Core.Bool.{Bool, true, false, cond, not, ◌&&◌}
use mathlib.Core.List.{List, [], ◌∷◌}
use Prim.Native.Nat.{ℕ, zero, suc, ◌<◌}
use native.Mathlib.Omega.{arith}
use native.Mathlib.Nat.{not-suc-le-zero, le_of_suc-le-suc}
use borrow.Author.Tests.{eqb-true, eqb-false}
use lib.Dec.{eqb}
use lib.ListN.{length, get_or, set, replicate, length-set}
use lib.Seq.{get_or-set_same, get_or-set_other, ext_get_or}
use Rattle.layout.specs.Layout.{lingering_at, linger_pass_at}
use Rattle.layout.specs.Machine.{Machine, Memory, Commands, low_counter, ticks_of}
use Rattle.layout_texts.specs.declared.Text.{Text}
use Rattle.layout_texts.specs.declared.Text.TheVariants.{Of1978, Old}
use Rattle.base_questions.specs.Questions.{asked}
use Rattle.machine.specs.Questions.{question1, question2}
use Rattle.pass_model.specs.Pass.{Outcome as Pass}
use Rattle.pass_laws.specs.Passes.{no_data, rung_by}
use Rattle.pass_laws.proofs.PassSettings.{pass-settings}
use Rattle.command_update.specs.Update.{UpdateOutcome, outcome, most_commands, still_lingering, commands_taken_by, update_of}
use Rattle.ring_pass.specs.BenchPass.{Ordering, bench_call, passed}
use Rattle.ring_steps.specs.Heard.{update_after, Heard, heard_after, heard_refused, heard}

-- A word that is put where it stands already.
put-again : (m : List ℕ) (i : ℕ) → set m i (get_or m i 0) ≡ m
put-again m i = ext_get_or 0 (set m i (get_or m i 0)) m (length-set m i (get_or m i 0)) (λ k h. at k (omega (arith, h, length-set m i (get_or m i 0))) (eqb k i) refl)
  where
    at : (k : ℕ) → k < length m → (b : Bool) → eqb k i ≡ b → get_or (set m i (get_or m i 0)) k 0 ≡ get_or m k 0
    at k h true e = let q = eqb-true k i e in rw q (get_or-set_same m i (get_or m i 0) 0 (rw q at h))
    at k h false e = get_or-set_other m i k (get_or m i 0) 0 (eqb-false k i e)

-- Without commands nothing is taken.
none-taken : (n : ℕ) (m : Machine) → commands_taken_by n m [] ≡ outcome 0 m []
unfolding commands_taken_by
none-taken zero m = refl
none-taken (suc n) m = refl

-- An update without commands leaves a machine that isn't lingering as it is.
update-nothing : (m : Machine) → get_or m lingering_at 0 ≡ 0 → ((update_of m []).machine ≡ m) × ((update_of m []).rest ≡ [])
unfolding update_of still_lingering
update-nothing m e = go (eqb (asked (question1 m ∷ question2 Of1978 m ∷ [])) 0)
  where
    ends : set m lingering_at 0 ≡ m
    ends = rw e at (put-again m lingering_at)

    go : (b : Bool)
        → ((cond b (cond (eqb (get_or m lingering_at 0) 1 && not (eqb (low_counter m) (get_or m linger_pass_at 0))) (outcome 0 m []) (commands_taken_by (most_commands m) (set m lingering_at 0) []))
        (outcome (asked (question1 m ∷ question2 Of1978 m ∷ [])) m [])).machine ≡ m)
        × ((cond b (cond (eqb (get_or m lingering_at 0) 1 && not (eqb (low_counter m) (get_or m linger_pass_at 0))) (outcome 0 m []) (commands_taken_by (most_commands m) (set m lingering_at 0) []))
        (outcome (asked (question1 m ∷ question2 Of1978 m ∷ [])) m [])).rest ≡ [])
    go true = rw (e, ends, none-taken (most_commands m) m) (refl, refl)
    go false = (refl, refl)

after_nothing : (text : Text) (m : Machine) → get_or m lingering_at 0 ≡ 0 → ((update_after text m []).machine ≡ m) × ((update_after text m []).rest ≡ [])
after_nothing Of1978 m e = update-nothing m e
after_nothing Old m e = (refl, refl)

none-heard : (text : Text) (by : Ordering) (m : Machine) (memory : Memory) (k : ℕ) → k < length (heard text by 0 m memory []).machines → ⊥
unfolding heard
none-heard text by m memory k h = not-suc-le-zero h

-- So many passes in sequence, by the order for the T of the first machine, which no pass changes.
abbrev sequence : Text → Ordering → ℕ → Machine → Memory → Machine
sequence text by n m memory = (rung_by text (by (ticks_of m)) m memory (replicate n no_data)).machine

sequence-first : (text : Text) (by : Ordering) (n : ℕ) (m : Machine) (memory : Memory)
    → sequence text by (suc n) m memory ≡ sequence text by n (passed text by m memory).machine (passed text by m memory).memory
unfolding rung_by
sequence-first text by n m memory =
    let r = passed text by m memory in
    ap (λ (t : ℕ). (rung_by text (by t) r.machine r.memory (replicate n no_data)).machine) (sym (pass-settings text m (bench_call by m memory)).t)

sequence-none : (text : Text) (by : Ordering) (m : Machine) (memory : Memory) → sequence text by 0 m memory ≡ m
unfolding rung_by
sequence-none text by m memory = refl

-- One pass more, where those after it are as they should be.
module _ (text : Text) (by : Ordering) (n : ℕ) (m : Machine) (memory : Memory) where
  abbrev p : Pass
  p = passed text by m memory

  first-heard : get_or m lingering_at 0 ≡ 0
      → ((k : ℕ) → k < length (heard text by n p.machine p.memory []).machines
      → get_or (heard text by n p.machine p.memory []).machines k [] ≡ sequence text by (suc k) p.machine p.memory)
      → (k : ℕ) → k < length (heard text by (suc n) m memory []).machines → get_or (heard text by (suc n) m memory []).machines k [] ≡ sequence text by (suc k) m memory
  unfolding heard
  first-heard e others k h = go (eqb p.number 0) (eqb u.number 0) k h
    where
      u : UpdateOutcome
      u = update_after text p.machine []

      done : (u.machine ≡ p.machine) × (u.rest ≡ [])
      done = after_nothing text p.machine ((pass-settings text m (bench_call by m memory)).lingering ∙ e)

      same : heard text by n u.machine p.memory u.rest ≡ heard text by n p.machine p.memory []
      same = rw (done.0, done.1)

      go : (x y : Bool) (k : ℕ) → k < length (cond x (cond y (heard_after u.machine (heard text by n u.machine p.memory u.rest)) (heard_refused u.number)) (heard_refused p.number)).machines
          → get_or (cond x (cond y (heard_after u.machine (heard text by n u.machine p.memory u.rest)) (heard_refused u.number)) (heard_refused p.number)).machines k []
          ≡ sequence text by (suc k) m memory
      go true true zero l = done.0 ∙ sym (sequence-first text by 0 m memory ∙ sequence-none text by p.machine p.memory)
      go true true (suc k) l =
          ap (λ (r : Heard). get_or r.machines k []) same
          ∙ others k (rw same at (le_of_suc-le-suc l))
          ∙ sym (sequence-first text by (suc k) m memory)
      go true false k l = absurd (not-suc-le-zero l)
      go false y k l = absurd (not-suc-le-zero l)

  one_more : (commands : Commands) → ((rest : Commands) (l : Machine) → (heard text by n l p.memory rest).number ≡ 0 → length (heard text by n l p.memory rest).machines ≡ n)
      → (heard text by (suc n) m memory commands).number ≡ 0 → length (heard text by (suc n) m memory commands).machines ≡ suc n
  unfolding heard
  one_more commands others e = go (eqb p.number 0) (eqb u.number 0) refl refl e
    where
      u : UpdateOutcome
      u = update_after text p.machine commands

      go : (x y : Bool) → eqb p.number 0 ≡ x → eqb u.number 0 ≡ y
          → (cond x (cond y (heard_after u.machine (heard text by n u.machine p.memory u.rest)) (heard_refused u.number)) (heard_refused p.number)).number ≡ 0
          → length (cond x (cond y (heard_after u.machine (heard text by n u.machine p.memory u.rest)) (heard_refused u.number)) (heard_refused p.number)).machines ≡ suc n
      go true true q r z = ap suc (others u.rest u.machine z)
      go true false q r z = absurd (eqb-false u.number 0 r z)
      go false y q r z = absurd (eqb-false p.number 0 q z)

-- The machine after pass k + 1, where that is heard, is the one after k + 1 passes in sequence.
pub heard-passes : (text : Text) (by : Ordering) (n : ℕ) (m : Machine) (memory : Memory) → get_or m lingering_at 0 ≡ 0 → (k : ℕ) → k < length (heard text by n m memory []).machines
    → get_or (heard text by n m memory []).machines k [] ≡ (rung_by text (by (ticks_of m)) m memory (replicate (suc k) no_data)).machine
heard-passes text by zero m memory e k h = absurd (none-heard text by m memory k h)
heard-passes text by (suc n) m memory e k h =
    let r = passed text by m memory in
    first-heard text by n m memory e (λ i l. heard-passes text by n r.machine r.memory ((pass-settings text m (bench_call by m memory)).lingering ∙ e) i l) k h

-- Where nothing is refused, each pass is heard.
pub heard_all : (text : Text) (by : Ordering) (n : ℕ) (m : Machine) (memory : Memory) (commands : Commands) → (heard text by n m memory commands).number ≡ 0 → length (heard text by n m memory commands).machines ≡ n
unfolding heard
heard_all text by zero m memory commands e = refl
heard_all text by (suc n) m memory commands e =
    one_more text by n m memory commands (λ rest l z. heard_all text by n l (passed text by m memory).memory rest z) e
