-- Without commands each pass and its update keep the settings, so that two orders that are equal leave the same in each pass.
-- Assumes nothing.
use mathlib.Core.Path.{◌≡◌, refl, sym, ap, ap₂, subst, ◌∙◌}
use mathlib.Core.Logic.{◌≢◌}
use mathlib.Core.Bool.{Bool, true, false, cond}
use mathlib.Core.List.{List, [], ◌∷◌}
use Prim.Native.Nat.{ℕ, zero, suc, ◌+◌, ◌%◌, ◌^◌, ◌≤◌, ◌<◌}
use native.Mathlib.Omega.{arith}
use borrow.Author.Tests.{eqb-true, eqb-false, ne_eqb}
use lib.Dec.{eqb}
use lib.ListN.{length, get_or, set}
use lib.Seq.{get_or-set_other}
use Rattle.layout.specs.Layout.{lingering_at, t_at, generator_at, GSUM, GFM, GMODE, GN}
use Rattle.layout.specs.Machine.{Machine, Order, Memory, ticks_of}
use Rattle.layout_texts.specs.declared.Text.{Text}
use Rattle.layout_texts.specs.declared.Text.TheVariants.{Of1978, Old}
use Rattle.layout_old_modes.specs.OldModes.{negative_gn}
use Rattle.base_questions.specs.Questions.{asked}
use Rattle.machine.specs.Questions.{question1, question2}
use Rattle.pass_order.specs.Order.{question5, question6}
use Rattle.pass_model.specs.Pass.{Outcome as Pass, Call, pass_of}
use Rattle.pass_model.proofs.Asked.{is_whole, is-valid, few-ticks, same-refusal}
use Rattle.pass_laws.specs.Good.{Good}
use Rattle.pass_laws.proofs.Passing.{pass-number}
use Rattle.pass_laws.proofs.PassValid.{pass-valid}
use Rattle.command_update.specs.Update.{UpdateOutcome}
use Rattle.compare_agreement.specs.Agreement.{Agree}
use Rattle.equal_orders.specs.Equal.{SameSending, SameSettings, Enough, SameEnd, Equal}
use Rattle.equal_orders.proofs.Theorem.{demand-3}
use Rattle.equal_any_order.specs.EveryOrder.{Passes}
use Rattle.equal_ringings.specs.Ringings.{NoneWaits}
use Rattle.equal_ringings.proofs.Throughout.{settings-on, none-waits-same, settings-kept}
use Rattle.ring_pass.specs.BenchPass.{Ordering, bench_call, passed}
use Rattle.ring_pass.proofs.Asked.{answered}
use Rattle.ring_steps.specs.Heard.{update_after, Heard, heard_after, heard_refused, heard}
use Rattle.ring_steps.proofs.Updates.{update-after-valid, update-after-length, none_after, left_after}
use Rattle.ring_begin.proofs.AnyOrdering.{any-ordering}

-- A machine whose lingering ended has its settings.
module _ (m : Machine) where
  abbrev ended : Machine
  ended = set m lingering_at 0

  kept : (i : ℕ) → i < 2816 → get_or m i 0 ≡ get_or ended i 0
  kept i h = sym (get_or-set_other m lingering_at i 0 0 (λ e. omega (arith, e, h)))

  ended-sending : (text : Text) (g : ℕ) → g < 256 → SameSending text m ended g
  ended-sending Of1978 g h = λ e. ap (λ (x : ℕ). x % 2 ^ 4) (kept (generator_at g) (omega arith))
  ended-sending Old g h =
      let k = kept (generator_at g + GN) (omega arith) in
      λ e. (ap negative_gn k, ap (λ (x : ℕ). x % 2 ^ 4) k)

  ended-settings : (text : Text) → SameSettings text m ended
  ended-settings text =
      record {
        ticks = sym (get_or-set_other m lingering_at t_at 0 0 (eqb-false t_at lingering_at refl));
        modes = λ g h. kept (generator_at g + GMODE) (omega arith);
        words = λ g h. kept (generator_at g + GSUM) (omega arith);
        inputs = λ g h. kept (generator_at g + GFM) (omega arith);
        sending = λ g h. ended-sending text g h;
      }

same-settings : (text : Text) (m : Machine) → SameSettings text m m
same-settings text m = record { ticks = refl; modes = λ g h. refl; words = λ g h. refl; inputs = λ g h. refl; sending = λ g h. same-sending text g }
  where
    same-sending : (text : Text) (g : ℕ) → SameSending text m m g
    same-sending Of1978 g = λ e. refl
    same-sending Old g = λ e. (refl, refl)

-- After an update without commands: no command is left, and the settings are as before it.
nothing_left : (l : List ℕ) → length l ≤ 0 → l ≡ []
nothing_left [] h = refl
nothing_left (x ∷ l) h = absurd (omega (arith, h))

module _ (text : Text) (m : Machine) where
  abbrev then : UpdateOutcome
  then = update_after text m []

  then-rest : then.rest ≡ []
  then-rest = nothing_left then.rest (left_after text m [])

  then-settings : SameSettings text m then.machine
  then-settings = none_after text (λ l. SameSettings text m l) m [] (omega arith) (same-settings text m) (ended-settings m text)

  then-good : Good text m → Good text then.machine
  then-good g = record { whole = update-after-length text m [] ∙ g.whole; is-valid = update-after-valid text m [] g.is-valid }

-- What is heard of a pass by what it answered and left, and after it.
module _ (text : Text) (n : ℕ) where
  pub first_heard : Ordering → ℕ → Machine → Memory → Heard
  first_heard by number m memory =
      let u = update_after text m [] in
      cond (eqb number 0) (cond (eqb u.number 0) (heard_after u.machine (heard text by n u.machine memory [])) (heard_refused u.number)) (heard_refused number)

  heard-first : (by : Ordering) (m : Machine) (memory : Memory) → let p = passed text by m memory in
      heard text by (suc n) m memory [] ≡ first_heard by p.number p.machine p.memory
  unfolding heard first_heard
  heard-first by m memory = rw (then-rest text (passed text by m memory).machine)

  first-refused : (by : Ordering) (number : ℕ) (m : Machine) (memory : Memory) → number ≢ 0 → first_heard by number m memory ≡ heard_refused number
  unfolding first_heard
  first-refused by number m memory h = rw (ne_eqb number 0 h)

  first_alike : (by₁ by₂ : Ordering) (number : ℕ) (m : Machine) (memory : Memory) → let l = (update_after text m []).machine in
      heard text by₁ n l memory [] ≡ heard text by₂ n l memory [] → first_heard by₁ number m memory ≡ first_heard by₂ number m memory
  unfolding first_heard
  first_alike by₁ by₂ number m memory e =
      let u = update_after text m [] in
      ap (λ (h : Heard). cond (eqb number 0) (cond (eqb u.number 0) (heard_after u.machine h) (heard_refused u.number)) (heard_refused number)) e

-- Two orderings whose orders for the T of a first machine are equal.
module _ (text : Text) (first : Machine) (quiet : NoneWaits text first) (few : ticks_of first ≤ 256) (by₁ by₂ : Ordering) (p₁ : Passes first (by₁ (ticks_of first)))
    (p₂ : Passes first (by₂ (ticks_of first))) (equal : Equal text first (by₁ (ticks_of first)) (by₂ (ticks_of first))) where
  -- A machine with the settings of the first.
  module _ (m : Machine) (memory : Memory) (good : Good text m) (s : SameSettings text first m) where
    passes-here : (by : Ordering) → Passes first (by (ticks_of first)) → Passes m (by (ticks_of m))
    passes-here by p = subst (λ (t : ℕ). asked (question5 t (by t) ∷ question6 t (by t) ∷ []) ≡ 0) s.ticks p

    same_number : (passed text by₁ m memory).number ≡ (passed text by₂ m memory).number
    same_number =
        pass-number text m (bench_call by₁ m memory)
        ∙ same-refusal text m (bench_call by₁ m memory) (by₁ (ticks_of m)) (by₂ (ticks_of m)) (passes-here by₁ p₁) (passes-here by₂ p₂)
        ∙ sym (pass-number text m (bench_call by₂ m memory))

    abbrev call_by : Order → Call
    call_by o = record { order = o; items = []; places = []; memory = memory }

    by_first : (by : Ordering) → passed text by m memory ≡ pass_of text m (call_by (by (ticks_of first)))
    by_first by = ap (λ (t : ℕ). pass_of text m (call_by (by t))) (sym s.ticks)

    -- A pass that none refuses leaves the same by both.
    module _ (z : (passed text by₁ m memory).number ≡ 0) where
      enough : Enough text m (call_by [])
      enough =
          let a = answered text by₁ m memory z in
          record { items = λ i h. absurd (omega (arith, h)); places = λ i h. absurd (omega (arith, h)); reads = a.reads; writes = a.writes }

      end : SameEnd (pass_of text m (call_by (by₁ (ticks_of first)))) (pass_of text m (call_by (by₂ (ticks_of first))))
      end = equal m good s (call_by []) enough

      same-machine : (passed text by₁ m memory).machine ≡ (passed text by₂ m memory).machine
      same-machine = ap (λ (p : Pass). p.machine) (by_first by₁) ∙ end.machine ∙ sym (ap (λ (p : Pass). p.machine) (by_first by₂))

      same_memory : (passed text by₁ m memory).memory ≡ (passed text by₂ m memory).memory
      same_memory = ap (λ (p : Pass). p.memory) (by_first by₁) ∙ end.memory ∙ sym (ap (λ (p : Pass). p.memory) (by_first by₂))

      -- So does what follows it, and the settings are kept.
      abbrev next : Machine
      next = (update_after text (passed text by₁ m memory).machine []).machine

      next-good : Good text next
      next-good = then-good text (passed text by₁ m memory).machine (pass-valid text m (bench_call by₁ m memory) good)

      next-settings : SameSettings text first next
      next-settings =
          let last = (passed text by₁ m memory).machine in
          let calm = none-waits-same text first m s few quiet in
          settings-on text first last next (settings-on text first m last s (settings-kept text m good calm (bench_call by₁ m memory))) (then-settings text last)

    more-heard : (n : ℕ) → ((z : (passed text by₁ m memory).number ≡ 0) → heard text by₁ n (next z) (passed text by₁ m memory).memory [] ≡ heard text by₂ n (next z) (passed text by₁ m memory).memory [])
        → heard text by₁ (suc n) m memory [] ≡ heard text by₂ (suc n) m memory []
    more-heard n rest = heard-first text n by₁ m memory ∙ go (eqb a.number 0) refl ∙ sym (heard-first text n by₂ m memory)
      where
        a : Pass
        a = passed text by₁ m memory

        b : Pass
        b = passed text by₂ m memory

        go : (x : Bool) → eqb a.number 0 ≡ x → first_heard text n by₁ a.number a.machine a.memory ≡ first_heard text n by₂ b.number b.machine b.memory
        go true e =
            let z = eqb-true a.number 0 e in
            first_alike text n by₁ by₂ a.number a.machine a.memory (rest z)
            ∙ ap (λ (k : ℕ). first_heard text n by₂ k a.machine a.memory) same_number
            ∙ ap₂ (λ (l : Machine) (y : Memory). first_heard text n by₂ b.number l y) (same-machine z) (same_memory z)
        go false e =
            let h = eqb-false a.number 0 e in
            first-refused text n by₁ a.number a.machine a.memory h
            ∙ ap heard_refused same_number
            ∙ sym (first-refused text n by₂ b.number b.machine b.memory (λ z. h (same_number ∙ z)))

  same-heard : (n : ℕ) (m : Machine) (memory : Memory) → Good text m → SameSettings text first m → heard text by₁ n m memory [] ≡ heard text by₂ n m memory []
  unfolding heard
  same-heard zero m memory good s = refl
  same-heard (suc n) m memory good s =
      more-heard m memory good s n (λ z. same-heard n (next m memory good s z) (passed text by₁ m memory).memory (next-good m memory good s z) (next-settings m memory good s z))

-- With demand 3: orders that agree; and a machine that questions 1 and 2 refuse is heard alike by any ordering.
pub agreeing-heard : (text : Text) (by₁ by₂ : Ordering) (n : ℕ) (m : Machine) (memory : Memory) → NoneWaits text m → Passes m (by₁ (ticks_of m)) → Passes m (by₂ (ticks_of m))
    → Agree text m (by₁ (ticks_of m)) (by₂ (ticks_of m)) → heard text by₁ n m memory [] ≡ heard text by₂ n m memory []
agreeing-heard text by₁ by₂ n m memory quiet p₁ p₂ agree = go (eqb (asked (question1 m ∷ question2 text m ∷ [])) 0) refl
  where
    go : (b : Bool) → eqb (asked (question1 m ∷ question2 text m ∷ [])) 0 ≡ b → heard text by₁ n m memory [] ≡ heard text by₂ n m memory []
    go true e =
        let q = eqb-true (asked (question1 m ∷ question2 text m ∷ [])) 0 e in
        let good : Good text m = record { whole = is_whole text m [] q; is-valid = is-valid text m [] q } in
        same-heard text m quiet (few-ticks text m [] q) by₁ by₂ p₁ p₂ ((demand-3 text m good (by₁ (ticks_of m)) (by₂ (ticks_of m)) p₁ p₂).1 agree) n m memory good (same-settings text m)
    go false e = any-ordering text m memory [] (eqb-false (asked (question1 m ∷ question2 text m ∷ [])) 0 e) by₁ by₂ n
