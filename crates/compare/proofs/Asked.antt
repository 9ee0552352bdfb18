-- The questions of a compare as the code asks them, two by two: the first pair that refuses gives the number, and all three passed give what the points need.
-- Assumes nothing.
use mathlib.Core.Path.{◌≡◌, sym, ◌∙◌}
use mathlib.Core.Logic.{◌≢◌}
use mathlib.Core.List.{[], ◌∷◌}
use Prim.Native.Nat.{ℕ}
use native.Mathlib.Omega.{arith}
use Rattle.machine.specs.Questions.{question1, question2}
use Rattle.machine.proofs.ValidMachine.{reaches, valid-generator, valid-controls}
use Rattle.pass_order.specs.Order.{question5, question6, IsOrder}
use Rattle.pass_order.proofs.Entries.{order-passes}
use Rattle.compare_traces.specs.AsCoded.{Traceable}
use Rattle.machine.proofs.Asked.{machine-passes}
use Rattle.compare.specs.Compare.{compare_refusal}
use Rattle.compare.proofs.Answers.{compare-passes}
use Rattle.base_questions.specs.Questions.{asked}
use Rattle.layout.specs.Machine.{Machine, Order, ticks_of}
use Rattle.layout_texts.specs.declared.Text.{Text}
use Rattle.base_questions.proofs.Asked.{asked-first, asked-later}

-- A machine that passes questions 1 and 2.
pub is-traceable : (text : Text) (m : Machine) → asked (question1 m ∷ question2 text m ∷ []) ≡ 0 → Traceable m
is-traceable text m e =
    let passed = machine-passes text m e in
    record {
      reaches = reaches m passed.0;
      ticks = (valid-controls text m passed.1).t_high;
      gsums = λ g h. (valid-generator text m passed.1 g h).gsum;
      gmodes = record { gmodes = λ g h. (valid-generator text m passed.1 g h).gmode };
    }

-- The questions by pairs.
module _ (text : Text) (m : Machine) (first second : Order) where
  pub refused-first : {n : ℕ} → n ≡ asked (question1 m ∷ question2 text m ∷ []) → n ≢ 0 → n ≡ compare_refusal text m first second
  unfolding compare_refusal
  refused-first e h = asked-first (question1 m) (question2 text m) _ e h

  module _ (whole : asked (question1 m ∷ question2 text m ∷ []) ≡ 0) where
    past_first : compare_refusal text m first second
        ≡ asked
        (question5 (ticks_of m) first ∷ question6 (ticks_of m) first ∷ question5 (ticks_of m) second ∷ question6 (ticks_of m) second ∷ [])
    unfolding compare_refusal
    past_first = asked-later (question1 m) (question2 text m) _ (λ e. omega arith) (λ e. omega arith) whole

    pub refused-second : {n : ℕ} → n ≡ asked (question5 (ticks_of m) first ∷ question6 (ticks_of m) first ∷ []) → n ≢ 0 → n ≡ compare_refusal text m first second
    refused-second e h = asked-first (question5 (ticks_of m) first) (question6 (ticks_of m) first) _ e h ∙ sym past_first

    pub refused-third : {n : ℕ} → asked (question5 (ticks_of m) first ∷ question6 (ticks_of m) first ∷ []) ≡ 0
        → n ≡ asked (question5 (ticks_of m) second ∷ question6 (ticks_of m) second ∷ []) → n ≡ compare_refusal text m first second
    refused-third ordered e =
        e
        ∙ sym (past_first
        ∙ asked-later (question5 (ticks_of m) first) (question6 (ticks_of m) first) _ (λ e. omega arith) (λ e. omega arith) ordered)

-- A compare that is not refused has a machine and two orders of which traces can be made.
pub record Comparable (m : Machine) (first second : Order) : Type 0 where
  pub traceable : Traceable m
  pub ordered : IsOrder (ticks_of m) first × IsOrder (ticks_of m) second

pub is-comparable : (text : Text) (m : Machine) (first second : Order) → compare_refusal text m first second ≡ 0 → Comparable m first second
is-comparable text m first second e =
    let p = compare-passes text m first second e in
    record {
      traceable = is-traceable text m p.machine;
      ordered = (order-passes (ticks_of m) first p.first, order-passes (ticks_of m) second p.second);
    }
