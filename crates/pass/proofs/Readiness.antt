-- A machine and an order that pass the questions are what the generators' stage asks for.
-- Assumes nothing.
use mathlib.Core.Path.{◌≡◌}
use mathlib.Core.List.{[], ◌∷◌}
use native.Mathlib.Omega.{arith}
use Rattle.layout.specs.Machine.{Machine, Order, ticks_of}
use Rattle.layout_texts.specs.declared.Text.{Text}
use Rattle.base_questions.specs.Questions.{asked}
use Rattle.machine.specs.Questions.{question1, question2}
use Rattle.machine.proofs.Asked.{machine-passes}
use Rattle.machine.proofs.ValidMachine.{reaches, valid-generator}
use Rattle.pass_order.specs.Order.{question5, question6}
use Rattle.pass_order.proofs.Entries.{order-passes}
use Rattle.pass_model.proofs.Asked.{few-ticks, entries_below}
use Rattle.pass_generators.specs.AsCoded.{Ready, Numbers}

pub is-ready : (text : Text) (m : Machine) → asked (question1 m ∷ question2 text m ∷ []) ≡ 0 → Ready m
is-ready text m whole =
    let passed = machine-passes text m whole in
    record {
      reaches = reaches m passed.0;
      low = λ g h.
          let s = valid-generator text m passed.1 g h in
          record { gj-low = s.gj; gk-low = s.gk; gq-low = s.gq; gmode-low = s.gmode };
    }

pub are-numbers : (text : Text) (m : Machine) (order : Order) → asked (question1 m ∷ question2 text m ∷ []) ≡ 0 →
    asked (question5 (ticks_of m) order ∷ question6 (ticks_of m) order ∷ []) ≡ 0 → Numbers order
are-numbers text m order whole e =
    record { most = omega (arith, (order-passes (ticks_of m) order e).entries, few-ticks text m order whole); below = entries_below text m order whole e }
