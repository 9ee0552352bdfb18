-- The questions of a pass: asked two by two, as the code asks them, and what a machine and an order that pass them are.
-- Assumes nothing.
use mathlib.Core.Path.{◌≡◌, refl, sym, ◌∙◌}
use mathlib.Core.Logic.{◌≢◌}
use mathlib.Core.Bool.{Bool, true, false, cond}
use mathlib.Core.List.{List, [], ◌∷◌}
use Prim.Native.Nat.{ℕ, ◌<◌, ◌≤◌}
use native.Mathlib.Omega.{arith}
use lib.ListN.{length, get_or}
use borrow.Author.Tests.{ne_eqb, eqb-true, eqb-false, le-leb, lt-leb, leb-true}
use lib.Dec.{eqb}
use Rattle.layout.specs.Layout.{machine_length}
use Rattle.machine.specs.Questions.{question1, question2, valid}
use Rattle.machine.proofs.ValidMachine.{valid-controls}
use Rattle.pass_order.specs.Order.{question5, question6, question7, question8, in_mode}
use Rattle.pass_order.proofs.Entries.{order-passes}
use Rattle.layout_modes.specs.Modes.{read_data, write_data}
use Rattle.pass_model.specs.Pass.{unit_questions, Call, by, refused, pass_refusal, pass_of}
use Rattle.delay_questions.specs.Questions.{memory_good, question10}
use Rattle.machine.proofs.Asked.{machine-passes}
use Rattle.base_questions.specs.Questions.{asked}
use Rattle.layout.specs.Machine.{ticks_of}
use Rattle.layout_texts.specs.declared.Text.{Text}
use Rattle.base_questions.proofs.Asked.{asked-first, asked-later}

-- What a pass may rely on once its questions are answered yes.
module _ (text : Text) (m order : List ℕ) (whole : asked (question1 m ∷ question2 text m ∷ []) ≡ 0) where
  pub is-valid : valid text m ≡ true
  is-valid = (machine-passes text m whole).1

  pub is_whole : length m ≡ machine_length
  is_whole = (machine-passes text m whole).0

  pub few-ticks : ticks_of m ≤ 256
  few-ticks = (valid-controls text m is-valid).t_high

  -- The entries of an order that passes its questions are numbers of generators.
  pub entries_below : asked (question5 (ticks_of m) order ∷ question6 (ticks_of m) order ∷ []) ≡ 0 → (i : ℕ) → i < length order → get_or order i 0 < 256
  entries_below e i h = omega (arith, (order-passes (ticks_of m) order e).below i h, few-ticks)

-- The questions by pairs.
module _ (text : Text) (m : List ℕ) (call : Call) where
  pub refused-first : {n : ℕ} → n ≡ asked (question1 m ∷ question2 text m ∷ []) → n ≢ 0 → n ≡ pass_refusal text m call
  unfolding pass_refusal
  refused-first e h = asked-first (question1 m) (question2 text m) _ e h

  module _ (whole : asked (question1 m ∷ question2 text m ∷ []) ≡ 0) where
    past_first : pass_refusal text m call
        ≡ asked (question5 (ticks_of m) call.order ∷ question6 (ticks_of m) call.order ∷ question7 text m call.items ∷ question8 text m call.places
        ∷ question10 call.memory ∷ unit_questions text m)
    unfolding pass_refusal
    past_first = asked-later (question1 m) (question2 text m) _ (λ e. omega arith) (λ e. omega arith) whole

    pub refused-second : {n : ℕ} → n ≡ asked (question5 (ticks_of m) call.order ∷ question6 (ticks_of m) call.order ∷ []) → n ≢ 0 → n ≡ pass_refusal text m call
    refused-second e h = asked-first (question5 (ticks_of m) call.order) (question6 (ticks_of m) call.order) _ e h ∙ sym past_first

    module _ (ordered : asked (question5 (ticks_of m) call.order ∷ question6 (ticks_of m) call.order ∷ []) ≡ 0) where
      past-second : pass_refusal text m call ≡ asked (question7 text m call.items ∷ question8 text m call.places ∷ question10 call.memory ∷ unit_questions text m)
      past-second =
          past_first
          ∙ asked-later (question5 (ticks_of m) call.order) (question6 (ticks_of m) call.order) _ (λ e. omega arith) (λ e. omega arith) ordered

      pub refused-7 : length call.items < in_mode text m read_data → 7 ≡ pass_refusal text m call
      unfolding asked
      refused-7 h = rw (past-second, lt-leb (in_mode text m read_data) (length call.items) h)

      module _ (h : in_mode text m read_data ≤ length call.items) where
        pub refused-8 : length call.places < in_mode text m write_data → 8 ≡ pass_refusal text m call
        unfolding asked
        refused-8 k = rw (past-second, le-leb (in_mode text m read_data) (length call.items) h, lt-leb (in_mode text m write_data) (length call.places) k)

        module _ (k : in_mode text m write_data ≤ length call.places) where
          past-data : pass_refusal text m call ≡ asked (question10 call.memory ∷ unit_questions text m)
          unfolding asked
          past-data = rw (past-second, le-leb (in_mode text m read_data) (length call.items) h, le-leb (in_mode text m write_data) (length call.places) k)

          pub refused-10 : memory_good call.memory ≡ false → 10 ≡ pass_refusal text m call
          unfolding asked
          refused-10 e = rw (past-data, e)

          -- With a good memory the delay units decide.
          pub past_memory : memory_good call.memory ≡ true → pass_refusal text m call ≡ asked (unit_questions text m)
          unfolding asked
          past_memory e = rw (past-data, e)

-- What a pass that is not refused has answered yes: the questions of the machine, of the order, of what the call brings, and of the delay units.
pub record Answered (text : Text) (m : List ℕ) (call : Call) : Type 0 where
  pub whole : asked (question1 m ∷ question2 text m ∷ []) ≡ 0
  pub ordered : asked (question5 (ticks_of m) call.order ∷ question6 (ticks_of m) call.order ∷ []) ≡ 0
  pub reads : in_mode text m read_data ≤ length call.items
  pub writes : in_mode text m write_data ≤ length call.places
  pub memory : memory_good call.memory ≡ true
  pub units : asked (unit_questions text m) ≡ 0

pub passes : (text : Text) (m : List ℕ) (call : Call) → pass_refusal text m call ≡ 0 → Answered text m call
unfolding pass_refusal asked
passes text m call e = go (question1 m).yes (question2 text m).yes (question5 (ticks_of m) call.order).yes (question6 (ticks_of m) call.order).yes (question7 text m call.items).yes
    (question8 text m call.places).yes (memory_good call.memory) refl refl refl refl refl refl refl e
  where
    rest : ℕ
    rest = asked (unit_questions text m)

    go : (a b c d r w g : Bool) → (question1 m).yes ≡ a → (question2 text m).yes ≡ b → (question5 (ticks_of m) call.order).yes ≡ c → (question6 (ticks_of m) call.order).yes ≡ d
        → (question7 text m call.items).yes ≡ r → (question8 text m call.places).yes ≡ w → memory_good call.memory ≡ g
        → cond a (cond b (cond c (cond d (cond r (cond w (cond g rest 10) 8) 7) 6) 5) 2) 1 ≡ 0 → Answered text m call
    go true true true true true true true ea eb ec ed er ew eg p =
        record {
          whole = rw (ea, eb);
          ordered = rw (ec, ed);
          reads = leb-true (in_mode text m read_data) (length call.items) er;
          writes = leb-true (in_mode text m write_data) (length call.places) ew;
          memory = eg;
          units = p;
        }
    go true true true true true true false ea eb ec ed er ew eg p = absurd (omega arith)
    go true true true true true false g ea eb ec ed er ew eg p = absurd (omega arith)
    go true true true true false w g ea eb ec ed er ew eg p = absurd (omega arith)
    go true true true false r w g ea eb ec ed er ew eg p = absurd (omega arith)
    go true true false d r w g ea eb ec ed er ew eg p = absurd (omega arith)
    go true false c d r w g ea eb ec ed er ew eg p = absurd (omega arith)
    go false b c d r w g ea eb ec ed er ew eg p = absurd (omega arith)

-- A refused pass leaves the machine, the written places and delay memory as they were.
pub refusal-leaves : (text : Text) (m : List ℕ) (call : Call) → pass_refusal text m call ≢ 0 → ((pass_of text m call).machine ≡ m) × ((pass_of text m call).places ≡ call.places) × ((pass_of text m call).memory ≡ call.memory)
unfolding pass_of refused
refusal-leaves text m call h = rw (ne_eqb (pass_refusal text m call) 0 h) (refl, refl, refl)

-- Which question refuses a pass does not depend on the order, of two that pass 5 and 6.
pub same-refusal : (text : Text) (m : List ℕ) (call : Call) (o₁ o₂ : List ℕ) → asked (question5 (ticks_of m) o₁ ∷ question6 (ticks_of m) o₁ ∷ []) ≡ 0
    → asked (question5 (ticks_of m) o₂ ∷ question6 (ticks_of m) o₂ ∷ []) ≡ 0 → pass_refusal text m (by o₁ call) ≡ pass_refusal text m (by o₂ call)
same-refusal text m call o₁ o₂ p q = go (eqb (asked (question1 m ∷ question2 text m ∷ [])) 0) refl
  where
    go : (b : Bool) → eqb (asked (question1 m ∷ question2 text m ∷ [])) 0 ≡ b → pass_refusal text m (by o₁ call) ≡ pass_refusal text m (by o₂ call)
    go true e = let w = eqb-true (asked (question1 m ∷ question2 text m ∷ [])) 0 e in past-second text m (by o₁ call) w p ∙ sym (past-second text m (by o₂ call) w q)
    go false e =
        let n = eqb-false (asked (question1 m ∷ question2 text m ∷ [])) 0 e in
        sym (refused-first text m (by o₁ call) refl n) ∙ refused-first text m (by o₂ call) refl n
