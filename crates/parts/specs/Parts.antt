-- The answer of the call that says what parts two orders (document 02, Q-8).
-- Assumes nothing.
use Rattle.std.specs.Prelude.{ℕ, Option, None, Some, Result, Ok, Err, cond, [], ◌∷◌, eqb}
use Rattle.layout.specs.Machine.{Machine, Order, Items, ticks_of}
use Rattle.layout_texts.specs.declared.Text.{Text}
use Rattle.base_questions.specs.Questions.{asked}
use Rattle.base_questions.specs.declared.Refusal.{Refusal}
use Rattle.base_questions.specs.Refusals.{number_of}
use Rattle.machine.specs.Questions.{question1, question2}
use Rattle.pass_order.specs.Order.{question5, question6, question7}
use Rattle.compare_agreement.specs.Agreement.{settings_of}
use Rattle.compare_agreement.specs.Points.{Failing, first_point}
use Rattle.parts_model.specs.Contents.{contents_for, items_for}
use Rattle.parts.specs.declared.Parted.{Parted}

-- What the call answers: the number of the refusing question or 0; the first point that fails, 1 to 4, and the lowest place at which it fails, both 0 for equal orders
-- and in a refusal; and what the run and the read list for the contents hold afterwards.
pub record Parting : Type 0 where
  pub number : ℕ
  pub point : ℕ
  pub place : ℕ
  pub contents : Machine
  pub items : Items

-- What the call answers, as the number of the refusing question or 0 and the point or 0, beside what the run and the read list hold.
abbrev pub parting_of : Result (Option Parted) Refusal → Machine → Items → Parting
parting_of (Ok (Some p)) contents items = record { number = 0; point = p.point; place = p.place; contents = contents; items = items }
parting_of (Ok None) contents items = record { number = 0; point = 0; place = 0; contents = contents; items = items }
parting_of (Err refusal) contents items = record { number = number_of refusal; point = 0; place = 0; contents = contents; items = items }

-- The questions of the call, in sequence: those of a compare, 1 of the run for the contents, and 7 of the read list, asked also where the orders are equal.
unfoldable pub parts_refusal : Text → Machine → Order → Order → Machine → Items → ℕ
parts_refusal text m o₁ o₂ contents items =
    asked
    (question1 m
    ∷ question2 text m
    ∷ question5 (ticks_of m) o₁
    ∷ question6 (ticks_of m) o₁
    ∷ question5 (ticks_of m) o₂
    ∷ question6 (ticks_of m) o₂
    ∷ question1 contents
    ∷ question7 text m items
    ∷ [])

-- A refused call changes nothing.
abbrev pub parts_refused : ℕ → Machine → Items → Parting
parts_refused n contents items = record { number = n; point = 0; place = 0; contents = contents; items = items }

-- The contents and the items by the first point that fails; where none does, the run and the list stay.
abbrev pub shown : Text → Machine → Failing → Machine → Items → Parting
shown text m f contents items =
    record {
      number = 0;
      point = f.point;
      place = f.place;
      contents = cond (eqb f.point 0) contents (contents_for text m f.point f.sounding);
      items = cond (eqb f.point 0) items (items_for text m f.point f.sounding items);
    }

-- What parts two orders of a machine's generators.
unfoldable pub parts_of : Text → Machine → Order → Order → Machine → Items → Parting
parts_of text m o₁ o₂ contents items =
    let n = parts_refusal text m o₁ o₂ contents items in
    cond (eqb n 0) (shown text m (first_point (settings_of text m) o₁ o₂) contents items) (parts_refused n contents items)
