-- The pass of the bench (document 01, "Bench file"; document 02, Q-1).
-- Assumes nothing.
use Rattle.std.specs.Prelude.{ℕ, Option, None, Some, [], ◌∷◌}
use Rattle.base_sequences.specs.Sequences.{by_number}
use Rattle.layout.specs.Machine.{Machine, Memory, Order, ticks_of}
use Rattle.layout_texts.specs.declared.Text.{Text}
use Rattle.base_questions.specs.Questions.{asked}
use Rattle.pass_order.specs.Order.{question5, question6, question7, question8}
use Rattle.pass_model.specs.Pass.{unit_questions, Call, Outcome, pass_of}

-- An ordering: the order that a pass goes by, for the T of its machine. Document 01's is `by_number`.
abbrev pub Ordering : Type 0
Ordering = ℕ → Order

-- One order in every pass, whatever T is.
abbrev pub throughout : Order → Ordering
throughout order = λ t. order

-- An order that is given, used throughout; else by number.
abbrev pub ordering_of : Option Order → Ordering
ordering_of (Some order) = throughout order
ordering_of None = by_number

-- A call by an ordering, with no read items and no written places, over a delay memory.
abbrev pub bench_call : Ordering → Machine → Memory → Call
bench_call by m memory = record { order = by (ticks_of m); items = []; places = []; memory = memory }

abbrev pub passed : Text → Ordering → Machine → Memory → Outcome
passed text by m memory = pass_of text m (bench_call by m memory)

-- 5 or 6 where the order for a machine's T does not pass them, else 0.
abbrev pub order_asked : Ordering → Machine → ℕ
order_asked by m = asked (question5 (ticks_of m) (by (ticks_of m)) ∷ question6 (ticks_of m) (by (ticks_of m)) ∷ [])

-- The questions that commands can bring to another answer, where questions 1, 2 and 10 stay answered yes: 5, 6, 7, 8, 11 and 12.
unfoldable pub refused_again : Text → Ordering → Machine → ℕ
refused_again text by m =
    let order = by (ticks_of m) in
    asked (question5 (ticks_of m) order ∷ question6 (ticks_of m) order ∷ question7 text m [] ∷ question8 text m [] ∷ unit_questions text m)
