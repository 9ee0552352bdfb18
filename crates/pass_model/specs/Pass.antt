-- A pass by an order of the generators (document 01, "A pass, and two orders of it" and "Questions at the door"; document 02, Q-1 and Q-6).
-- Assumes nothing.
use Rattle.std.specs.Prelude.{ℕ, ◌+◌, ◌/◌, ◌%◌, ◌^◌, cond, List, [], ◌∷◌, eqb, get_or, set, take}
use Rattle.base_lists.specs.Lists.{zeros}
use Rattle.layout.specs.Layout.{counter_at, memory_words}
use Rattle.layout.specs.Widths.{counter_bits}
use Rattle.layout.specs.Machine.{Machine, Order, Items, Places, Memory, Sums, ticks_of}
use Rattle.layout_texts.specs.declared.Text.{Text}
use Rattle.layout_texts.specs.declared.Text.TheVariants.{Of1978, Old}
use Rattle.base_questions.specs.Questions.{Question, asked}
use Rattle.machine.specs.Questions.{question1, question2}
use Rattle.pass_order.specs.Order.{question5, question6, question7, question8}
use Rattle.delay_questions.specs.Questions.{question10, question11, question12}
use Rattle.pass_sums.specs.Sums.{modifier_this, sums_of, closed}
use Rattle.pass_model.specs.Generators.{generators_of, begun, Taken, taken_by}
use Rattle.pass_model.specs.Clipped.{Marks, no_marks, marked_by}
use Rattle.pass_model.specs.Modifiers.{Held, modified_by}

-- What a pass is called with, beside the machine: an order, items to read, places for written items, and delay memory.
pub record Call : Type 0 where
  pub order : Order
  pub items : Items
  pub places : Places
  pub memory : Memory

-- The same call by another order.
abbrev pub by : Order → Call → Call
by order call = record { order = order; items = call.items; places = call.places; memory = call.memory }

-- A call with these and a delay memory of zeros.
abbrev pub plain_call : Order → Items → Places → Call
plain_call order items places = record { order = order; items = items; places = places; memory = zeros memory_words }

-- What a pass answers and leaves: the number of the refusing question or 0, the items read and written, a mark for each generator-this word that left its range,
-- the machine, the written places and delay memory.
pub record Outcome : Type 0 where
  pub number : ℕ
  pub read : ℕ
  pub written : ℕ
  pub clipped : Marks
  pub machine : Machine
  pub places : Places
  pub memory : Memory

-- The written data: the items that a pass wrote, in their sequence.
abbrev pub written_data : Outcome → List ℕ
written_data r = take r.written r.places

-- 1 is added to the counter.
unfoldable pub counted : Machine → Machine
counted words = set words counter_at ((get_or words counter_at 0 + 1) % 2 ^ counter_bits)

-- After the generators, in a pass of T processing ticks: modifiers 0..(T div 2)-1 by number, both this-pass quadrants copied to last and cleared, the counter.
unfoldable pub completed : Text → ℕ → Held → Sums → Held
completed text t h s =
    let v = modified_by text t h s (t / 2) in
    record { words = counted (closed v.held.words (set s modifier_this v.this)); memory = v.held.memory }

-- What the generators of a pass leave, taken in the call's order.
unfoldable pub generators_taken : Text → Machine → Call → Taken
generators_taken text m call = taken_by (generators_of text) call.items (begun m (sums_of m) call.places) call.order

-- The marks that they set, none being set at first.
unfoldable pub generators_clipped : Text → Machine → Call → Marks
generators_clipped text m call = marked_by (generators_of text) call.items (begun m (sums_of m) call.places) no_marks call.order

-- What follows: the modifiers, by T as the pass began, on the delay memory that the call brought, and the end of the pass. No step of it sets a mark.
unfoldable pub finished : Text → Machine → Call → Taken → Outcome
finished text m call t =
    let h = completed text (ticks_of m) (record { words = t.words; memory = call.memory }) t.sums in
    record {
      number = 0;
      read = t.reads;
      written = t.writes;
      clipped = generators_clipped text m call;
      machine = h.words;
      places = t.places;
      memory = h.memory;
    }

-- A pass that all questions let through.
unfoldable pub ran : Text → Machine → Call → Outcome
ran text m call = finished text m call (generators_taken text m call)

-- A refused pass answers the number, sets no mark and leaves all as it was.
unfoldable pub refused : ℕ → Machine → Call → Outcome
refused n m call = record { number = n; read = 0; written = 0; clipped = no_marks; machine = m; places = call.places; memory = call.memory }

-- What a text asks of the delay units: the older one, where no modifier names one, nothing.
abbrev pub unit_questions : Text → Machine → List Question
unit_questions Of1978 m = question11 m ∷ question12 m ∷ []
unit_questions Old m = []

-- The questions of a pass, in sequence.
unfoldable pub pass_refusal : Text → Machine → Call → ℕ
pass_refusal text m call =
    asked
    (question1 m
    ∷ question2 text m
    ∷ question5 (ticks_of m) call.order
    ∷ question6 (ticks_of m) call.order
    ∷ question7 text m call.items
    ∷ question8 text m call.places
    ∷ question10 call.memory
    ∷ unit_questions text m)

-- The pass.
unfoldable pub pass_of : Text → Machine → Call → Outcome
pass_of text m call =
    let n = pass_refusal text m call in
    cond (eqb n 0) (ran text m call) (refused n m call)
