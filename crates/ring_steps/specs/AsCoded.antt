-- The ringing as the code goes: a step, and steps one after another. Readers need only `output_of` and `heard`, to which laws join these.
-- Assumes nothing.
use Rattle.std.specs.Prelude.{ℕ, zero, suc, ◌-◌, ◌^◌, ◌<◌, Bool, true, false, cond, List, [], ◌∷◌, ◌++◌, ◌≡◌, eqb, length, get_or, take, drop}
use Rattle.layout.specs.Layout.{dac_at}
use Rattle.layout.specs.Machine.{Machine, Memory, Commands, Reaches}
use Rattle.layout_texts.specs.declared.Text.{Text}
use Rattle.base_questions.specs.Questions.{asked}
use Rattle.base_questions.specs.Refusals.{refused}
use Rattle.machine.specs.Questions.{question1, question2}
use Rattle.delay_questions.specs.Questions.{memory_good}
use Rattle.file_printed.specs.Text.{refusal_line, order_refusal_line}
use Rattle.file_bench.specs.BenchFile.{BenchAnswer}
use Rattle.ring_pass.specs.BenchPass.{Ordering, passed}
use Rattle.ring_order.specs.RungOrder.{ordering_by, order_refusal}
use Rattle.ring_order.specs.declared.By.{By}
use Rattle.ring_steps.specs.Heard.{update_after, line_after, frame_after}
use Rattle.ring_steps.specs.Ringing.{memory_at_first}
use Rattle.ring_steps.specs.declared.Progress.{Progress}
use Rattle.ring_steps.specs.declared.Output.{Output}
use Rattle.ring_steps.specs.declared.Output.TheVariants.{Lines, Frames}

-- What the line asks of a machine: it reaches so far, and the two words have 20 bits.
pub record Lined (m : Machine) : Type 0 where
  pub reaches : Reaches m
  pub left : get_or m (dac_at 0) 0 < 2 ^ 20
  pub right : get_or m (dac_at 1) 0 < 2 ^ 20

-- What is given out of a machine after pass and update, and of a refusal: frames end at a refusal without a word.
unfoldable pub given_after : Output → Machine → List ℕ
given_after Lines m = line_after m
given_after Frames m = frame_after m

unfoldable pub given_refused : Output → ℕ → List ℕ
given_refused Lines n = refusal_line n
given_refused Frames n = []

-- A ringing under way: how many passes are left, the machine, delay memory, the commands still left, and the number of the refusal that ended it, or 0.
pub record Ringing : Type 0 where
  pub passes : ℕ
  pub machine : Machine
  pub memory : Memory
  pub commands : Commands
  pub number : ℕ

-- A progress with its machine, delay memory and all its commands as a ringing under way.
abbrev pub ringing_at : Progress → Machine → Memory → Commands → Ringing
ringing_at at m memory commands = record { passes = at.passes; machine = m; memory = memory; commands = drop at.taken commands; number = refused at.end }

-- A step: the bytes that it gives out, and what is left to ring.
pub record Step : Type 0 where
  pub bytes : List ℕ
  pub next : Ringing

-- One pass and one update; after a refusal no pass is left. With no pass left nothing is given out.
unfoldable pub step_of : Text → Ordering → Output → Ringing → Step
step_of text by o r =
    let p = passed text by r.machine r.memory in
    let u = update_after text p.machine r.commands in
    cond (eqb r.passes 0) (record { bytes = []; next = r })
    (cond (eqb p.number 0)
    (cond (eqb u.number 0)
    (record { bytes = given_after o u.machine; next = record { passes = r.passes - 1; machine = u.machine; memory = p.memory; commands = u.rest; number = 0 } })
    (record { bytes = given_refused o u.number; next = record { passes = 0; machine = u.machine; memory = p.memory; commands = u.rest; number = u.number } }))
    (record { bytes = given_refused o p.number; next = record { passes = 0; machine = p.machine; memory = p.memory; commands = r.commands; number = p.number } }))

-- How many commands are taken after a pass.
abbrev pub taken_after : Text → Machine → Commands → ℕ
taken_after text m commands = length commands - length (update_after text m commands).rest

-- How many commands a step takes.
abbrev pub commands_taken : Ringing → Step → ℕ
commands_taken r s = length r.commands - length s.next.commands

-- What is known after a step of which question refuses the next pass: where it took no command the number is as it was, and where it took one the machine passes questions 1 and 2 and delay memory 10.
pub record Known (text : Text) (by : Ordering) (m : Machine) (memory : Memory) (number : ℕ) (took : Bool) : Type 0 where
  pub as_before : took ≡ false → number ≡ (passed text by m memory).number
  pub good : took ≡ true → asked (question1 m ∷ question2 text m ∷ []) ≡ 0
  pub memory-good : took ≡ true → memory_good memory ≡ true

-- The steps one after another until no pass is left, at most k of them.
unfoldable pub until_done : Text → Ordering → Output → ℕ → Ringing → List ℕ
until_done text by o zero r = []
until_done text by o (suc k) r = let s = step_of text by o r in cond (eqb r.passes 0) [] (s.bytes ++ until_done text by o k s.next)

-- The ringing that begins with what reading a file answers and leaves, over a delay memory of zeros.
abbrev pub ringing_begun : BenchAnswer → Ringing
ringing_begun a = record { passes = a.passes; machine = a.machine; memory = memory_at_first; commands = take a.count a.room; number = 0 }

-- What the steps print from there, by its text; a refused file, and a refused order file, has the line of its refusal.
unfoldable pub rung_from : By → List ℕ → BenchAnswer → List ℕ
rung_from by order_file a =
    let other = order_refusal by order_file in
    cond (eqb a.number 0)
    (cond (eqb other 0) (until_done a.text (ordering_by by order_file a.machine) Lines a.passes (ringing_begun a)) (order_refusal_line other))
    (refusal_line a.number)
