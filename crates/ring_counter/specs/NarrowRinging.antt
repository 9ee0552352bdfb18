-- A ringing as it was while the pass counter had 20 bits (document 01, "Bench file"; since document 02, Q-9, it has 32).
-- Assumes nothing.
use Rattle.std.specs.Prelude.{ℕ, zero, suc, cond, eqb, set}
use Rattle.layout.specs.Layout.{counter_at}
use Rattle.layout.specs.Machine.{Machine, Memory, Commands, low_counter}
use Rattle.layout_texts.specs.declared.Text.{Text}
use Rattle.ring_pass.specs.BenchPass.{Ordering, passed}
use Rattle.ring_steps.specs.Heard.{Heard, heard_after, heard_refused, update_after}

-- A machine with its counter cut to 20 bits.
abbrev pub narrow : Machine → Machine
narrow m = set m counter_at (low_counter m)

-- What was heard: the same passes and updates as in `heard`, but each pass leaves a counter of 20 bits.
unfoldable pub heard_narrow : Text → Ordering → ℕ → Machine → Memory → Commands → Heard
heard_narrow text by zero m memory commands = heard_refused 0
heard_narrow text by (suc passes) m memory commands =
    let p = passed text by m memory in
    let u = update_after text (narrow p.machine) commands in
    cond (eqb p.number 0)
    (cond (eqb u.number 0) (heard_after u.machine (heard_narrow text by passes u.machine p.memory u.rest)) (heard_refused u.number))
    (heard_refused p.number)
