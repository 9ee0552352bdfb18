-- The steps of a ringing, gathered in a buffer and given out whenever it may not hold another line or frame.
-- Assumes nothing.
use Rattle.std.specs.Prelude.{ℕ, zero, suc, ◌+◌, cond, List, [], ◌++◌, eqb, ltb, length}
use Rattle.file_printed.specs.Text.{line_bytes, refusal_line, order_refusal_line}
use Rattle.file_bench.specs.BenchFile.{BenchAnswer}
use Rattle.ring_pass.specs.BenchPass.{Ordering}
use Rattle.ring_order.specs.RungOrder.{ordering_by, order_refusal}
use Rattle.ring_order.specs.declared.By.{By}
use Rattle.ring_steps.specs.AsCoded.{Ringing, Step, step_of, ringing_begun}
use Rattle.ring_steps.specs.declared.Output.{Output}
use Rattle.ring_steps.specs.declared.Output.TheVariants.{Lines}
use Rattle.layout_texts.specs.declared.Text.{Text}

-- What is gathered after some bytes, at most k steps: a step is taken while a pass is left and a line's buffer, more than a line or a frame has, is free of `room`.
unfoldable pub gathered_after : Text → Ordering → Output → ℕ → ℕ → List ℕ → Ringing → Step
gathered_after text by o room zero bytes r = record { bytes = bytes; next = r }
gathered_after text by o room (suc k) bytes r =
    let s = step_of text by o r in
    cond (eqb r.passes 0) (record { bytes = bytes; next = r })
    (cond (ltb room (length bytes + line_bytes)) (record { bytes = bytes; next = r }) (gathered_after text by o room k (bytes ++ s.bytes) s.next))

-- What is gathered from a ringing under way.
unfoldable pub gathered : Text → Ordering → Output → ℕ → Ringing → Step
gathered text by o room r = gathered_after text by o room r.passes [] r

-- What is given out, one gathering after another until no pass is left, at most k of them.
unfoldable pub printed_by : Text → Ordering → Output → ℕ → ℕ → Ringing → List ℕ
printed_by text by o room zero r = []
printed_by text by o room (suc k) r = cond (eqb r.passes 0) [] ((gathered text by o room r).bytes ++ printed_by text by o room k (gathered text by o room r).next)

-- What is printed so from what reading a file answers and leaves, by its text; a refused file, and a refused order file, has the line of its refusal.
unfoldable pub printed_from : ℕ → By → List ℕ → BenchAnswer → List ℕ
printed_from room by order_file a =
    let other = order_refusal by order_file in
    cond (eqb a.number 0)
    (cond (eqb other 0) (printed_by a.text (ordering_by by order_file a.machine) Lines room a.passes (ringing_begun a)) (order_refusal_line other))
    (refusal_line a.number)
