-- A ringing as it is heard (document 01, "Bench file"; document 02, Q-1 and Q-10): the machines that it goes through, up to a refusal, and their lines and frames.
-- Assumes nothing.
use Rattle.std.specs.Prelude.{ℕ, zero, suc, cond, List, [], ◌∷◌, ◌++◌, eqb, get_or}
use Rattle.layout.specs.Layout.{counter_at, dac_at}
use Rattle.layout.specs.Machine.{Machine, Memory, Commands}
use Rattle.layout_texts.specs.declared.Text.{Text}
use Rattle.layout_texts.specs.declared.Text.TheVariants.{Of1978, Old}
use Rattle.command_update.specs.Update.{UpdateOutcome, update_of}
use Rattle.file_printed.specs.Text.{pass_line, refusal_line}
use Rattle.file_wave.specs.WaveFormat.{frame}
use Rattle.ring_pass.specs.BenchPass.{Ordering, passed}

-- What follows a pass by a text: an update with the commands still left; no update follows an old one.
abbrev pub update_after : Text → Machine → Commands → UpdateOutcome
update_after Of1978 m commands = update_of m commands
update_after Old m commands = record { number = 0; machine = m; rest = commands }

-- The machines after each pass and its update, and the number of the refusal that ended the ringing, or 0.
pub record Heard : Type 0 where
  pub machines : List Machine
  pub number : ℕ

abbrev pub heard_after : Machine → Heard → Heard
heard_after m h = record { machines = m ∷ h.machines; number = h.number }

abbrev pub heard_refused : ℕ → Heard
heard_refused n = record { machines = []; number = n }

-- So many passes by an ordering, each followed by an update with the commands still left; a refusal ends them. Delay memory goes from pass to pass.
unfoldable pub heard : Text → Ordering → ℕ → Machine → Memory → Commands → Heard
heard text by zero m memory commands = heard_refused 0
heard text by (suc passes) m memory commands =
    let p = passed text by m memory in
    let u = update_after text p.machine commands in
    cond (eqb p.number 0)
    (cond (eqb u.number 0) (heard_after u.machine (heard text by passes u.machine p.memory u.rest)) (heard_refused u.number))
    (heard_refused p.number)

-- The line of a machine after pass and update: the counter, then DAC 0 and DAC 1.
unfoldable pub line_after : Machine → List ℕ
line_after m = pass_line (get_or m counter_at 0) (get_or m (dac_at 0) 0) (get_or m (dac_at 1) 0)

-- The lines of machines, one after another, and of what is heard: a refusal has its own.
unfoldable pub lines_after : List Machine → List ℕ
lines_after [] = []
lines_after (m ∷ ms) = line_after m ++ lines_after ms

unfoldable pub lines_heard : Heard → List ℕ
lines_heard h = lines_after h.machines ++ cond (eqb h.number 0) [] (refusal_line h.number)

-- The frame of a machine after pass and update: DAC 0 on the left, DAC 1 on the right.
unfoldable pub frame_after : Machine → List ℕ
frame_after m = frame (get_or m (dac_at 0) 0) (get_or m (dac_at 1) 0)

-- The frames of machines, one after another.
unfoldable pub frames_of : List Machine → List ℕ
frames_of [] = []
frames_of (m ∷ ms) = frame_after m ++ frames_of ms
