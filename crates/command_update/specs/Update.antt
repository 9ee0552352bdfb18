-- An update (document 01, "Commands, update, host" and "Questions at the door"; document 02, Q-7 and Q-9).
-- Assumes nothing.
use Rattle.std.specs.Prelude.{ℕ, zero, suc, ◌+◌, ◌-◌, ◌*◌, Bool, cond, not, ◌&&◌, [], ◌∷◌, eqb, length, get_or, set}
use Rattle.layout.specs.Layout.{lingering_at, linger_pass_at}
use Rattle.layout.specs.Machine.{Machine, Commands, update_ticks_of, low_counter}
use Rattle.layout_texts.specs.declared.Text.TheVariants.{Of1978}
use Rattle.base_questions.specs.Questions.{asked}
use Rattle.machine.specs.Questions.{question1, question2}
use Rattle.command_built.specs.Built.{command_refusal}
use Rattle.command.specs.Command.{done, waits}

-- What an update answers and leaves: the number of the refusing question or 0, the machine, and the part of the commands not taken.
pub record UpdateOutcome : Type 0 where
  pub number : ℕ
  pub machine : Machine
  pub rest : Commands

abbrev pub outcome : ℕ → Machine → Commands → UpdateOutcome
outcome number machine rest = record { number = number; machine = machine; rest = rest }

-- At most N-T-8 commands, none if that is negative: the update ticks of the machine's N and T.
abbrev pub most_commands : Machine → ℕ
most_commands m = update_ticks_of m

-- Whether it is lingering and the counter, by its low 20 bits, isn't the Linger pass.
unfoldable pub still_lingering : Machine → Bool
still_lingering m = eqb (get_or m lingering_at 0) 1 && not (eqb (low_counter m) (get_or m linger_pass_at 0))

-- At most k commands are taken, until one waits, the words end or one is refused; a waiting one is taken, a refused one is not.
unfoldable pub commands_taken_by : ℕ → Machine → Commands → UpdateOutcome
commands_taken_by zero m cs = outcome 0 m cs
commands_taken_by (suc k) m [] = outcome 0 m []
commands_taken_by (suc k) m (c ∷ cs) =
    cond (eqb (command_refusal c) 0)
    (cond (waits m c) (outcome 0 (done m c) cs) (commands_taken_by k (done m c) cs))
    (outcome (command_refusal c) m (c ∷ cs))

-- The update: questions 1 and 2; nothing while lingering goes on; else lingering ends, and commands are taken, their most by N and T as it begins.
unfoldable pub update_of : Machine → Commands → UpdateOutcome
update_of m cs =
    let n = asked (question1 m ∷ question2 Of1978 m ∷ []) in
    cond (eqb n 0)
    (cond (still_lingering m) (outcome 0 m cs) (commands_taken_by (most_commands m) (set m lingering_at 0) cs))
    (outcome n m cs)

-- How many commands an update takes.
abbrev pub taken_count : Machine → Commands → ℕ
taken_count m cs = length cs - length (update_of m cs).rest

-- Where the part of a run of 32-bit words begins that starts k words after the run: a place is a block of memory and a byte in it.
abbrev pub tail_at : ℕ × ℕ → ℕ → ℕ × ℕ
tail_at place k = (place.0, k * 4 + place.1)
