-- What document 02 claims of two bells in one ring (Q-12), for every pair of machines of the 1978 text that the call doesn't refuse.
-- Assumes nothing.
use Rattle.std.specs.Prelude.{ℕ, ◌+◌, true, ◌≡◌}
use Rattle.layout.specs.Machine.{Machine, Memory, ticks_of}
use Rattle.layout_texts.specs.declared.Text.TheVariants.{Of1978}
use Rattle.delay_questions.specs.Questions.{memory_good}
use Rattle.base_sequences.specs.Sequences.{by_number}
use Rattle.pass_model.specs.Pass.{pass_refusal}
use Rattle.pass_laws.specs.Good.{Good}
use Rattle.pass_laws.specs.Passes.{call_of, no_data, passes_by_number}
use Rattle.join_model.specs.Join.{join_of}
use Rattle.join_model.specs.Plays.{Plays}
use Rattle.join_passes.specs.Changes.{Changed}

-- The machine after n passes by number, from a machine and a delay memory.
abbrev pub after : ℕ → Machine → Memory → Machine
after n m memory = (passes_by_number Of1978 n m memory).machine

-- Of passes by number from a machine and a delay memory, the one that follows the first n is not refused.
abbrev pub PassRuns : ℕ → Machine → Memory → Type 0
PassRuns n m memory =
    let r = passes_by_number Of1978 n m memory in
    pass_refusal Of1978 r.machine (call_of (by_number (ticks_of r.machine)) r.memory no_data) ≡ 0

pub record TwoBells : Type 0 where
  -- No pass by number is refused, of the joined machine or of either bell alone, over any delay memory that passes question 10.
  pub join_runs : (a b : Machine) → (join_of a b).number ≡ 0 → (memory : Memory) → memory_good memory ≡ true → (n : ℕ)
      → PassRuns n (join_of a b).machine memory × PassRuns n a memory × PassRuns n b memory
  -- After any number of passes by number the sum words, this and last, and the DAC words that the first bell uses, and its generators' words, are those that it has alone.
  -- The delay memories beside the two machines need not be the same.
  pub join_first : (a b : Machine) → (join_of a b).number ≡ 0 → (memory own : Memory) → memory_good memory ≡ true → memory_good own ≡ true → (n : ℕ)
      → Plays a (after n a own) 0 (after n (join_of a b).machine memory) 0
  -- So are those of the second bell, whose generators stand from the first's T on.
  pub join-second : (a b : Machine) → (join_of a b).number ≡ 0 → (memory own : Memory) → memory_good memory ≡ true → memory_good own ≡ true → (n : ℕ)
      → Plays b (after n b own) 0 (after n (join_of a b).machine memory) (ticks_of a)
  -- After any number k of passes, a change to the words of one bell's generators that keeps question 2 and its settings alters none of the other's words from then on:
  -- n passes later these are what they are without the change.
  pub join_apart : (a b : Machine) → (join_of a b).number ≡ 0 → (memory other : Memory) → memory_good memory ≡ true → memory_good other ≡ true → (k n : ℕ) (m : Machine) → Good Of1978 m
      → (Changed 0 (ticks_of a) (after k (join_of a b).machine memory) m → Plays b (after (k + n) (join_of a b).machine memory) (ticks_of a) (after n m other) (ticks_of a))
      × (Changed (ticks_of a) (ticks_of a + ticks_of b) (after k (join_of a b).machine memory) m → Plays a (after (k + n) (join_of a b).machine memory) 0 (after n m other) 0)
