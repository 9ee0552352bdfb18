-- What document 02 claims of delay units (Q-1), of every pass and of passes in sequence.
-- Assumes nothing.
use Rattle.std.specs.Prelude.{ℕ, ◌+◌, ◌/◌, ◌<◌, true, false, [], ◌≢◌, ◌⊎◌, ◌≡◌, get_or}
use Rattle.layout.specs.Layout.{delay_at, delay_words, delays}
use Rattle.layout.specs.Machine.{Machine, Memory, ticks_of}
use Rattle.layout_texts.specs.declared.Text.TheVariants.{Of1978}
use Rattle.layout_codes.specs.BuiltCodes.{line, table, rounded_table}
use Rattle.modifier_delay.specs.Invoke.{temp0}
use Rattle.delay.specs.Delay.{slot, address}
use Rattle.delay_questions.specs.Questions.{memory_good, invokes, named_by, delay_of}
use Rattle.base_sequences.specs.Sequences.{by_number}
use Rattle.pass_sums.specs.Sums.{sums_of}
use Rattle.pass_model.specs.Modifiers.{seen, modifier_of}
use Rattle.pass_model.specs.Pass.{Call, pass_of}
use Rattle.pass_laws.specs.Passes.{call_of, no_data}
use Rattle.pass_delay_laws.specs.InPasses.{l0_at, l1_at, min_at, after, acts, puts_word, memory_at, InvokesUnit, RunsUnchanged, NothingElseWrites}
use Rattle.pass_delay_laws.specs.NothingBetween.{machine_in, call_in, echo}

pub record DelayClaims : Type 0 where
  -- A line word comes back Z+3 passes later, if the unit runs unchanged in each and nothing else writes its slot until the word leaves it, Z+1 passes later:
  -- what modifier k sent to its unit in pass 0, L1 after it, is what the unit gives it in pass Z+3, L0 after that.
  pub line-comes-back : (machine : ℕ → Machine) (call : ℕ → Call) (k u : ℕ) → (delay_of (machine 0) u).p ≡ line
      → RunsUnchanged ((delay_of (machine 0) u).z + 3) k u machine call
      → NothingElseWrites (slot (delay_of (machine 0) u)) ((delay_of (machine 0) u).z + 1) k machine call
      → l0_at (after (machine ((delay_of (machine 0) u).z + 3)) (call ((delay_of (machine 0) u).z + 3))) k ≡ l1_at (after (machine 0) (call 0)) k
  -- A table answer comes three passes later, looked up in its word's pass at its modifier's turn.
  pub table-comes-back : (machine : ℕ → Machine) (call : ℕ → Call) (k u : ℕ) → ((delay_of (machine 0) u).p ≡ table) ⊎ ((delay_of (machine 0) u).p ≡ rounded_table)
      → RunsUnchanged 3 k u machine call
      → l0_at (after (machine 3) (call 3)) k
      ≡ get_or (memory_at (machine 0) (call 0) k) (address (delay_of (machine 0) u) (l1_at (after (machine 0) (call 0)) k)) 0
  -- These conditions are met by passes by number with nothing between them, over any delay memory, if the unit runs in the first of them: it runs unchanged in all, and
  -- where no other modifier puts a word into delay memory, nothing else writes any place of it.
  pub alone-runs : (m : Machine) (memory : Memory) (k u : ℕ) → InvokesUnit k u m (call_of (by_number (ticks_of m)) memory no_data) → (n : ℕ)
      → RunsUnchanged n k u (machine_in m memory) (call_in m memory)
  pub alone-writes : (m : Machine) (memory : Memory) (k u : ℕ) → InvokesUnit k u m (call_of (by_number (ticks_of m)) memory no_data)
      → ((j : ℕ) → j ≢ k → j < ticks_of m / 2 → puts_word m j ≡ false) → (place n : ℕ) → NothingElseWrites place n k (machine_in m memory) (call_in m memory)
  -- So a shown machine whose modifier sends 12,345 in pass 0 has it back in pass 3 from a line with Z 0, and from a table the word of delay memory at 12,345.
  pub echo-heard : (memory : Memory) → memory_good memory ≡ true → l0_at (after (machine_in (echo line) memory 3) (call_in (echo line) memory 3)) 0 ≡ 12345
  pub echo-looked-up : (memory : Memory) → memory_good memory ≡ true → l0_at (after (machine_in (echo table) memory 3) (call_in (echo table) memory 3)) 0 ≡ get_or memory 12345 0
  -- What goes to the unit, L1 afterwards, is A + DM*M1: DM is what the unit gave, L0 afterwards; A, where MIN names generator-last or modifier-last, is the word that the pass found there.
  pub word-sent : (m : Machine) (call : Call) (k : ℕ) → (pass_of Of1978 m call).number ≡ 0 → k < ticks_of m / 2 → invokes m k ≡ true → min_at m k < 128
      → l1_at (after m call) k ≡ temp0 (modifier_of m k) (seen (sums_of m) [] (min_at m k)) (l0_at (after m call) k)
  -- An inactive unit gives 0: to the modifier that invokes it.
  pub inactive-gives-0 : (m : Machine) (call : Call) (k : ℕ) → (pass_of Of1978 m call).number ≡ 0 → k < ticks_of m / 2 → invokes m k ≡ true → acts m (named_by m k) ≡ false
      → l0_at (after m call) k ≡ 0
  -- A unit that no modifier names does nothing, and neither it nor an inactive one changes: its seven words stay.
  pub unit-rests : (m : Machine) (call : Call) (u : ℕ) → u < delays
      → ((k : ℕ) → k < ticks_of m / 2 → invokes m k ≡ true → named_by m k ≢ u) ⊎ (acts m u ≡ false)
      → (r : ℕ) → r < delay_words → get_or (after m call) (delay_at u + r) 0 ≡ get_or m (delay_at u + r) 0
  -- Delay memory after a pass has the words that modifiers put there, each into the slot of its line; where none puts one, it stays.
  pub memory-after : (m : Machine) (call : Call) → (pass_of Of1978 m call).number ≡ 0 → (pass_of Of1978 m call).memory ≡ memory_at m call (ticks_of m / 2)
  pub memory-rests : (m : Machine) (call : Call) → ((k : ℕ) → k < ticks_of m / 2 → puts_word m k ≡ false) → (pass_of Of1978 m call).memory ≡ call.memory
