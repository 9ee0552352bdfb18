-- A modifier and the delay unit that it invokes over passes in sequence, updates or other writes between them (document 02, Q-1).
-- Assumes nothing.
use Rattle.std.specs.Prelude.{ℕ, zero, suc, ◌+◌, ◌/◌, ◌≤◌, ◌<◌, Bool, true, cond, ◌&&◌, ◌≢◌, ◌≡◌, eqb, get_or, set}
use Rattle.layout.specs.Layout.{modifier_at, L0, L1, MIN}
use Rattle.layout.specs.Machine.{Machine, Memory, ticks_of}
use Rattle.layout_texts.specs.declared.Text.TheVariants.{Of1978}
use Rattle.layout_codes.specs.BuiltCodes.{line}
use Rattle.delay.specs.Delay.{runs, slot}
use Rattle.delay_questions.specs.Questions.{invokes, named_by, delay_of}
use Rattle.pass_model.specs.Pass.{Call, pass_of}

-- L0 and L1 of modifier k.
abbrev pub l0_at : Machine → ℕ → ℕ
l0_at m k = get_or m (modifier_at k + L0) 0

abbrev pub l1_at : Machine → ℕ → ℕ
l1_at m k = get_or m (modifier_at k + L1) 0

-- MIN of modifier k.
abbrev pub min_at : Machine → ℕ → ℕ
min_at m k = get_or m (modifier_at k + MIN) 0

-- The machine after a pass.
abbrev pub after : Machine → Call → Machine
after m call = (pass_of Of1978 m call).machine

-- Whether delay unit u doesn't act as inactive in a pass of a machine.
abbrev pub acts : Machine → ℕ → Bool
acts m u = runs (ticks_of m) u (delay_of m u)

-- Whether modifier k puts a word into delay memory: it invokes a line that doesn't act as inactive. Where it puts it: the line's slot.
abbrev pub puts_word : Machine → ℕ → Bool
puts_word m k = invokes m k && (eqb (delay_of m (named_by m k)).p line && acts m (named_by m k))

abbrev pub slot_of : Machine → ℕ → ℕ
slot_of m k = slot (delay_of m (named_by m k))

-- Delay memory as it stands at modifier k's turn in a pass: the call's, into which each modifier below k that puts a word has put its own, L1 as the pass leaves it.
unfoldable pub memory_at : Machine → Call → ℕ → Memory
memory_at m call zero = call.memory
memory_at m call (suc k) = cond (puts_word m k) (set (memory_at m call k) (slot_of m k) (l1_at (after m call) k)) (memory_at m call k)

-- A pass that isn't refused, in which modifier k, below T div 2, invokes delay unit u, which doesn't act as inactive.
pub record InvokesUnit (k u : ℕ) (m : Machine) (call : Call) : Type 0 where
  pub through : (pass_of Of1978 m call).number ≡ 0
  pub below : k < ticks_of m / 2
  pub invoked : invokes m k ≡ true
  pub named : named_by m k ≡ u
  pub acting : acts m u ≡ true

-- The unit runs unchanged in passes 0 to n: modifier k invokes it in each, and each but the first finds it as the one before left it.
pub record RunsUnchanged (n k u : ℕ) (machine : ℕ → Machine) (call : ℕ → Call) : Type 0 where
  pub taken : (i : ℕ) → i ≤ n → InvokesUnit k u (machine i) (call i)
  pub unchanged : (i : ℕ) → i < n → delay_of (machine (i + 1)) u ≡ delay_of (after (machine i) (call i)) u

-- From modifier k's turn in pass 0 to its turn in pass n nothing but its own turns writes a place of delay memory: no modifier above k in a pass, nothing between
-- that pass and the next, no modifier below k in the next.
pub record NothingElseWrites (place n k : ℕ) (machine : ℕ → Machine) (call : ℕ → Call) : Type 0 where
  pub above : (i j : ℕ) → i < n → k < j → j < ticks_of (machine i) / 2 → puts_word (machine i) j ≡ true → slot_of (machine i) j ≢ place
  pub between : (i : ℕ) → i < n → get_or (call (i + 1)).memory place 0 ≡ get_or (pass_of Of1978 (machine i) (call i)).memory place 0
  pub below : (i j : ℕ) → i < n → j < k → puts_word (machine (i + 1)) j ≡ true → slot_of (machine (i + 1)) j ≢ place
