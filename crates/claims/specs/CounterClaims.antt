-- What document 02 claims of the counter of 32 bits (Q-9): "A Linger still names 20 bits and is compared with the counter's low 20, so files that rang ring as they did."
-- Assumes nothing.
use Rattle.std.specs.Prelude.{ℕ, set}
use Rattle.layout.specs.Layout.{counter_at}
use Rattle.layout.specs.Machine.{Machine, Memory, Commands, low_counter}
use Rattle.layout_texts.specs.declared.Text.{Text}
use Rattle.layout_texts.specs.declared.Text.TheVariants.{Of1978}
use Rattle.pass_model.specs.Pass.{Call, pass_of}
use Rattle.pass_laws.specs.Good.{Good}
use Rattle.command.specs.Command.{after_command}
use Rattle.command_update.specs.Update.{update_of}
use Rattle.ring_pass.specs.BenchPass.{Ordering}
use Rattle.ring_steps.specs.Heard.{heard}
use Rattle.ring_counter.specs.SameButHigh.{SameButHigh}
use Rattle.ring_counter.specs.NarrowRinging.{heard_narrow}
use Rattle.ring_counter.specs.Alike.{PassedAlike, UpdatedAlike, HeardAlike}

pub record CounterClaims : Type 0 where
  -- A machine that passes questions 1 and 2 passes them with its counter cut to 20 bits, and then differs in the counter's high bits alone.
  pub counter-cut : (text : Text) (m : Machine) → Good text m → Good text (set m counter_at (low_counter m)) × SameButHigh m (set m counter_at (low_counter m))
  -- Two machines that differ in these bits alone pass alike, whatever the call: the same number, counts, marks, places and delay memory, and again two such machines.
  pub passes-alike : (text : Text) (m n : Machine) → SameButHigh m n → Good text m → Good text n → (call : Call) → PassedAlike (pass_of text m call) (pass_of text n call)
  -- Every command leaves two such machines; an update of the two takes the same commands, answers the same number and leaves two such machines.
  pub commands-alike : (m n : Machine) → SameButHigh m n → (c : ℕ) → SameButHigh (after_command m c) (after_command n c)
  pub updates-alike : (m n : Machine) → SameButHigh m n → Good Of1978 m → Good Of1978 n → (commands : Commands) → UpdatedAlike (update_of m commands) (update_of n commands)
  -- So what is heard of the two is the same in every frame and in the number of the refusal, and what is printed in all but the counter.
  pub heard-alike : (text : Text) (by : Ordering) (passes : ℕ) (m n : Machine) → SameButHigh m n → Good text m → Good text n → (memory : Memory) (commands : Commands)
      → HeardAlike (heard text by passes m memory commands) (heard text by passes n memory commands)
  -- And so it is as it was while the counter had 20 bits.
  pub heard-as-before : (text : Text) (by : Ordering) (passes : ℕ) (m : Machine) → Good text m → (memory : Memory) (commands : Commands)
      → HeardAlike (heard text by passes m memory commands) (heard_narrow text by passes m memory commands)
