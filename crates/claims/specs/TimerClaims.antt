-- What document 01 claims of Lingers ("Commands, update, host"): overrun is set for good, and a waiting Linger alone writes the Linger pass. Over every command, update and pass.
-- Assumes nothing.
use Rattle.std.specs.Prelude.{ℕ, true, false, ◌⊎◌, ◌≡◌, get_or}
use Rattle.layout.specs.Layout.{lingering_at, linger_pass_at, overrun_at}
use Rattle.layout.specs.Machine.{Machine, Commands}
use Rattle.layout_texts.specs.declared.Text.{Text}
use Rattle.layout_texts.specs.declared.Text.TheVariants.{Of1978}
use Rattle.pass_model.specs.Pass.{Call, pass_of}
use Rattle.pass_laws.specs.Good.{Good}
use Rattle.command_fields.specs.Fields.{data_of}
use Rattle.command.specs.Command.{after_command, taken_waiting}
use Rattle.command_update.specs.Update.{still_lingering, update_of}
use Rattle.command_laws.specs.Lingering.{LastWaits}

pub record TimerClaims : Type 0 where
  -- A Linger 1 to 4,096 passes behind "sets overrun, for good": once it is 1 it stays 1 after every command and every update, and no pass changes it.
  pub overrun-command : (m : Machine) (c : ℕ) → get_or m overrun_at 0 ≡ 1 → get_or (after_command m c) overrun_at 0 ≡ 1
  pub overrun-update : (m : Machine) (commands : Commands) → get_or m overrun_at 0 ≡ 1 → get_or (update_of m commands).machine overrun_at 0 ≡ 1
  pub overrun-pass : (text : Text) (m : Machine) (call : Call) → get_or (pass_of text m call).machine overrun_at 0 ≡ get_or m overrun_at 0
  -- "A waiting Linger is taken: it sets lingering to 1 and the Linger pass to its number, and no other step writes that number": a command that is a Linger and waits does so, and every
  -- other command, a refused one too, leaves both words.
  pub linger-waits : (m : Machine) → Good Of1978 m → (c : ℕ) → taken_waiting m c ≡ true
      → (get_or (after_command m c) lingering_at 0 ≡ 1) × (get_or (after_command m c) linger_pass_at 0 ≡ data_of c)
  pub linger-else : (m : Machine) (c : ℕ) → taken_waiting m c ≡ false
      → (get_or (after_command m c) lingering_at 0 ≡ get_or m lingering_at 0) × (get_or (after_command m c) linger_pass_at 0 ≡ get_or m linger_pass_at 0)
  -- Over an update the Linger pass is as it was, or the last command taken is a Linger that waits, and it is its number; that is so of every update that could take commands
  -- and ends with lingering 1.
  pub linger-update : (m : Machine) (commands : Commands)
      → (get_or (update_of m commands).machine linger_pass_at 0 ≡ get_or m linger_pass_at 0) ⊎ LastWaits commands (update_of m commands)
  pub linger-last : (m : Machine) → Good Of1978 m → (commands : Commands) → still_lingering m ≡ false → get_or (update_of m commands).machine lingering_at 0 ≡ 1
      → LastWaits commands (update_of m commands)
  -- Over a pass neither word changes.
  pub linger-pass : (text : Text) (m : Machine) (call : Call)
      → (get_or (pass_of text m call).machine lingering_at 0 ≡ get_or m lingering_at 0) × (get_or (pass_of text m call).machine linger_pass_at 0 ≡ get_or m linger_pass_at 0)
