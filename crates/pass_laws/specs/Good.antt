-- A machine that passes questions 1 and 2 (document 01, "Questions at the door").
-- Assumes nothing.
use Rattle.std.specs.Prelude.{true, ◌≡◌, length}
use Rattle.layout.specs.Layout.{machine_length}
use Rattle.layout.specs.Machine.{Machine}
use Rattle.layout_texts.specs.declared.Text.{Text}
use Rattle.machine.specs.Questions.{valid}

-- Its run has the machine's length, and each of its words passes its test.
pub record Good (text : Text) (m : Machine) : Type 0 where
  pub whole : length m ≡ machine_length
  pub is-valid : valid text m ≡ true
