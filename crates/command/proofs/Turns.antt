-- What a command does, by its code, and what its turn brings, by its questions.
-- Assumes nothing.
use mathlib.Core.Path.{◌≡◌, refl}
use mathlib.Core.Logic.{◌≢◌}
use mathlib.Core.Bool.{Bool, false}
use mathlib.Core.List.{List}
use Prim.Native.Nat.{ℕ, ◌<◌, ◌≤◌}
use borrow.Author.Tests.{eq-eqb, ne_eqb, lt-ltb, le-ltb}
use Rattle.std.specs.Prelude.{Result}
use Rattle.std.specs.Result.{IsErrAnd}
use Rattle.std.proofs.lemmas.Result.{err_from_is_err_and}
use Rattle.base_questions.specs.declared.Refusal.{Refusal}
use Rattle.base_questions.specs.Refusals.{answer_or}
use Rattle.command_fields.specs.Fields.{code5}
use Rattle.command_generator.specs.GeneratorLoads.{after_generator_load}
use Rattle.command_modifier.specs.ModifierLoads.{after_modifier_load}
use Rattle.command_misc.specs.Misc.{miscellany}
use Rattle.command_timer.specs.Timer.{timed, timer_waits, ticks_set}
use Rattle.command_delay.specs.DelayLoads.{loaded_dly}
use Rattle.command_built.specs.Built.{command_refusal}
use Rattle.command.specs.Command.{done, waits, after_command, taken_waiting}

module _ (m : List ℕ) (c : ℕ) {l : List ℕ} {code : ℕ} (ec : code ≡ code5 c) where
  pub does-misc : code ≡ 0b00000 → l ≡ miscellany m c → (false ≡ waits m c) × (l ≡ done m c)
  unfolding done waits
  does-misc e q = rw (← ec, e) (refl, q)

  pub does-delay : code ≡ 0b00001 → l ≡ loaded_dly m c → (false ≡ waits m c) × (l ≡ done m c)
  unfolding done waits
  does-delay e q = rw (← ec, e) (refl, q)

  pub does-timer : {r : Bool} → code ≡ 0b00010 → (r ≡ timer_waits m c) × (l ≡ timed m c) → (r ≡ waits m c) × (l ≡ done m c)
  unfolding done waits
  does-timer e q = rw (← ec, e) q

  pub does-ticks : code ≡ 0b00011 → l ≡ ticks_set m c → (false ≡ waits m c) × (l ≡ done m c)
  unfolding done waits
  does-ticks e q = rw (← ec, e) (refl, q)

  module _ (misc : code ≢ 0b00000) (delay : code ≢ 0b00001) (timer : code ≢ 0b00010) (ticks : code ≢ 0b00011) where
    pub does-generator-load : code < 0b11000 → l ≡ after_generator_load m c → (false ≡ waits m c) × (l ≡ done m c)
    unfolding done waits
    does-generator-load h q = rw (← ec, ne_eqb code 0b00000 misc, ne_eqb code 0b00001 delay, ne_eqb code 0b00010 timer, ne_eqb code 0b00011 ticks, lt-ltb code 0b11000 h) (refl, q)

    pub does-modifier-load : 0b11000 ≤ code → l ≡ after_modifier_load m c → (false ≡ waits m c) × (l ≡ done m c)
    unfolding done waits
    does-modifier-load h q = rw (← ec, ne_eqb code 0b00000 misc, ne_eqb code 0b00001 delay, ne_eqb code 0b00010 timer, ne_eqb code 0b00011 ticks, le-ltb code 0b11000 h) (refl, q)

module _ (m : List ℕ) (c : ℕ) where
  -- A refused command leaves the machine and doesn't wait.
  module _ (e : command_refusal c ≢ 0) where
    pub refused-waits : taken_waiting m c ≡ false
    unfolding taken_waiting
    refused-waits = rw (ne_eqb (command_refusal c) 0 e)

    pub refused-leaves : after_command m c ≡ m
    unfolding after_command
    refused-leaves = rw (ne_eqb (command_refusal c) 0 e) refl

  -- One that passes its questions is done.
  module _ (e : command_refusal c ≡ 0) where
    pub passed-waits : taken_waiting m c ≡ waits m c
    unfolding taken_waiting
    passed-waits = rw (eq-eqb (command_refusal c) 0 e)

    pub passed-does : after_command m c ≡ done m c
    unfolding after_command
    passed-does = rw (eq-eqb (command_refusal c) 0 e)

-- A refused call answers nothing else.
pub refused-answer : {A : Type 0} (other : A) (r : Result A Refusal) (e : Refusal) → IsErrAnd r (λ y. y ≡ e) → answer_or other r ≡ other
refused-answer other r e h = let p = err_from_is_err_and r h in rw p.1 refl
