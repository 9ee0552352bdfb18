-- A command and an update keep the length of the machine's run of words: each step is made of words put in their places.
-- Assumes nothing.
use mathlib.Core.Path.{◌≡◌, refl, ◌∙◌}
use mathlib.Core.List.{List}
use Prim.Native.Nat.{ℕ}
use lib.Dec.{eqb}
use lib.ListN.{length, set, length-set}
use Rattle.base_lists.proofs.Choices.{of-cond}
use Rattle.layout.specs.Layout.{lingering_at}
use Rattle.command_timer.specs.Timer.{counter_set, behind, waits_for, lingered, tt_of, timed}
use Rattle.command_built.specs.Built.{command_refusal}
use Rattle.command.specs.Command.{done, after_command}
use Rattle.command_update.specs.Update.{update_of}
use Rattle.command_laws.proofs.Writes.{done-keeps, update-keeps}

-- A run of n words.
record Long (n : ℕ) (m : List ℕ) : Type 0 where
  is : length m ≡ n

module _ (n : ℕ) where
  set_long : (m : List ℕ) → Long n m → (i v : ℕ) → Long n (set m i v)
  set_long m e i v = record { is = length-set m i v ∙ e.is }

  -- TIMER.
  lingered-long : (m : List ℕ) → Long n m → (k : ℕ) → Long n (lingered m k)
  unfolding lingered
  lingered-long m e k =
      of-cond (Long n) (waits_for m k) (set_long _ (set_long m e _ _) _ _) (of-cond (Long n) (eqb (behind m k) 0) e (set_long m e _ _))

  timed-long : (m : List ℕ) → Long n m → (c : ℕ) → Long n (timed m c)
  unfolding timed counter_set
  timed-long m e c =
      of-cond (Long n) (eqb (tt_of c) 0b01) (set_long m e _ _)
      (of-cond (Long n) (eqb (tt_of c) 0b10) (lingered-long m e _)
      (of-cond (Long n) (eqb (tt_of c) 0b11) (lingered-long _ (set_long m e _ _) _) e))

  -- A command.
  done-long : (m : List ℕ) → Long n m → (c : ℕ) → Long n (done m c)
  done-long m e c = done-keeps (Long n) (λ m e i v a. set_long m e i v) m e c (λ t. timed-long m e c)

pub done-length : (m : List ℕ) (c : ℕ) → length (done m c) ≡ length m
done-length m c = (done-long (length m) m (record { is = refl }) c).is

pub command-length : (m : List ℕ) (c : ℕ) → length (after_command m c) ≡ length m
unfolding after_command
command-length m c =
    let own : Long (length m) m = record { is = refl } in
    (of-cond (Long (length m)) (eqb (command_refusal c) 0) (done-long (length m) m own c) own).is

-- An update.
pub update-length : (m cs : List ℕ) → length (update_of m cs).machine ≡ length m
update-length m cs = (update-keeps (Long (length m)) (done-long (length m)) (λ k e. set_long (length m) k e lingering_at 0) m cs (record { is = refl })).is
