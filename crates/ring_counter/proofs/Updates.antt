-- An update of two good machines that differ in the counter's high bits alone: it lingers alike, takes the same commands and leaves two such machines.
-- Assumes nothing.
use mathlib.Core.Path.{◌≡◌, refl}
use mathlib.Core.Bool.{Bool, true, false, cond}
use mathlib.Core.List.{[], ◌∷◌}
use Prim.Native.Nat.{ℕ, zero, suc}
use lib.Dec.{eqb, lit<}
use lib.ListN.{set}
use Rattle.layout.specs.Layout.{lingering_at, linger_pass_at, t_at, n_at}
use Rattle.layout.specs.Machine.{Machine, Commands}
use Rattle.layout_texts.specs.declared.Text.TheVariants.{Of1978}
use Rattle.command_built.specs.Built.{command_refusal}
use Rattle.command.specs.Command.{done, waits, after_command}
use Rattle.command_update.specs.Update.{UpdateOutcome, outcome, still_lingering, commands_taken_by, update_of}
use Rattle.pass_laws.specs.Good.{Good}
use Rattle.pass_laws.proofs.Passing.{good-passes}
use Rattle.ring_counter.specs.SameButHigh.{SameButHigh}
use Rattle.ring_counter.specs.Alike.{UpdatedAlike}
use Rattle.ring_counter.proofs.Words.{put, either, below, past}
use Rattle.ring_counter.proofs.Commands.{done-same, command-waits-same}

-- A command, refused or not.
pub command-alike : (m n : Machine) → SameButHigh m n → (c : ℕ) → SameButHigh (after_command m c) (after_command n c)
unfolding after_command
command-alike m n s c = either (eqb (command_refusal c) 0) (done-same s c) s

still-same : {m n : Machine} → SameButHigh m n → still_lingering m ≡ still_lingering n
unfolding still_lingering
still-same s = rw (past s lingering_at (lit< tt), past s linger_pass_at (lit< tt), s.low)

pub outcome-alike : {m n : Machine} → SameButHigh m n → (number : ℕ) (rest : Commands) → UpdatedAlike (outcome number m rest) (outcome number n rest)
outcome-alike s number rest = record { number = refl; rest = refl; machine = s }

either-alike : (b : Bool) {u v p q : UpdateOutcome} → UpdatedAlike u v → UpdatedAlike p q → UpdatedAlike (cond b u p) (cond b v q)
either-alike true a b = a
either-alike false a b = b

taken-alike : (k : ℕ) (m n : Machine) → SameButHigh m n → (cs : Commands) → UpdatedAlike (commands_taken_by k m cs) (commands_taken_by k n cs)
unfolding commands_taken_by
taken-alike zero m n s cs = outcome-alike s 0 cs
taken-alike (suc k) m n s [] = outcome-alike s 0 []
taken-alike (suc k) m n s (c ∷ cs) =
    rw (command-waits-same s c)
    (either-alike (eqb (command_refusal c) 0)
    (either-alike (waits n c) (outcome-alike (done-same s c) 0 cs) (taken-alike k (done m c) (done n c) (done-same s c) cs))
    (outcome-alike s (command_refusal c) (c ∷ cs)))

pub updated-alike : (m n : Machine) → SameButHigh m n → Good Of1978 m → Good Of1978 n → (cs : Commands) → UpdatedAlike (update_of m cs) (update_of n cs)
unfolding update_of
updated-alike m n s first second cs =
    rw (good-passes Of1978 m first, good-passes Of1978 n second, still-same s, below s t_at (lit< tt), below s n_at (lit< tt))
    (either-alike (still_lingering n) (outcome-alike s 0 cs) (taken-alike _ (set m lingering_at 0) (set n lingering_at 0) (put s lingering_at 0) cs))
