-- A ringing cut into blocks: any way of cutting leaves the same; and its machines are those that are heard.
-- Assumes nothing.
use mathlib.Core.Path.{◌≡◌, refl, ap, ◌∙◌}
use mathlib.Core.Bool.{Bool, true, false, cond}
use mathlib.Core.List.{[], ◌∷◌}
use Prim.Native.Nat.{ℕ, zero, suc, ◌+◌}
use native.Mathlib.Nat.{zero-add, suc-add}
use lib.Dec.{eqb}
use Rattle.layout.specs.Machine.{Machine, Memory, Commands}
use Rattle.layout_texts.specs.declared.Text.{Text}
use Rattle.pass_model.specs.Pass.{Outcome as Pass}
use Rattle.command_update.specs.Update.{UpdateOutcome}
use Rattle.ring_pass.specs.BenchPass.{Ordering, passed}
use Rattle.ring_steps.specs.Heard.{Heard, update_after, heard_after, heard_refused, heard}
use Rattle.ring_block.specs.Block.{Rung, ended, rung_after, rung, then_rung, rung_on}

-- The machines and the number of a ringing.
abbrev pub heard_of : Rung → Heard
heard_of r = record { machines = r.machines; number = r.number }

-- After a refusal nothing follows.
stops : (n : ℕ) (m : Machine) (memory : Memory) (commands : Commands) (s : Rung) → eqb n 0 ≡ false → ended n m memory commands ≡ then_rung (ended n m memory commands) s
stops n m memory commands s e = rw e

-- A ringing is its parts.
itself : (r : Rung) → r ≡ rung_after [] r
itself r = refl

-- A pass before two ringings in sequence is one before the first.
after_then : (m : Machine) (r s : Rung) → rung_after (m ∷ []) (then_rung r s) ≡ then_rung (rung_after (m ∷ []) r) s
after_then m r s = go (eqb r.number 0)
  where
    go : (x : Bool) → rung_after (m ∷ []) (cond x (rung_after r.machines s) r) ≡ cond x (rung_after (m ∷ r.machines) s) (rung_after (m ∷ []) r)
    go true = refl
    go false = refl

module _ (text : Text) (by : Ordering) where
  -- They are what is heard.
  pub rung-heard : (n : ℕ) (m : Machine) (memory : Memory) (commands : Commands) → heard_of (rung text by n m memory commands) ≡ heard text by n m memory commands
  unfolding rung heard
  rung-heard zero m memory commands = refl
  rung-heard (suc n) m memory commands = go (rung-heard n u.machine p.memory u.rest) (eqb p.number 0) (eqb u.number 0)
    where
      p : Pass
      p = passed text by m memory

      u : UpdateOutcome
      u = update_after text p.machine commands

      rest : Rung
      rest = rung text by n u.machine p.memory u.rest

      go : heard_of rest ≡ heard text by n u.machine p.memory u.rest → (a b : Bool)
          → heard_of (cond a (cond b (rung_after (u.machine ∷ []) rest) (ended u.number u.machine p.memory u.rest)) (ended p.number p.machine p.memory commands))
          ≡ cond a (cond b (heard_after u.machine (heard text by n u.machine p.memory u.rest)) (heard_refused u.number)) (heard_refused p.number)
      go h true true = ap (heard_after u.machine) h
      go h true false = refl
      go h false b = refl

  -- So many passes and so many more are as many together.
  pub blocks-join : (a b : ℕ) (m : Machine) (memory : Memory) (commands : Commands)
      → rung text by (a + b) m memory commands ≡ then_rung (rung text by a m memory commands) (rung_on text by b (rung text by a m memory commands))
  unfolding rung
  blocks-join zero b m memory commands = ap (λ (n : ℕ). rung text by n m memory commands) (zero-add b) ∙ itself (rung text by b m memory commands)
  blocks-join (suc a) b m memory commands =
      ap (λ (n : ℕ). rung text by n m memory commands) (suc-add a b)
      ∙ go (blocks-join a b u.machine p.memory u.rest) (eqb p.number 0) (eqb u.number 0) refl refl
    where
      p : Pass
      p = passed text by m memory

      u : UpdateOutcome
      u = update_after text p.machine commands

      first : Rung
      first = rung text by a u.machine p.memory u.rest

      all : Rung
      all = rung text by (a + b) u.machine p.memory u.rest

      whole : Bool → Bool → Rung → Rung
      whole x y r = cond x (cond y (rung_after (u.machine ∷ []) r) (ended u.number u.machine p.memory u.rest)) (ended p.number p.machine p.memory commands)

      go : all ≡ then_rung first (rung_on text by b first) → (x y : Bool) → eqb p.number 0 ≡ x → eqb u.number 0 ≡ y
          → whole x y all ≡ then_rung (whole x y first) (rung_on text by b (whole x y first))
      go h true true e f = ap (rung_after (u.machine ∷ [])) h ∙ after_then u.machine first (rung_on text by b first)
      go h true false e f = stops u.number u.machine p.memory u.rest (rung_on text by b (whole true false first)) f
      go h false y e f = stops p.number p.machine p.memory commands (rung_on text by b (whole false y first)) e
