-- `pass_order::in_modes` meets its contract: the counts so far are those of the generators passed.
-- Assumes nothing.
use mathlib.Core.Path.{◌≡◌}
use Prim.Native.Nat.{ℕ}
use lib.Dec.{eqb}
use Rattle.base_lists.specs.Lists.{count_below}
use Rattle.layout.specs.Machine.{Machine}
use Rattle.layout_texts.specs.Texts.{run_mode_at}
use Rattle.layout_texts.specs.declared.Text.{Text}
use Rattle.layout_modes.specs.Modes.{read_data, write_data}
use Rattle.pass_order.proofs.in_modes.Given as goal

-- How many of the first g generators are in a run mode.
abbrev pub among : Text → Machine → ℕ → ℕ → ℕ
among text m r g = count_below (λ k. eqb (run_mode_at text m k) r) g

abbrev pub invariant-loop-g : goal.invariant-loop-g
invariant-loop-g l = (l.reads ≡ among l.text l.m read_data l.g) × (l.writes ≡ among l.text l.m write_data l.g)
