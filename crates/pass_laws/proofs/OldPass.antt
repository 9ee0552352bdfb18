-- What a pass of the older text leaves of the words that this text lacks: all of them, and delay memory.
-- Assumes nothing.
use mathlib.Core.Path.{◌≡◌, ◌∙◌, ap}
use mathlib.Core.Logic.{◌≢◌}
use Prim.Native.Nat.{ℕ, ◌/◌, ◌≤◌}
use native.Mathlib.Omega.{arith}
use lib.ListN.{get_or}
use Rattle.layout.specs.Layout.{counter_at}
use Rattle.layout.specs.Machine.{Machine, Sums, ticks_of}
use Rattle.layout_texts.specs.declared.Text.TheVariants.{Old}
use Rattle.machine.proofs.ValidMachine.{reaches}
use Rattle.pass_sums.specs.Sums.{sums_of}
use Rattle.pass_sums.proofs.Blocks.{outside-after}
use Rattle.pass_sums.proofs.Memory.{sums-quadrants}
use Rattle.pass_model.specs.Generators.{generators_of, begun}
use Rattle.pass_model.specs.Modifiers.{Held}
use Rattle.pass_model.specs.Pass.{Call, Outcome, completed, pass_refusal, pass_of, ran}
use Rattle.pass_model.proofs.OldModifiers.{old-memory, old-words}
use Rattle.pass_laws.proofs.Frames.{steps-beyond, steps-quadrants}
use Rattle.pass_laws.proofs.TextTurns.{sixteen}
use Rattle.pass_laws.proofs.Passing.{Admitted, generators_done, held_then, begun-words, begun-sums, admitted, pass-by, refused-machine, refused-memory, ran-machine, ran-memory}
use Rattle.pass_laws.proofs.Completing.{completed-by}

completed-memory : (t : ℕ) (h : Held) (s : Sums) → (completed Old t h s).memory ≡ h.memory
unfolding completed
completed-memory t h s = old-memory t h s (t / 2)

pub old-pass-memory : (m : Machine) (call : Call) → (pass_of Old m call).memory ≡ call.memory
old-pass-memory m call =
    pass-by Old m call (λ (r : Outcome). r.memory ≡ call.memory) (refused-memory Old m call)
    (λ e. ran-memory Old m call ∙ completed-memory (ticks_of m) (held_then Old m call) (generators_done Old m call).sums)

ran-beyond : (m : Machine) (call : Call) → pass_refusal Old m call ≡ 0 → (i : ℕ) → 4112 ≤ i → i ≢ counter_at → get_or (ran Old m call).machine i 0 ≡ get_or m i 0
ran-beyond m call e i h c =
    let p : Admitted Old m call.order = admitted Old m call e in
    let start = begun m (sums_of m) call.places in
    let done = generators_done Old m call in
    let t = ticks_of m in
    ap (λ (w : Machine). get_or w i 0) (ran-machine Old m call)
    ∙ completed-by Old t (held_then Old m call) done.sums
    (steps-quadrants (generators_of Old) call.items call.order start (rw (begun-sums m (sums_of m) call.places) (sums-quadrants m (reaches m p.good.whole)))) i (outside-after i 3840 256 (omega arith)) c
    ∙ old-words t (held_then Old m call) done.sums (t / 2) i (omega (arith, p.ticks))
    ∙ steps-beyond (generators_of Old) call.items call.order start p.below (sixteen Old) i h
    ∙ rw (begun-words m (sums_of m) call.places)

-- Every word past the DACs, the counter aside: T, DX, N, lingering, the Linger pass, overrun, the delay units' and the update ticks.
pub old-pass-beyond : (m : Machine) (call : Call) (i : ℕ) → 4112 ≤ i → i ≢ counter_at → get_or (pass_of Old m call).machine i 0 ≡ get_or m i 0
old-pass-beyond m call i h c =
    pass-by Old m call (λ (r : Outcome). get_or r.machine i 0 ≡ get_or m i 0) (ap (λ (w : Machine). get_or w i 0) (refused-machine Old m call)) (λ e. ran-beyond m call e i h c)
