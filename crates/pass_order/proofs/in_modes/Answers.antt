-- `pass_order::in_modes` meets its contract: the counts so far are those of the generators passed.
-- Assumes nothing.
use mathlib.Core.Path.{◌≡◌, refl}
use mathlib.Core.Bool.{Bool, true, false, cond}
use Prim.Native.Nat.{ℕ, ◌+◌, ◌≤◌}
use native.Mathlib.Omega.{arith}
use lib.Dec.{eqb}
use Rattle.std.specs.Int.{from_bool}
use Rattle.base_lists.specs.Lists.{count_below}
use Rattle.base_lists.proofs.Counts.{count-below-next, count-below-le}
use Rattle.pass_order.specs.Order.{in_mode}
use Rattle.layout.specs.Machine.{Machine, ticks_of}
use Rattle.layout_texts.specs.Texts.{run_mode_at}
use Rattle.layout_texts.specs.declared.Text.{Text}
use Rattle.layout_modes.specs.Modes.{read_data, write_data}
use Rattle.pass_order.proofs.in_modes.Invariants.{among}
use Rattle.pass_order.proofs.in_modes.Goals as goal

number : (b : Bool) → from_bool b ≡ cond b 1 0
number true = refl
number false = refl

-- One generator more, whose run mode is read.
next : (text : Text) (m : Machine) (r g : ℕ) {run n b : ℕ} → run ≡ run_mode_at text m g → n ≡ among text m r g → b ≡ from_bool (eqb run r) → n + b ≡ among text m r (g + 1)
next text m r g {run} e p q = rw (p, q, number (eqb run r), e) (count-below-next (λ k. eqb (run_mode_at text m k) r) g)

fits : (text : Text) (m : Machine) (r g n : ℕ) → n ≡ among text m r g → n ≤ g
fits text m r g n p = rw p (count-below-le (λ k. eqb (run_mode_at text m k) r) g)

pub loop-g-init : goal.loop-g-init
unfolding count_below
loop-g-init c = (refl, refl)

pub overflow_add-reads : goal.overflow_add-reads
overflow_add-reads c =
    let m = c.args.m.now in
    omega (arith, fits c.args.text m read_data (c.loop-g.g + 1) _ (next c.args.text m read_data c.loop-g.g c.run_mode-run.ensures c.loop-g.invariant.0 c.from-reads.ensures))

pub overflow_add-writes : goal.overflow_add-writes
overflow_add-writes c =
    let m = c.args.m.now in
    omega (arith, fits c.args.text m write_data (c.loop-g.g + 1) _ (next c.args.text m write_data c.loop-g.g c.run_mode-run.ensures c.loop-g.invariant.1 c.from-writes.ensures))

pub loop-g-preserved : goal.loop-g-preserved
loop-g-preserved c =
    let m = c.args.m.now in
    let run = c.run_mode-run.ensures in (
      next c.args.text m read_data c.loop-g.g run c.loop-g.invariant.0 c.from-reads.ensures,
      next c.args.text m write_data c.loop-g.g run c.loop-g.invariant.1 c.from-writes.ensures,
    )

pub returns : goal.returns
unfolding in_mode
returns c =
    let e : c.loop-g.g ≡ ticks_of c.args.m.now = omega (arith, c.ticks-g-end.ensures, c.loop-g.auto.g-end, c.loop-g-test.false) in
    (rw (← e) c.loop-g.invariant.0, rw (← e) c.loop-g.invariant.1)
