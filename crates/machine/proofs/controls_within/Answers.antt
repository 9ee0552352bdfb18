-- `machine::controls_within` meets its contract: a word of a run has 32 bits, so the counter's passes its test unasked.
-- Assumes nothing.
use mathlib.Core.Bool.{◌&&◌, and-true}
use Prim.Native.Nat.{◌^◌}
use native.Mathlib.Omega.{arith}
use borrow.Author.Tests.{lt-ltb}
use lib.ListN.{get_or}
use Rattle.layout.specs.Layout.{dx_at, t_at, n_at, counter_at}
use Rattle.layout.specs.Widths.{word_bits, counter_bits}
use Rattle.machine.specs.Questions.{bits, between}
use Rattle.machine.proofs.controls_within.Goals as goal

pub returns : goal.returns
returns c =
    let m = c.args.m.now in
    rw (
      lt-ltb (get_or m counter_at 0) (2 ^ counter_bits) (omega (arith, c.shared_slice_known-6-1.given counter_at)),
      and-true (bits word_bits (get_or m dx_at 0) && between 1 256 (get_or m t_at 0) && between 2 1025 (get_or m n_at 0)),
    )
