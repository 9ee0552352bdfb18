-- Which load a code is: what the load of its shape leaves, by the places and fields that the code found.
-- Assumes nothing.
use mathlib.Core.Path.{◌≡◌}
use mathlib.Core.Logic.{◌≢◌}
use mathlib.Core.List.{List}
use Prim.Native.Nat.{ℕ, ◌+◌, ◌<◌, ◌≤◌}
use native.Mathlib.Omega.{arith}
use lib.Dec.{lit<, lit≤}
use borrow.Author.Tests.{ne_eqb}
use Rattle.layout.specs.Layout.{generator_at, GO, GJ, GK, GN, GM, GP, GQ, GL, GSUM, GFM, GMODE}
use Rattle.layout.specs.Widths.{gj_bits, gq_bits}
use Rattle.command_fields.specs.Fields.{field, code3, code4, generator_number}
use Rattle.command_load.specs.Loads.{loaded_data, loaded_adjusted, loaded_two, loaded_then_cleared}
use Rattle.command_generator.specs.GeneratorLoads.{loaded_gq, loaded_gj, loaded_gp, loaded_gn, loaded_gl, loaded_gk, loaded_gmode, loaded_go, after_generator_load}

module _ (m : List ℕ) (c : ℕ) where
  -- A code that is no load of a generator's registers.
  other-code : code3 c ≢ 0b001 → code3 c ≢ 0b010 → ((k : ℕ) → 0b0110 ≤ k → k < 0b1100 → code4 c ≢ k) → m ≡ after_generator_load m c
  unfolding after_generator_load
  other-code p q h =
      rw (
        ne_eqb (code3 c) 0b001 p,
        ne_eqb (code3 c) 0b010 q,
        ne_eqb (code4 c) 0b0110 (h 0b0110 (lit≤ tt) (lit< tt)),
        ne_eqb (code4 c) 0b0111 (h 0b0111 (lit≤ tt) (lit< tt)),
        ne_eqb (code4 c) 0b1000 (h 0b1000 (lit≤ tt) (lit< tt)),
        ne_eqb (code4 c) 0b1001 (h 0b1001 (lit≤ tt) (lit< tt)),
        ne_eqb (code4 c) 0b1010 (h 0b1010 (lit≤ tt) (lit< tt)),
        ne_eqb (code4 c) 0b1011 (h 0b1011 (lit≤ tt) (lit< tt)),
      )

  pub lower-code : code4 c < 0b0010 → m ≡ after_generator_load m c
  lower-code h = other-code (λ e. omega arith) (λ e. omega arith) (λ k a b e. omega arith)

  pub higher-code : 0b1100 ≤ code4 c → m ≡ after_generator_load m c
  higher-code h = other-code (λ e. omega arith) (λ e. omega arith) (λ k a b e. omega arith)

  module _ {g : ℕ} {after : List ℕ} (at : g ≡ generator_at (generator_number c)) where
    pub loads-gq : 0b0010 ≤ code4 c → code4 c < 0b0100 → after ≡ loaded_adjusted m c (g + GQ) gq_bits → after ≡ after_generator_load m c
    unfolding after_generator_load loaded_gq
    loads-gq h k e = let q : code3 c ≡ 0b001 = omega arith in rw (e, at, q)

    pub loads-gj : 0b0100 ≤ code4 c → code4 c < 0b0110 → after ≡ loaded_adjusted m c (g + GJ) gj_bits → after ≡ after_generator_load m c
    unfolding after_generator_load loaded_gj
    loads-gj h k e = let q : code3 c ≡ 0b010 = omega arith in rw (e, at, q)

    pub loads-gp : code4 c ≡ 0b0110 → after ≡ loaded_data m c (g + GP) → after ≡ after_generator_load m c
    unfolding after_generator_load loaded_gp
    loads-gp p e = let q : code3 c ≡ 0b011 = omega arith in rw (e, at, q, p)

    pub loads-gn : {v w : ℕ} → code4 c ≡ 0b0111 → v ≡ field 9 19 c → w ≡ field 20 23 c → after ≡ loaded_two m c (g + GN) v (g + GM) w → after ≡ after_generator_load m c
    unfolding after_generator_load loaded_gn
    loads-gn p v w e = let q : code3 c ≡ 0b011 = omega arith in rw (e, at, v, w, q, p)

    pub loads-gl : {v w : ℕ} → code4 c ≡ 0b1000 → v ≡ field 6 17 c → w ≡ field 18 23 c → after ≡ loaded_two m c (g + GL) v (g + GSUM) w → after ≡ after_generator_load m c
    unfolding after_generator_load loaded_gl
    loads-gl p v w e = let q : code3 c ≡ 0b100 = omega arith in rw (e, at, v, w, q, p)

    pub loads-gk : code4 c ≡ 0b1001 → after ≡ loaded_data m c (g + GK) → after ≡ after_generator_load m c
    unfolding after_generator_load loaded_gk
    loads-gk p e = let q : code3 c ≡ 0b100 = omega arith in rw (e, at, q, p)

    pub loads-gmode : {v w : ℕ} → code4 c ≡ 0b1010 → v ≡ field 7 16 c → w ≡ field 17 23 c → after ≡ loaded_then_cleared m c (g + GMODE) v (g + GFM) w (g + GK) → after ≡ after_generator_load m c
    unfolding after_generator_load loaded_gmode
    loads-gmode p v w e = let q : code3 c ≡ 0b101 = omega arith in rw (e, at, v, w, q, p)

    pub loads-go : code4 c ≡ 0b1011 → after ≡ loaded_data m c (g + GO) → after ≡ after_generator_load m c
    unfolding after_generator_load loaded_go
    loads-go p e = let q : code3 c ≡ 0b101 = omega arith in rw (e, at, q, p)
