-- Which load a code is: what the load of its shape leaves, by the places and fields that the code found.
-- Assumes nothing.
use mathlib.Core.Path.{◌≡◌, ◌∙◌}
use mathlib.Core.Logic.{◌≢◌, ◌⊎◌, inl, inr}
use mathlib.Core.Bool.{Bool}
use mathlib.Core.List.{List}
use Prim.Native.Nat.{ℕ, ◌+◌}
use native.Mathlib.Omega.{arith}
use lib.ListN.{get_or, set}
use borrow.Author.Tests.{ne_eqb}
use Rattle.layout.specs.Layout.{modifier_at, M0, M1, L0, L1, MIN, MRM, MSUM, MMODE}
use Rattle.layout.specs.Widths.{coefficient_bits}
use Rattle.command_fields.specs.Fields.{field, flag, code3, code4, code5, modifier_number}
use Rattle.command_load.specs.Loads.{loaded_unless, cleared_if, loaded_data, loaded_adjusted, loaded_then_cleared}
use Rattle.command_modifier.specs.ModifierLoads.{loaded_mm, loaded_ml, mmode_by, loaded_mmode, loaded_mrm, after_modifier_load}

module _ (m : List ℕ) (c : ℕ) where
  -- A code that is no load of a modifier's registers.
  not-mm : {r : ℕ} → r ≡ code5 c → ((r ≡ 0b11000) ⊎ (r ≡ 0b11010) → ⊥) → ((r ≡ 0b11001) ⊎ (r ≡ 0b11011) → ⊥) → code3 c ≢ 0b110
  not-mm {r} f m0 m1 e =
      let vv00 : r ≢ 0b11000 = λ q. m0 (inl q) in
      let vv01 : r ≢ 0b11001 = λ q. m1 (inl q) in
      let vv10 : r ≢ 0b11010 = λ q. m0 (inr q) in
      let vv11 : r ≢ 0b11011 = λ q. m1 (inr q) in
      omega arith

  not-ml : {r : ℕ} → r ≡ code5 c → r ≢ 0b11100 → r ≢ 0b11101 → code4 c ≢ 0b1110
  not-ml f l0 l1 e = omega arith

  pub other-code : {r : ℕ} → r ≡ code5 c → ((r ≡ 0b11000) ⊎ (r ≡ 0b11010) → ⊥) → ((r ≡ 0b11001) ⊎ (r ≡ 0b11011) → ⊥)
      → r ≢ 0b11100 → r ≢ 0b11101 → r ≢ 0b11110 → r ≢ 0b11111 → m ≡ after_modifier_load m c
  unfolding after_modifier_load
  other-code f m0 m1 l0 l1 mmode mrm =
      rw (
        ne_eqb (code3 c) 0b110 (not-mm f m0 m1),
        ne_eqb (code4 c) 0b1110 (not-ml f l0 l1),
        ne_eqb (code5 c) 0b11110 (λ e. mmode (f ∙ e)),
        ne_eqb (code5 c) 0b11111 (λ e. mrm (f ∙ e)),
      )

  -- VV x0 and x1.
  pub vv-m0 : {r : ℕ} → r ≡ code5 c → (r ≡ 0b11000) ⊎ (r ≡ 0b11010) → (code3 c ≡ 0b110) × (field 28 28 c ≡ 0)
  vv-m0 f (inl e) = (omega arith, omega arith)
  vv-m0 f (inr e) = (omega arith, omega arith)

  pub vv-m1 : {r : ℕ} → r ≡ code5 c → (r ≡ 0b11001) ⊎ (r ≡ 0b11011) → (code3 c ≡ 0b110) × (field 28 28 c ≡ 1)
  vv-m1 f (inl e) = (omega arith, omega arith)
  vv-m1 f (inr e) = (omega arith, omega arith)

  pub loads-mmode : {after : List ℕ} → code5 c ≡ 0b11110 → after ≡ loaded_mmode m c → after ≡ after_modifier_load m c
  unfolding after_modifier_load
  loads-mmode p e =
      let q : code3 c ≡ 0b111 = omega arith in
      let r : code4 c ≡ 0b1111 = omega arith in
      rw (e, q, r, p)

  module _ {u : ℕ} {after : List ℕ} (at : u ≡ modifier_at (modifier_number c)) where
    pub loads-m0 : (code3 c ≡ 0b110) × (field 28 28 c ≡ 0) → after ≡ loaded_adjusted m c (u + M0) coefficient_bits → after ≡ after_modifier_load m c
    unfolding after_modifier_load loaded_mm
    loads-m0 (p, q) e = rw (e, at, p, q)

    pub loads-m1 : (code3 c ≡ 0b110) × (field 28 28 c ≡ 1) → after ≡ loaded_adjusted m c (u + M1) coefficient_bits → after ≡ after_modifier_load m c
    unfolding after_modifier_load loaded_mm
    loads-m1 (p, q) e = rw (e, at, p, q)

    pub loads-l0 : code5 c ≡ 0b11100 → after ≡ loaded_data m c (u + L0) → after ≡ after_modifier_load m c
    unfolding after_modifier_load loaded_ml
    loads-l0 p e =
        let q : code3 c ≡ 0b111 = omega arith in
        let r : code4 c ≡ 0b1110 = omega arith in
        let n : field 28 28 c ≡ 0 = omega arith in
        rw (e, at, q, r, n)

    pub loads-l1 : code5 c ≡ 0b11101 → after ≡ loaded_data m c (u + L1) → after ≡ after_modifier_load m c
    unfolding after_modifier_load loaded_ml
    loads-l1 p e =
        let q : code3 c ≡ 0b111 = omega arith in
        let r : code4 c ≡ 0b1110 = omega arith in
        let n : field 28 28 c ≡ 1 = omega arith in
        rw (e, at, q, r, n)

    pub loads-mrm : {v w : ℕ} → code5 c ≡ 0b11111 → v ≡ field 8 15 c → w ≡ field 16 23 c → after ≡ loaded_then_cleared m c (u + MRM) v (u + MIN) w (u + L1)
        → after ≡ after_modifier_load m c
    unfolding after_modifier_load loaded_mrm
    loads-mrm p v w e =
        let q : code3 c ≡ 0b111 = omega arith in
        let r : code4 c ≡ 0b1111 = omega arith in
        rw (e, at, v, w, q, r, p)

    -- MMODE, MSUM and the clearing of L0, one after the other.
    pub mmode-msum : {first second : List ℕ} {s k : Bool} {v : ℕ} → first ≡ set m (u + MMODE) (mmode_by (get_or m (u + MMODE) 0) c)
        → s ≡ flag 5 c → v ≡ field 17 23 c → second ≡ loaded_unless s first (u + MSUM) v
        → k ≡ flag 6 c → after ≡ cleared_if k second (u + L0) → after ≡ loaded_mmode m c
    unfolding loaded_mmode
    mmode-msum e es ev f ek g = rw (g, f, e, ek, es, ev, at)
