-- What a run mode is not, by what is off or on in it.
-- Assumes nothing.
use mathlib.Core.Path.{◌≡◌, refl, sym, ap, ◌∙◌}
use mathlib.Core.Bool.{Bool, true, false, not, ◌||◌}
use Prim.Native.Nat.{ℕ, zero, suc, ◌<◌}
use native.Mathlib.Omega.{arith}
use lib.Dec.{eqb}
use borrow.Author.Tests.{eqb-true}
use Rattle.base_lists.specs.Lists.{is_one_of}
use Rattle.layout_modes.specs.declared.Switches.{Switches}
use Rattle.layout_modes.proofs.RunModes.{envelope-output, oscillator-output, replaces-alone, envelope-tells, oscillator-tells}
use Rattle.layout_modes.specs.Modes.{switches_of, oscillator_on, envelope_on, free, adds, replaces, wait, running_a, running_b, running_c, read_data, write_data, write_dac}

or-false : (a b : Bool) → (a || b) ≡ false → (a ≡ false) × (b ≡ false)
or-false false b h = (refl, h)
or-false true b h = (h, absurd (never h))
  where
    never : true ≡ false → ⊥
    never e = let z : ◌≡◌ {A = ℕ} 0 1 = cc in omega arith

-- A run mode in which a switch is off is not a mode in which it is on, and the other way round.
module _ (p : ℕ → Bool) (r k : ℕ) where
  pub off-not-on : p r ≡ false → p k ≡ true → eqb r k ≡ false
  off-not-on off on = go (eqb r k) refl
    where
      go : (c : Bool) → eqb r k ≡ c → c ≡ false
      go false e = refl
      go true e = sym on ∙ sym (ap p (eqb-true r k e)) ∙ off

  pub on-not-off : p r ≡ true → p k ≡ false → eqb r k ≡ false
  on-not-off on off = go (eqb r k) refl
    where
      go : (c : Bool) → eqb r k ≡ c → c ≡ false
      go false e = refl
      go true e = sym on ∙ ap p (eqb-true r k e) ∙ off

-- Nothing adds, replaces or is free where the envelope is off.
pub record Quiet (r : ℕ) : Type 0 where
  pub no_add : adds r ≡ false
  pub no-replace : replaces r ≡ false
  pub not_free : free r ≡ false

pub quiet : (r : ℕ) → envelope_on r ≡ false → Quiet r
unfolding envelope_on adds replaces free is_one_of
quiet r h =
    let a = or-false (eqb r running_a) _ h in
    let b = or-false (eqb r running_b) _ a.1 in
    let c = or-false (eqb r running_c) _ b.1 in
    let d = or-false (eqb r read_data) _ c.1 in
    record { no_add = rw (a.0, b.0, c.0); no-replace = rw d.0; not_free = rw (b.0, c.0) }

-- Modes 0000 and 0001 have nothing on and send nothing.
pub record Idle (r : ℕ) : Type 0 where
  pub no-envelope : envelope_on r ≡ false
  pub no-oscillator : oscillator_on r ≡ false
  pub no-DAC : eqb r write_dac ≡ false
  pub no_write : eqb r write_data ≡ false

pub idle : (r : ℕ) → r < 2 → Idle r
unfolding envelope_on oscillator_on is_one_of
idle zero h = record { no-envelope = refl; no-oscillator = refl; no-DAC = refl; no_write = refl }
idle (suc zero) h = record { no-envelope = refl; no-oscillator = refl; no-DAC = refl; no_write = refl }
idle (suc (suc r)) h = absurd (omega arith)

-- Where the envelope is on, the output adds or it replaces.
pub outputs : (r : ℕ) → envelope_on r ≡ true → replaces r ≡ not (adds r)
outputs r on = go (adds r) (replaces r) refl refl
  where
    go : (a b : Bool) → adds r ≡ a → replaces r ≡ b → b ≡ not a
    go true true ea eb = sym ea ∙ replaces-alone r eb
    go true false ea eb = refl
    go false true ea eb = refl
    go false false ea eb = sym neither ∙ sym (envelope-output r) ∙ on
      where
        neither : (adds r || replaces r) ≡ false
        neither = rw (ea, eb)

-- What the switches of a run mode tell where they are tested.
module _ (on : Switches) (r : ℕ) (is : on ≡ switches_of r) where
  pub envelope-is : on.envelope ≡ true → envelope_on r ≡ true
  envelope-is h = sym (envelope-tells r) ∙ rw (← is) h

  pub envelope-not : on.envelope ≡ false → envelope_on r ≡ false
  envelope-not h = sym (envelope-tells r) ∙ rw (← is) h

  pub oscillator-not : on.oscillator ≡ false → oscillator_on r ≡ false
  oscillator-not h = sym (oscillator-tells r) ∙ rw (← is) h

  -- An oscillator that is on beside an envelope that is off is a generator that waits.
  pub waits-is : on.envelope ≡ false → on.oscillator ≡ true → r ≡ wait
  waits-is e o = eqb-true r wait (sym alone ∙ (sym (oscillator-tells r) ∙ rw (← is) o))
    where
      alone : oscillator_on r ≡ eqb r wait
      alone = oscillator-output r ∙ rw (quiet r (envelope-not e)).no_add
