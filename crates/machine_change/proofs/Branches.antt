-- What the code's branches leave, as the definitions have it.
-- Assumes nothing.
use mathlib.Core.Path.{◌≡◌, refl, sym, ap, ◌∙◌}
use mathlib.Core.Logic.{◌≢◌}
use mathlib.Core.Bool.{Bool, true, false, ◌&&◌}
use native.Mathlib.Omega.{arith}
use Prim.Native.Nat.{ℕ, ◌+◌, ◌-◌, ◌/◌, ◌%◌, ◌<◌, ◌≤◌}
use borrow.Author.Tests.{eq-eqb, ne_eqb, ltb-true, lt-ltb, le-ltb, leb-true}
use lib.Dec.{leb, ltb}
use lib.ListN.{get_or, set}
use Rattle.base_lists.proofs.Below.{and_first, and_second}
use Rattle.layout.specs.Layout.{t_at, n_at, update_ticks_at}
use Rattle.layout.specs.Machine.{Machine, Reaches, ticks_of, update_ticks, with_update_ticks}
use Rattle.layout.proofs.UpdateTicks.{ticks-by-t}
use Rattle.layout_modes.specs.Modes.{built_run, built_oscillator}
use Rattle.layout_texts.specs.declared.Text.TheVariants.{Of1978}
use Rattle.machine.specs.Questions.{good_gmode}
use Rattle.machine_change.specs.declared.Register.{Register}
use Rattle.machine_change.specs.declared.Register.TheVariants.{Gmode, Gsum, Gfm, Dac}
use Rattle.machine_change.specs.Kinds.{kind_of}
use Rattle.machine_change.specs.Change.{Change, tick_more, tick_fewer, register_changed, with_ticks, changed_by, concerned}
use Rattle.machine_change.specs.AsCoded.{value_fits, let_through}

-- A GMODE.
pub not-built : (x : ℕ) → 1024 ≤ x → false ≡ good_gmode Of1978 x
not-built x h = rw (le-ltb x 1024 h)

pub is-built : (x : ℕ) → x < 1024 → {a b : Bool} → a ≡ built_run (x / 64) → b ≡ built_oscillator (x % 16) → (a && b) ≡ good_gmode Of1978 x
is-built x h a b = rw (lt-ltb x 1024 h, a, b)

module _ (m : Machine) (kind g v : ℕ) where
  abbrev c : Change
  c = record { kind = kind; generator = g; value = v }

  -- Whether a change is let through.
  pub more-let : kind ≡ tick_more → ltb (ticks_of m) 256 ≡ let_through m c
  unfolding let_through
  more-let k = rw (eq-eqb kind tick_more k)

  module _ (no_more : kind ≢ tick_more) where
    pub fewer-let : kind ≡ tick_fewer → ltb 1 (ticks_of m) ≡ let_through m c
    unfolding let_through
    fewer-let k = rw (ne_eqb kind tick_more no_more, eq-eqb kind tick_fewer k)

    pub register-let : kind ≢ tick_fewer → {b : Bool} → b ≡ value_fits kind v → ((leb kind 3 && ltb g 256) && b) ≡ let_through m c
    unfolding let_through
    register-let k e = rw (ne_eqb kind tick_more no_more, ne_eqb kind tick_fewer k, e)

  -- The generator that it concerns.
  pub more-concerns : kind ≡ tick_more → {t : ℕ} → t ≡ ticks_of m → t ≡ concerned m c
  unfolding concerned
  more-concerns k e = rw (eq-eqb kind tick_more k) e

  module _ (no_more : kind ≢ tick_more) where
    pub fewer-concerns : kind ≡ tick_fewer → {t : ℕ} → t ≡ ticks_of m → t - 1 ≡ concerned m c
    unfolding concerned
    fewer-concerns k e = rw (ne_eqb kind tick_more no_more, eq-eqb kind tick_fewer k, e)

    pub register-concerns : kind ≢ tick_fewer → {h : ℕ} → h ≡ g → h ≡ concerned m c
    unfolding concerned
    register-concerns k e = rw (ne_eqb kind tick_more no_more, ne_eqb kind tick_fewer k) e

  -- The changed machine.
  pub more-changed : kind ≡ tick_more → {n : Machine} → n ≡ with_ticks m (ticks_of m + 1) → n ≡ changed_by m c
  unfolding changed_by
  more-changed k e = rw (eq-eqb kind tick_more k) e

  module _ (no_more : kind ≢ tick_more) where
    pub fewer-changed : kind ≡ tick_fewer → {n : Machine} → n ≡ with_ticks m (ticks_of m - 1) → n ≡ changed_by m c
    unfolding changed_by
    fewer-changed k e = rw (ne_eqb kind tick_more no_more, eq-eqb kind tick_fewer k) e

    pub register-changed : kind ≢ tick_fewer → {n : Machine} → n ≡ register_changed m c → n ≡ changed_by m c
    unfolding changed_by
    register-changed k e = rw (ne_eqb kind tick_more no_more, ne_eqb kind tick_fewer k) e

  -- What a change that is let through is.
  pub more_room : kind ≡ tick_more → let_through m c ≡ true → ticks_of m < 256
  more_room k e = ltb-true (ticks_of m) 256 (more-let k ∙ e)

  pub fewer-room : kind ≢ tick_more → kind ≡ tick_fewer → let_through m c ≡ true → 1 < ticks_of m
  fewer-room h k e = ltb-true 1 (ticks_of m) (fewer-let h k ∙ e)

  pub register-fits : kind ≢ tick_more → kind ≢ tick_fewer → let_through m c ≡ true → (kind ≤ 3) × (g < 256) × (value_fits kind v ≡ true)
  register-fits h k e =
      let all = register-let h k refl ∙ e in
      let first = and_first (leb kind 3 && ltb g 256) (value_fits kind v) all in (
        leb-true kind 3 (and_first (leb kind 3) (ltb g 256) first),
        ltb-true g 256 (and_second (leb kind 3) (ltb g 256) first),
        and_second (leb kind 3 && ltb g 256) (value_fits kind v) all,
      )

-- A change of a register is none of T: whether it is let through, and what it concerns.
pub sets-kind : (r : Register) → (kind_of r ≢ tick_more) × (kind_of r ≢ tick_fewer)
sets-kind Gmode = ((λ z. omega (arith, z)), (λ z. omega (arith, z)))
sets-kind Gsum = ((λ z. omega (arith, z)), (λ z. omega (arith, z)))
sets-kind Gfm = ((λ z. omega (arith, z)), (λ z. omega (arith, z)))
sets-kind Dac = ((λ z. omega (arith, z)), (λ z. omega (arith, z)))

pub sets-let : (m : Machine) (r : Register) (g v : ℕ) {b : Bool} → b ≡ value_fits (kind_of r) v → (ltb g 256 && b) ≡ let_through m (record { kind = kind_of r; generator = g; value = v })
unfolding let_through
sets-let m Gmode g v e = ap (λ (x : Bool). ltb g 256 && x) e
sets-let m Gsum g v e = ap (λ (x : Bool). ltb g 256 && x) e
sets-let m Gfm g v e = ap (λ (x : Bool). ltb g 256 && x) e
sets-let m Dac g v e = ap (λ (x : Bool). ltb g 256 && x) e

pub sets-concern : (m : Machine) (r : Register) (g v : ℕ) {h : ℕ} → h ≡ g → h ≡ concerned m (record { kind = kind_of r; generator = g; value = v })
sets-concern m r g v e = let no = sets-kind r in register-concerns m (kind_of r) g v no.0 no.1 e

-- A DAC number that fits.
pub dac-below : (r : Register) (v : ℕ) → r ≡ Dac → value_fits (kind_of r) v ≡ true → v < 16
unfolding value_fits
dac-below r v e h = ltb-true v 16 (rw e at h)

-- T and its update ticks.
pub ticks-set : (m : Machine) (t : ℕ) → Reaches m → {n : ℕ} → n ≡ update_ticks t (get_or m n_at 0) → set (set m t_at t) update_ticks_at n ≡ with_ticks m t
unfolding with_update_ticks
ticks-set m t r e = ap (set (set m t_at t) update_ticks_at) (e ∙ sym (ticks-by-t m r t))
