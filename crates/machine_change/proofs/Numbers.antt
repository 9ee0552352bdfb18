-- The change that three numbers ask for: what is said of it is said of the numbers.
-- Assumes nothing.
use mathlib.Core.Path.{◌≡◌, refl, sym, ap}
use mathlib.Core.Bool.{Bool, true, false, cond, true≢false}
use Prim.Native.Nat.{ℕ, ◌<◌}
use native.Mathlib.Omega.{arith}
use borrow.Author.Tests.{eqb-true, eqb-false, lt-leb, ne_eqb}
use lib.Dec.{eqb}
use Rattle.std.specs.Prelude.{Option, Some, None}
use Rattle.layout.specs.Machine.{Machine}
use Rattle.machine_change.specs.declared.Register.TheVariants.{Gmode, Gsum, Gfm, Dac}
use Rattle.machine_change.specs.declared.PartialChange.{PartialChange}
use Rattle.machine_change.specs.declared.PartialChange.TheVariants.{Sets, TickMore, TickFewer}
use Rattle.machine_change.specs.Change.{Change, changed_by, concerned}
use Rattle.machine_change.specs.Kinds.{change_of_kind, of_numbers}
use Rattle.machine_change.specs.AsCoded.{let_through}

abbrev held : PartialChange → Option PartialChange → PartialChange
held d (Some x) = x
held d None = d

abbrev holds : Option PartialChange → Bool
holds (Some x) = true
holds None = false

module _ (kind g v : ℕ) where
  abbrev c : Change
  c = record { kind = kind; generator = g; value = v }

  -- What looks at no generator and no value of a change of T gives the same of the change asked for as of the numbers.
  pub same-by : {A : Type 0} (f : Change → A) → f (record { kind = 4; generator = 0; value = 0 }) ≡ f (record { kind = 4; generator = g; value = v })
      → f (record { kind = 5; generator = 0; value = 0 }) ≡ f (record { kind = 5; generator = g; value = v })
      → {x : PartialChange} → Some x ≡ of_numbers c → f (change_of_kind x) ≡ f c
  same-by f more fewer {x} e = go (eqb kind 0) refl (eqb kind 1) refl (eqb kind 2) refl (eqb kind 3) refl (eqb kind 4) refl (eqb kind 5) refl e
    where
      go : (a0 : Bool) → eqb kind 0 ≡ a0 → (a1 : Bool) → eqb kind 1 ≡ a1 → (a2 : Bool) → eqb kind 2 ≡ a2 → (a3 : Bool) → eqb kind 3 ≡ a3
          → (a4 : Bool) → eqb kind 4 ≡ a4 → (a5 : Bool) → eqb kind 5 ≡ a5
          → Some x
          ≡ cond a0 (Some (Sets Gmode g v))
          (cond a1 (Some (Sets Gsum g v)) (cond a2 (Some (Sets Gfm g v)) (cond a3 (Some (Sets Dac g v)) (cond a4 (Some TickMore) (cond a5 (Some TickFewer) None)))))
          → f (change_of_kind x) ≡ f c
      go true p a1 p1 a2 p2 a3 p3 a4 p4 a5 p5 q = rw (ap (held x) q, eqb-true kind 0 p) refl
      go false p0 true p a2 p2 a3 p3 a4 p4 a5 p5 q = rw (ap (held x) q, eqb-true kind 1 p) refl
      go false p0 false p1 true p a3 p3 a4 p4 a5 p5 q = rw (ap (held x) q, eqb-true kind 2 p) refl
      go false p0 false p1 false p2 true p a4 p4 a5 p5 q = rw (ap (held x) q, eqb-true kind 3 p) refl
      go false p0 false p1 false p2 false p3 true p a5 p5 q = rw (ap (held x) q, eqb-true kind 4 p) more
      go false p0 false p1 false p2 false p3 false p4 true p q = rw (ap (held x) q, eqb-true kind 5 p) fewer
      go false p0 false p1 false p2 false p3 false p4 false p5 q = absurd (true≢false (ap holds q))

  -- Where there is none, the kind is above all others.
  pub above-kinds : None ≡ of_numbers c → 5 < kind
  above-kinds e = go (eqb kind 0) refl (eqb kind 1) refl (eqb kind 2) refl (eqb kind 3) refl (eqb kind 4) refl (eqb kind 5) refl e
    where
      go : (a0 : Bool) → eqb kind 0 ≡ a0 → (a1 : Bool) → eqb kind 1 ≡ a1 → (a2 : Bool) → eqb kind 2 ≡ a2 → (a3 : Bool) → eqb kind 3 ≡ a3
          → (a4 : Bool) → eqb kind 4 ≡ a4 → (a5 : Bool) → eqb kind 5 ≡ a5
          → None
          ≡ cond a0 (Some (Sets Gmode g v))
          (cond a1 (Some (Sets Gsum g v)) (cond a2 (Some (Sets Gfm g v)) (cond a3 (Some (Sets Dac g v)) (cond a4 (Some TickMore) (cond a5 (Some TickFewer) None)))))
          → 5 < kind
      go true p a1 p1 a2 p2 a3 p3 a4 p4 a5 p5 q = absurd (true≢false (sym (ap holds q)))
      go false p0 true p a2 p2 a3 p3 a4 p4 a5 p5 q = absurd (true≢false (sym (ap holds q)))
      go false p0 false p1 true p a3 p3 a4 p4 a5 p5 q = absurd (true≢false (sym (ap holds q)))
      go false p0 false p1 false p2 true p a4 p4 a5 p5 q = absurd (true≢false (sym (ap holds q)))
      go false p0 false p1 false p2 false p3 true p a5 p5 q = absurd (true≢false (sym (ap holds q)))
      go false p0 false p1 false p2 false p3 false p4 true p q = absurd (true≢false (sym (ap holds q)))
      go false p0 false p1 false p2 false p3 false p4 false p5 q =
          omega (arith, eqb-false kind 0 p0, eqb-false kind 1 p1, eqb-false kind 2 p2, eqb-false kind 3 p3, eqb-false kind 4 p4, eqb-false kind 5 p5)

  module _ (m : Machine) where
    pub let-same : {x : PartialChange} → Some x ≡ of_numbers c → let_through m (change_of_kind x) ≡ let_through m c
    unfolding let_through
    let-same e = same-by (let_through m) refl refl e

    pub concerned-same : {x : PartialChange} → Some x ≡ of_numbers c → concerned m (change_of_kind x) ≡ concerned m c
    unfolding concerned
    concerned-same e = same-by (concerned m) refl refl e

    pub changed-same : {x : PartialChange} → Some x ≡ of_numbers c → changed_by m (change_of_kind x) ≡ changed_by m c
    unfolding changed_by
    changed-same e = same-by (changed_by m) refl refl e

    -- Of no change nothing is let through, and it concerns the generator that it names.
    pub none-let : None ≡ of_numbers c → false ≡ let_through m c
    unfolding let_through
    none-let e =
        let high = above-kinds e in
        let more : 3 < kind = omega (arith, high) in
        rw (ne_eqb kind 4 (λ z. omega (arith, z, high)), ne_eqb kind 5 (λ z. omega (arith, z, high)), lt-leb kind 3 more)

    pub none-concerned : None ≡ of_numbers c → {h : ℕ} → h ≡ g → h ≡ concerned m c
    unfolding concerned
    none-concerned e i =
        let high = above-kinds e in
        rw (ne_eqb kind 4 (λ z. omega (arith, z, high)), ne_eqb kind 5 (λ z. omega (arith, z, high))) i
