-- The questions of the call are those of a compare and two more; they and the first point that fails decide what it answers.
-- Assumes nothing.
use mathlib.Core.Path.{◌≡◌, refl, sym, ◌∙◌}
use mathlib.Core.Logic.{◌≢◌}
use mathlib.Core.Bool.{Bool, true, false, cond}
use mathlib.Core.List.{[], ◌∷◌}
use Rattle.std.specs.Prelude.{Option, None, Some}
use Prim.Native.Nat.{ℕ, ◌≤◌, ◌<◌}
use native.Mathlib.Omega.{arith}
use borrow.Author.Tests.{eqb-true, eqb-false, eq-eqb, ne_eqb, leb-true, le-leb, lt-leb}
use lib.Dec.{eqb, leb}
use lib.ListN.{length}
use Rattle.base_lists.proofs.Counts.{count-below-le}
use Rattle.layout.specs.Layout.{machine_length, generators}
use Rattle.layout.specs.Machine.{Machine, Order, Items, ticks_of}
use Rattle.layout_texts.specs.Texts.{run_mode_at}
use Rattle.layout_texts.specs.declared.Text.{Text}
use Rattle.base_questions.specs.Questions.{asked}
use Rattle.layout_modes.specs.Modes.{read_data}
use Rattle.machine.specs.Questions.{question1, question2}
use Rattle.machine.proofs.Asked.{machine-passes}
use Rattle.pass_order.specs.Order.{question5, question6, question7, IsOrder, in_mode}
use Rattle.compare_agreement.specs.Agreement.{Settings, settings_of}
use Rattle.compare_agreement.specs.Points.{Failing, first_point}
use Rattle.compare_agreement.proofs.FirstPoint.{by-point}
use Rattle.compare_first.specs.declared.Failing.{Failing as Found}
use Rattle.compare_first.specs.Found.{found}
use Rattle.base_fills.specs.Fills.{filled}
use Rattle.parts_model.specs.Contents.{contents_for, item_for, items_for}
use Rattle.compare_traces.specs.AsCoded.{Traceable}
use Rattle.compare.specs.Compare.{compare_refusal}
use Rattle.compare.proofs.Answers.{compare-passes}
use Rattle.compare.proofs.Asked.{is-comparable}
use Rattle.parts.specs.Parts.{Parting, parts_refusal, parts_refused, shown, parts_of}

-- What the first point's answer tells.
pub record IsFound (p : Found) (f : Failing) : Type 0 where
  pub is : f ≡ record { point = p.point; place = p.place; sounding = p.sounding }
  pub named : p.point ≢ 0

pub found_some : (f : Failing) {p : Found} → Some p ≡ found f → IsFound p f
found_some f {p} e = go (eqb f.point 0) refl e
  where
    go : (b : Bool) → eqb f.point 0 ≡ b → Some p ≡ cond b None (Some (record { point = f.point; place = f.place; sounding = f.sounding })) → IsFound p f
    go true q e = absurd (let z : ◌≡◌ {A = ℕ} 0 1 = cc in omega arith)
    go false q e =
        let i : p ≡ record { point = f.point; place = f.place; sounding = f.sounding } = cc in
        record { is = rw i refl; named = rw i (eqb-false f.point 0 q) }

found_none : (f : Failing) → ◌≡◌ {A = Option Found} None (found f) → f.point ≡ 0
found_none f e = go (eqb f.point 0) refl e
  where
    go : (b : Bool) → eqb f.point 0 ≡ b → ◌≡◌ {A = Option Found} None (cond b None (Some (record { point = f.point; place = f.place; sounding = f.sounding }))) → f.point ≡ 0
    go true q e = eqb-true f.point 0 q
    go false q e = absurd (let z : ◌≡◌ {A = ℕ} 0 1 = cc in omega arith)

-- Where no point fails no place is named.
no_place : (s : Settings) (o₁ o₂ : Order) → (first_point s o₁ o₂).point ≡ 0 → (first_point s o₁ o₂).place ≡ 0
no_place s o₁ o₂ =
    by-point s o₁ o₂ (λ f. f.point ≡ 0 → f.place ≡ 0) (λ h e. absurd (omega arith)) (λ h e. absurd (omega arith)) (λ h e. absurd (omega arith)) (λ h e. absurd (omega arith)) (λ e. refl)

module _ (text : Text) (m : Machine) (o₁ o₂ : Order) (contents : Machine) (items : Items) where
  -- The questions of a compare, then two more.
  by-compare : parts_refusal text m o₁ o₂ contents items
      ≡ cond (eqb (compare_refusal text m o₁ o₂) 0) (asked (question1 contents ∷ question7 text m items ∷ [])) (compare_refusal text m o₁ o₂)
  unfolding parts_refusal compare_refusal asked
  by-compare =
      go (question1 m).yes (question2 text m).yes (question5 (ticks_of m) o₁).yes (question6 (ticks_of m) o₁).yes (question5 (ticks_of m) o₂).yes (question6 (ticks_of m) o₂).yes
      (cond (question1 contents).yes (cond (question7 text m items).yes 0 7) 1)
    where
      go : (a b c d e f : Bool) (x : ℕ)
          → ◌≡◌ {A = ℕ} (cond a (cond b (cond c (cond d (cond e (cond f x 6) 5) 6) 5) 2) 1)
          (cond (eqb (cond a (cond b (cond c (cond d (cond e (cond f 0 6) 5) 6) 5) 2) 1) 0) x (cond a (cond b (cond c (cond d (cond e (cond f 0 6) 5) 6) 5) 2) 1))
      go true true true true true true x = refl
      go true true true true true false x = refl
      go true true true true false f x = refl
      go true true true false e f x = refl
      go true true false d e f x = refl
      go true false c d e f x = refl
      go false b c d e f x = refl

  pub refused-compare : {n : ℕ} → n ≡ compare_refusal text m o₁ o₂ → n ≢ 0 → n ≡ parts_refusal text m o₁ o₂ contents items
  refused-compare e h = rw (by-compare, ← e, ne_eqb _ 0 h)

  module _ (passed : compare_refusal text m o₁ o₂ ≡ 0) where
    later : parts_refusal text m o₁ o₂ contents items ≡ asked (question1 contents ∷ question7 text m items ∷ [])
    later = by-compare ∙ rw passed

    pub refused-run : length contents ≢ machine_length → 1 ≡ parts_refusal text m o₁ o₂ contents items
    unfolding asked
    refused-run h = rw (later, ne_eqb (length contents) machine_length h)

    module _ (whole : length contents ≡ machine_length) where
      pub refused-items : {n : ℕ} → n ≡ in_mode text m read_data → length items < n → 7 ≡ parts_refusal text m o₁ o₂ contents items
      unfolding asked
      refused-items e h = rw (later, eq-eqb (length contents) machine_length whole, ← e, lt-leb _ (length items) h)

      pub none-refused : {n : ℕ} → n ≡ in_mode text m read_data → n ≤ length items → 0 ≡ parts_refusal text m o₁ o₂ contents items
      unfolding asked
      none-refused e h = rw (later, eq-eqb (length contents) machine_length whole, ← e, le-leb _ (length items) h)

  -- A call that is not refused has passed them.
  pub record PartsPassed : Type 0 where
    pub compared : compare_refusal text m o₁ o₂ ≡ 0
    pub whole : length contents ≡ machine_length
    pub reads : in_mode text m read_data ≤ length items

  pub parts-passes : parts_refusal text m o₁ o₂ contents items ≡ 0 → PartsPassed
  unfolding asked
  parts-passes e = first (eqb (compare_refusal text m o₁ o₂) 0) refl
    where
      two : (a b : Bool) → ◌≡◌ {A = ℕ} (cond a (cond b 0 7) 1) 0 → (a ≡ true) × (b ≡ true)
      two true true q = (refl, refl)
      two true false q = absurd (omega arith)
      two false b q = absurd (omega arith)

      first : (v : Bool) → eqb (compare_refusal text m o₁ o₂) 0 ≡ v → PartsPassed
      first true q =
          let zero = eqb-true (compare_refusal text m o₁ o₂) 0 q in
          let both = two (eqb (length contents) machine_length) (leb (in_mode text m read_data) (length items)) (sym (later zero) ∙ e) in
          record {
            compared = zero;
            whole = eqb-true (length contents) machine_length both.0;
            reads = leb-true (in_mode text m read_data) (length items) both.1;
          }
      first false q = absurd (eqb-false (compare_refusal text m o₁ o₂) 0 q (sym (by-compare ∙ rw q) ∙ e))

  -- What such a call hands on: a machine and orders of which traces can be made, runs of a machine's length, and items enough, of at most 256 generators.
  pub record Ready : Type 0 where
    pub traceable : Traceable m
    pub ordered : IsOrder (ticks_of m) o₁ × IsOrder (ticks_of m) o₂
    pub runs : (length m ≡ machine_length) × (length contents ≡ machine_length)
    pub items-enough : (in_mode text m read_data ≤ length items) × (in_mode text m read_data ≤ generators)

  pub is-ready : parts_refusal text m o₁ o₂ contents items ≡ 0 → Ready
  unfolding in_mode
  is-ready e =
      let passed = parts-passes e in
      let compared = is-comparable text m o₁ o₂ passed.compared in
      record {
        traceable = compared.traceable;
        ordered = compared.ordered;
        runs = ((machine-passes text m (compare-passes text m o₁ o₂ passed.compared).machine).0, passed.whole);
        items-enough = (passed.reads, omega (arith, count-below-le (λ g. eqb (run_mode_at text m g) read_data) (ticks_of m), compared.traceable.ticks));
      }

  -- What is answered, by whether the call is refused.
  pub parts-number : (parts_of text m o₁ o₂ contents items).number ≡ parts_refusal text m o₁ o₂ contents items
  unfolding parts_of
  parts-number = go (eqb (parts_refusal text m o₁ o₂ contents items) 0) refl
    where
      go : (b : Bool) → eqb (parts_refusal text m o₁ o₂ contents items) 0 ≡ b
          → (cond b (shown text m (first_point (settings_of text m) o₁ o₂) contents items) (parts_refused (parts_refusal text m o₁ o₂ contents items) contents items)).number
          ≡ parts_refusal text m o₁ o₂ contents items
      go true e = sym (eqb-true (parts_refusal text m o₁ o₂ contents items) 0 e)
      go false e = refl

  pub parts-shown : parts_refusal text m o₁ o₂ contents items ≡ 0 → parts_of text m o₁ o₂ contents items ≡ shown text m (first_point (settings_of text m) o₁ o₂) contents items
  unfolding parts_of
  parts-shown e = rw e

  pub parts-refused : parts_refusal text m o₁ o₂ contents items ≢ 0
      → parts_of text m o₁ o₂ contents items ≡ parts_refused (parts_refusal text m o₁ o₂ contents items) contents items
  unfolding parts_of
  parts-refused h = rw (ne_eqb (parts_refusal text m o₁ o₂ contents items) 0 h)

  -- The answer by what the code finds.
  module _ {number : ℕ} (is : number ≡ parts_refusal text m o₁ o₂ contents items) where
    pub says-refused : number ≢ 0 → parts_refused number contents items ≡ parts_of text m o₁ o₂ contents items
    unfolding parts_of
    says-refused h = rw (← is, ne_eqb number 0 h)

    module _ (none : number ≡ 0) where
      shown-is : shown text m (first_point (settings_of text m) o₁ o₂) contents items ≡ parts_of text m o₁ o₂ contents items
      shown-is = sym (parts-shown (sym is ∙ none))

      pub says-equal : ◌≡◌ {A = Option Found} None (found (first_point (settings_of text m) o₁ o₂))
          → ◌≡◌ {A = Parting} (record { number = 0; point = 0; place = 0; contents = contents; items = items }) (parts_of text m o₁ o₂ contents items)
      says-equal e =
          let p = found_none (first_point (settings_of text m) o₁ o₂) e in
          let q = no_place (settings_of text m) o₁ o₂ p in
          rw (← shown-is, p, q)

      pub says-parted : {f : Found} → Some f ≡ found (first_point (settings_of text m) o₁ o₂) → {n : ℕ} → n ≡ in_mode text m read_data → {written : Machine} {listed : Items}
          → written ≡ contents_for text m f.point f.sounding → listed ≡ filled 0 1 n (item_for f.point f.sounding) items
          → ◌≡◌ {A = Parting} (record { number = 0; point = f.point; place = f.place; contents = written; items = listed }) (parts_of text m o₁ o₂ contents items)
      unfolding items_for
      says-parted {f} e en ew el =
          let w = found_some (first_point (settings_of text m) o₁ o₂) e in
          rw (← shown-is, w.is, ne_eqb f.point 0 w.named, ew, el, en)
