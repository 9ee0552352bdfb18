-- Two orders are equal throughout exactly when they agree: a list of one pass is demand 3's case, and where no generator waits each pass keeps the settings,
-- so that the next pass is its case again.
-- Assumes nothing.
use mathlib.Core.Path.{◌≡◌, refl, sym, ap, ap₂, ◌∙◌}
use mathlib.Core.Logic.{◌↔◌}
use mathlib.Core.Bool.{Bool, true, false}
use mathlib.Core.List.{List, [], ◌∷◌}
use Prim.Native.Nat.{ℕ, ◌/◌, ◌%◌, ◌^◌, ◌≤◌, ◌<◌}
use native.Mathlib.Omega.{arith}
use borrow.Author.Tests.{eqb-false, ltb-true, ltb-false}
use lib.Dec.{ltb}
use lib.ListN.{get_or}
use Rattle.layout_modes.specs.Modes.{wait, running_c, read_data, write_data}
use Rattle.layout.specs.Machine.{Machine, Order, Memory, ticks_of, gmode_at}
use Rattle.layout_texts.specs.declared.Text.{Text}
use Rattle.layout_texts.specs.declared.Text.TheVariants.{Of1978, Old}
use Rattle.layout_old_modes.specs.OldModes.{old_run, negative_gn}
use Rattle.machine.proofs.ValidMachine.{valid-controls}
use Rattle.pass_model.specs.Pass.{Call, pass_of}
use Rattle.pass_model.proofs.Asked.{is_whole, is-valid}
use Rattle.pass_laws.specs.Good.{Good}
use Rattle.pass_laws.specs.Passes.{PassData, call_of, Rung, rung_by}
use Rattle.pass_laws.specs.Settings.{GeneratorKept}
use Rattle.pass_laws.proofs.PassValid.{pass-valid}
use Rattle.pass_laws.proofs.PassSettings.{pass-settings}
use Rattle.pass_laws.proofs.PassModes.{pass-modes}
use Rattle.pass_laws.proofs.Untaken.{untaken-mode}
use Rattle.compare_agreement.specs.Agreement.{Agree}
use Rattle.compare.specs.Compare.{compare_of}
use Rattle.compare.proofs.Answers.{compare-passes, compare-number}
use Rattle.equal_orders.specs.Equal.{SameSending, SameSettings, Enough, Equal}
use Rattle.equal_orders.proofs.Texts.{run-same}
use Rattle.equal_orders.proofs.Theorem.{demand-3, compare-says}
use Rattle.equal_any_order.specs.EveryOrder.{Passes}
use Rattle.equal_ringings.specs.Ringings.{EnoughEach, none, more, NoneWaits, EqualThroughout}

-- What is a setting of a generator that sends is the same where its registers are kept, and from machine to machine.
sending-kept : (text : Text) (m r : Machine) (g : ℕ) → GeneratorKept text m r g → SameSending text m r g
sending-kept Of1978 m r g k = λ e. ap (λ (x : ℕ). x % 2 ^ 4) (sym k.go)
sending-kept Old m r g k = λ e. (ap negative_gn (sym k.gn), ap (λ (x : ℕ). x % 2 ^ 4) (sym k.gn))

sending-on : (text : Text) (l m n : Machine) (g : ℕ) → gmode_at l g ≡ gmode_at m g → SameSending text l m g → SameSending text m n g → SameSending text l n g
sending-on Of1978 l m n g s a b = λ e. a e ∙ b (ap (λ (x : ℕ). x / 2 ^ 6) (sym s) ∙ e)
sending-on Old l m n g s a b =
    λ e.
    let here = ap (λ (x : ℕ). old_run x) (sym s) ∙ e in
    ((a e).0 ∙ (b here).0, (a e).1 ∙ (b here).1)

-- What a pass wrote put before what the rest left.
abbrev before : List ℕ → Rung → Rung
before w r = record { machine = r.machine; memory = r.memory; written = w ∷ r.written }

module _ (text : Text) where
  -- What is enough is so by any order and over any delay memory.
  enough-by : (m : Machine) (order : Order) (memory : Memory) (d : PassData) → Enough text m (call_of [] [] d) → Enough text m (call_of order memory d)
  enough-by m order memory d e = record { items = e.items; places = e.places; reads = e.reads; writes = e.writes }

  -- Settings one after the other.
  pub settings-on : (l m n : Machine) → SameSettings text l m → SameSettings text m n → SameSettings text l n
  settings-on l m n a b =
      record {
        ticks = a.ticks ∙ b.ticks;
        modes = λ g h. a.modes g h ∙ b.modes g h;
        words = λ g h. a.words g h ∙ b.words g h;
        inputs = λ g h. a.inputs g h ∙ b.inputs g h;
        sending = λ g h. sending-on text l m n g (a.modes g h) (a.sending g h) (b.sending g h);
      }

  pub none-waits-same : (m n : Machine) → SameSettings text m n → ticks_of m ≤ 256 → NoneWaits text m → NoneWaits text n
  none-waits-same m n s few quiet g h =
      let l : g < ticks_of m = omega (arith, s.ticks) in
      let e = run-same text m n s g (omega arith) in
      (λ z. (quiet g l).0 (e ∙ z), λ z. (quiet g l).1 (e ∙ z))

  module _ (m : Machine) (good : Good text m) (quiet : NoneWaits text m) (call : Call) where
    few : ticks_of m ≤ 256
    few = (valid-controls text m good.is-valid).t_high

    -- A pass keeps the settings where no generator below T waits.
    mode-kept : (g : ℕ) → g < 256 → gmode_at m g ≡ gmode_at (pass_of text m call).machine g
    mode-kept g h = go (ltb g (ticks_of m)) refl
      where
        go : (b : Bool) → ltb g (ticks_of m) ≡ b → gmode_at m g ≡ gmode_at (pass_of text m call).machine g
        go true e =
            let q = quiet g (ltb-true g (ticks_of m) e) in
            sym (((pass-settings text m call).generator g h).gmode q.0 q.1)
        go false e = sym (untaken-mode text m call g (ltb-false g (ticks_of m) e) h)

    pub settings-kept : SameSettings text m (pass_of text m call).machine
    settings-kept =
        let kept = pass-settings text m call in
        record {
          ticks = sym kept.t;
          modes = mode-kept;
          words = λ g h. sym (kept.generator g h).gsum;
          inputs = λ g h. sym (kept.generator g h).gfm;
          sending = λ g h. sending-kept text m (pass_of text m call).machine g (kept.generator g h);
        }

    -- What is enough for the machine is enough for it after a pass.
    enough-kept : (ds : List PassData) → EnoughEach text m ds → EnoughEach text (pass_of text m call).machine ds
    enough-kept [] e = none
    enough-kept (d ∷ ds) (more e es) =
        more {d = d}
        (record {
          items = e.items;
          places = e.places;
          reads = rw (pass-modes text m call read_data few (eqb-false read_data wait refl) (eqb-false read_data running_c refl)) e.reads;
          writes = rw (pass-modes text m call write_data few (eqb-false write_data wait refl) (eqb-false write_data running_c refl)) e.writes;
        })
        (enough-kept ds es)

  module _ (m : Machine) (o₁ o₂ : Order) where
    -- Equal throughout, so equal in one pass.
    one-pass : EqualThroughout text m o₁ o₂ → Equal text m o₁ o₂
    unfolding rung_by
    one-pass e n good s call enough =
        let d : PassData = record { items = call.items; places = call.places } in
        let same = e n good s call.memory (d ∷ []) (more {d = d} (record { items = enough.items; places = enough.places; reads = enough.reads; writes = enough.writes }) none) in
        record {
          machine = ap (λ (r : Rung). r.machine) same;
          memory = ap (λ (r : Rung). r.memory) same;
          written = ap (λ (r : Rung). get_or r.written 0 []) same;
        }

    -- Equal in each pass, so equal throughout.
    each-pass : Equal text m o₁ o₂ → ticks_of m ≤ 256 → NoneWaits text m → (ds : List PassData) (n : Machine) → Good text n → SameSettings text m n → (memory : Memory) → EnoughEach text n ds
        → rung_by text o₁ n memory ds ≡ rung_by text o₂ n memory ds
    unfolding rung_by
    each-pass equal few quiet [] n good s memory e = refl
    each-pass equal few quiet (d ∷ ds) n good s memory (more e es) =
        let call = call_of o₁ memory d in
        let end = equal n good s call (enough-by n o₁ memory d e) in
        let calm = none-waits-same m n s few quiet in
        let next = (pass_of text n call).machine in
        let rest = each-pass equal few quiet ds next (pass-valid text n call good) (settings-on m n next s (settings-kept n good calm call)) (pass_of text n call).memory
        (enough-kept n good calm call ds es) in
        ap₂ before end.written (rest ∙ ap₂ (λ (a : Machine) (b : Memory). rung_by text o₂ a b ds) end.machine end.memory)

  -- The theorem: on a machine that passes questions 1 and 2, with no generator below T in 1001 or 1101, for orders that pass 5 and 6.
  pub whole-ringings : (m : Machine) → Good text m → NoneWaits text m → (o₁ o₂ : Order) → Passes m o₁ → Passes m o₂ → EqualThroughout text m o₁ o₂ ↔ Agree text m o₁ o₂
  whole-ringings m good quiet o₁ o₂ p₁ p₂ =
      let demand = demand-3 text m good o₁ o₂ p₁ p₂ in
      let few = (valid-controls text m good.is-valid).t_high in
      (λ e. demand.0 (one-pass m o₁ o₂ e), λ a n g s memory ds e. each-pass m o₁ o₂ (demand.1 a) few quiet ds n g s memory e)

  -- So where a comparison passes its questions and no generator below T is in 1001 or 1101, it says yes just where the orders are equal throughout.
  pub compare-throughout : (m : Machine) (o₁ o₂ : Order) → (compare_of text m o₁ o₂).number ≡ 0 → NoneWaits text m → ((compare_of text m o₁ o₂).equal ≡ true) ↔ EqualThroughout text m o₁ o₂
  compare-throughout m o₁ o₂ n quiet =
      let passed = compare-passes text m o₁ o₂ (sym (compare-number text m o₁ o₂) ∙ n) in
      let good : Good text m = record { whole = is_whole text m o₁ passed.machine; is-valid = is-valid text m o₁ passed.machine } in
      let whole = whole-ringings m good quiet o₁ o₂ passed.first passed.second in
      let demand = demand-3 text m good o₁ o₂ passed.first passed.second in
      let says = compare-says text m o₁ o₂ n in
      (λ e. whole.1 (demand.0 (says.0 e)), λ e. says.1 (demand.1 (whole.0 e)))
