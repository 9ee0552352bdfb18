-- Passes with nothing between them: one that is let through is followed by one that is, and each finds the settings of the first. So a unit that runs in the first runs unchanged in all,
-- and where no other modifier puts a word nothing else writes its slot.
-- Assumes nothing.
use mathlib.Core.Path.{◌≡◌, refl, sym, ap, ◌∙◌}
use mathlib.Core.Logic.{◌≢◌}
use mathlib.Core.Bool.{false, true≢false}
use mathlib.Core.List.{List, [], ◌∷◌, ◌++◌}
use Prim.Native.Nat.{ℕ, zero, suc, ◌+◌, ◌/◌, ◌≤◌, ◌<◌}
use native.Mathlib.Numerals.{add-one}
use native.Mathlib.Omega.{arith}
use borrow.Author.Tests.{eqb-false}
use lib.ListN.{get_or, replicate}
use lib.Seq.{get_or-drop}
use Rattle.layout.specs.Layout.{delay_at, delay_p}
use Rattle.layout.specs.Machine.{Machine, Memory, Order, ticks_of}
use Rattle.layout_texts.specs.declared.Text.TheVariants.{Of1978}
use Rattle.layout_modes.specs.Modes.{wait, running_c, read_data, write_data}
use Rattle.delay.specs.Delay.{loaded}
use Rattle.delay_questions.specs.Questions.{invokes, named_by, delay_of}
use Rattle.delay_questions.proofs.Kept.{runs-by-mode}
use Rattle.base_sequences.specs.Sequences.{by_number}
use Rattle.pass_model.specs.Pass.{Call, pass_refusal, pass_of}
use Rattle.pass_model.proofs.Asked.{passes, past_memory}
use Rattle.pass_laws.specs.Passes.{PassData, call_of, no_data, Rung, rung_by, passes_by_number}
use Rattle.pass_laws.specs.Settings.{SettingsKept}
use Rattle.pass_laws.proofs.Passing.{admitted, good-passes, pass-number}
use Rattle.pass_laws.proofs.PassValid.{pass-valid}
use Rattle.pass_laws.proofs.PassModes.{pass-modes}
use Rattle.pass_laws.proofs.PassDelays.{pass-memory, pass-units}
use Rattle.pass_laws.proofs.PassSettings.{pass-settings}
use Rattle.pass_laws.proofs.PassesInSequence.{rung-parts, by-number-none}
use Rattle.pass_delay_laws.specs.InPasses.{acts, puts_word, InvokesUnit, RunsUnchanged, NothingElseWrites}
use Rattle.pass_delay_laws.specs.NothingBetween.{machine_in, call_in}

-- A pass that is let through is followed by one that is.
next-let : (m : Machine) (order : Order) (memory : Memory) (d : PassData) → pass_refusal Of1978 m (call_of order memory d) ≡ 0
    → pass_refusal Of1978 (pass_of Of1978 m (call_of order memory d)).machine (call_of order (pass_of Of1978 m (call_of order memory d)).memory d) ≡ 0
next-let m order memory d e =
    let call = call_of order memory d in
    let r = pass_of Of1978 m call in
    let a = passes Of1978 m call e in
    let p = admitted Of1978 m call e in
    past_memory Of1978 r.machine (call_of order r.memory d) (good-passes Of1978 r.machine (pass-valid Of1978 m call p.good))
    (rw (pass-settings Of1978 m call).t a.ordered)
    (rw (pass-modes Of1978 m call read_data p.ticks (eqb-false read_data wait refl) (eqb-false read_data running_c refl)) a.reads)
    (rw (pass-modes Of1978 m call write_data p.ticks (eqb-false write_data wait refl) (eqb-false write_data running_c refl)) a.writes)
    (pass-memory Of1978 m call a.memory)
    ∙ pass-units Of1978 m call p.ticks a.units

-- One pass more is a pass on what the others left.
one_more : {A : Type 0} (n : ℕ) (x : A) → replicate (suc n) x ≡ replicate n x ++ (x ∷ [])
one_more zero x = refl
one_more {A} (suc n) x = ap (λ (l : List A). x ∷ l) (one_more n x)

-- What tells whether a modifier of r puts a word, and which unit it invokes, is as in m.
record Alike (m r : Machine) : Type 0 where
  ticks : ticks_of r ≡ ticks_of m
  invoking : (k : ℕ) → k < 128 → invokes r k ≡ invokes m k
  naming : (k : ℕ) → k < 128 → named_by r k ≡ named_by m k
  mode : (u : ℕ) → u < 32 → (delay_of r u).p ≡ (delay_of m u).p

mode-same : (m r : Machine) (u : ℕ) → get_or r (delay_at u + delay_p) 0 ≡ get_or m (delay_at u + delay_p) 0 → (delay_of r u).p ≡ (delay_of m u).p
unfolding loaded
mode-same m r u e = rw (get_or-drop (delay_at u) r delay_p 0, get_or-drop (delay_at u) m delay_p 0, e)

settings-alike : (m r : Machine) → SettingsKept Of1978 m r → Alike m r
settings-alike m r s =
    record {
      ticks = s.t;
      invoking = λ k h. rw (s.modifier k h).mmode;
      naming = λ k h. rw (s.modifier k h).mrm;
      mode = λ u h. mode-same m r u (s.delay u h).p;
    }

alike-on : {m r q : Machine} → Alike m r → Alike r q → Alike m q
alike-on a b =
    record {
      ticks = b.ticks ∙ a.ticks;
      invoking = λ k h. b.invoking k h ∙ a.invoking k h;
      naming = λ k h. b.naming k h ∙ a.naming k h;
      mode = λ u h. b.mode u h ∙ a.mode u h;
    }

alike_self : (m : Machine) → Alike m m
alike_self m = record { ticks = refl; invoking = λ k h. refl; naming = λ k h. refl; mode = λ u h. refl }

module _ (m r : Machine) (s : Alike m r) where
  acts-alike : (u : ℕ) → u < 32 → acts r u ≡ acts m u
  acts-alike u h = rw s.ticks (runs-by-mode (ticks_of m) u (delay_of m u) (delay_of r u) (s.mode u h))

  puts-alike : (k : ℕ) → k < 128 → puts_word r k ≡ puts_word m k
  puts-alike k h = rw (s.invoking k h, s.naming k h, acts-alike (named_by m k) (omega arith), s.mode (named_by m k) (omega arith))

module _ (m : Machine) (memory : Memory) where
  abbrev order : Order
  order = by_number (ticks_of m)

  abbrev machine : ℕ → Machine
  machine i = machine_in m memory i

  abbrev call : ℕ → Call
  call i = call_in m memory i

  -- Pass i+1 finds what pass i leaves.
  rung-next : (i : ℕ) → passes_by_number Of1978 (i + 1) m memory
      ≡ rung_by Of1978 order m memory (replicate i no_data ++ (no_data ∷ []))
  rung-next i = rw (add-one i) (ap (λ (ds : List PassData). rung_by Of1978 order m memory ds) (one_more i no_data))

  pub machine-next : (i : ℕ) → machine (i + 1) ≡ (pass_of Of1978 (machine i) (call i)).machine
  unfolding rung_by
  machine-next i = ap (λ (r : Rung). r.machine) (rung-next i ∙ rung-parts Of1978 order (replicate i no_data) (no_data ∷ []) m memory)

  pub memory-next : (i : ℕ) → (call (i + 1)).memory ≡ (pass_of Of1978 (machine i) (call i)).memory
  unfolding rung_by
  memory-next i = ap (λ (r : Rung). r.memory) (rung-next i ∙ rung-parts Of1978 order (replicate i no_data) (no_data ∷ []) m memory)

  -- What each pass is.
  record Goes (i : ℕ) : Type 0 where
    through : pass_refusal Of1978 (machine i) (call i) ≡ 0
    alike : Alike m (machine i)

  goes : pass_refusal Of1978 (machine 0) (call 0) ≡ 0 → (i : ℕ) → Goes i
  goes e zero = record { through = e; alike = rw (by-number-none Of1978 m memory) (alike_self m) }
  goes e (suc i) =
      let g = goes e i in
      let kept = settings-alike (machine i) (pass_of Of1978 (machine i) (call i)).machine (pass-settings Of1978 (machine i) (call i)) in
      rw (← (add-one i))
      record {
        through = rw (machine-next i, memory-next i) (next-let (machine i) order (call i).memory no_data g.through);
        alike = rw (machine-next i) (alike-on g.alike kept);
      }

  -- A unit that runs in the first pass runs unchanged in all.
  module _ (k u : ℕ) (i : InvokesUnit k u m (call_of order memory no_data)) where
    first : pass_refusal Of1978 (machine 0) (call 0) ≡ 0
    unfolding rung_by
    first = sym (pass-number Of1978 m (call_of order memory no_data)) ∙ i.through

    few : ticks_of m ≤ 256
    few = (admitted Of1978 m (call_of order memory no_data) (sym (pass-number Of1978 m (call_of order memory no_data)) ∙ i.through)).ticks

    low : k < 128
    low = omega (arith, i.below, few)

    low-unit : u < 32
    low-unit = omega (arith, i.named)

    pub alone-runs : (n : ℕ) → RunsUnchanged n k u machine call
    alone-runs n =
        record {
          taken = λ j l.
              let g = goes first j in
              record {
                through = pass-number Of1978 (machine j) (call j) ∙ g.through;
                below = rw g.alike.ticks i.below;
                invoked = g.alike.invoking k low ∙ i.invoked;
                named = g.alike.naming k low ∙ i.named;
                acting = acts-alike m (machine j) g.alike u low-unit ∙ i.acting;
              };
          unchanged = λ j l. ap (λ (w : Machine). delay_of w u) (machine-next j);
        }

    -- Where no other modifier puts a word, nothing else writes any place.
    pub alone-writes : ((j : ℕ) → j ≢ k → j < ticks_of m / 2 → puts_word m j ≡ false) → (place n : ℕ) → NothingElseWrites place n k machine call
    alone-writes none place n =
        record {
          above = λ j a l g b e. absurd (true≢false (sym e ∙ quiet j a (λ q. omega arith) (omega (arith, b, (goes first j).alike.ticks))));
          between = λ j l. ap (λ (w : Memory). get_or w place 0) (memory-next j);
          below = λ j a l b e. absurd (true≢false (sym e ∙ quiet (j + 1) a (λ q. omega arith) (omega (arith, i.below))));
        }
      where
        quiet : (j a : ℕ) → a ≢ k → a < ticks_of m / 2 → puts_word (machine j) a ≡ false
        quiet j a d l = puts-alike m (machine j) (goes first j).alike a (omega (arith, few)) ∙ none a d l
