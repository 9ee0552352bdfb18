-- Which settings a pass keeps: all registers of a generator but GJ, GK, GQ and the run modes 1001 and 1101 in GMODE, the addresses and modes of the modifiers, and all controls but the counter.
-- Assumes nothing.
use mathlib.Core.Path.{◌≡◌, refl, ◌∙◌}
use mathlib.Core.Logic.{◌≢◌}
use mathlib.Core.Bool.{Bool, true, false}
use Prim.Native.Nat.{ℕ, ◌+◌, ◌/◌, ◌≤◌, ◌<◌}
use native.Mathlib.Omega.{arith}
use native.Mathlib.Nat.{add-zero}
use borrow.Author.Tests.{eqb-true, eqb-false, ltb-true}
use lib.Dec.{eqb, ltb, lit<, lit≤}
use lib.ListN.{length, get_or}
use Rattle.layout.specs.Layout.{generator_at, modifier_at, dx_at, t_at, n_at, update_ticks_at, counter_at, lingering_at, linger_pass_at, overrun_at, delay_at, delay_x, delay_y, delay_z, delay_p, GN, GMODE}
use Rattle.machine.specs.Questions.{valid}
use Rattle.machine.proofs.ValidMachine.{reaches}
use Rattle.layout.specs.Machine.{Machine, Order, Items, ticks_of}
use Rattle.layout_texts.specs.Texts.{distance_of}
use Rattle.layout_texts.specs.declared.Text.{Text}
use Rattle.pass_sums.specs.Sums.{sums_of}
use Rattle.pass_sums.proofs.Blocks.{Outside, outside-before, outside-after}
use Rattle.pass_sums.proofs.Memory.{sums-quadrants}
use Rattle.pass_model.specs.Generators.{Generators, generators_of, State, triggered_below, step, steps, begun}
use Rattle.pass_model.specs.Pass.{Call, Outcome, ran, pass_of}
use Rattle.pass_model.proofs.Delays.{OffUnits, off-below, off-past, off-setting}
use Rattle.pass_model.proofs.Modifiers.{Elsewhere}
use Rattle.pass_model.proofs.Keeps.{ModeKept, mode-same, mode-on, turn-keeps}
use Rattle.pass_laws.specs.Settings.{SettingsKept}
use Rattle.pass_laws.proofs.Frames.{setting, apart-setting, apart_other, step-length, step-below, steps-keep, steps-middle, steps-beyond, steps-setting, steps-quadrants}
use Rattle.pass_laws.proofs.Turns.{step-registers}
use Rattle.pass_laws.proofs.TextTurns.{sixteen}
use Rattle.pass_laws.proofs.ValidPuts.{gmode-loaded}
use Rattle.pass_laws.proofs.Passing.{Admitted, generators_done, held_then, begun-words, begun-sums, admitted, pass-by, refused-machine, ran-machine}
use Rattle.pass_laws.proofs.Completing.{completed-word}
use Rattle.pass_laws.proofs.PassValid.{step-valid}

-- Of the turns of an order, on a valid machine.
record Modes (text : Text) (m : Machine) (k : ℕ) (words : Machine) : Type 0 where
  is-valid : valid text words ≡ true
  reach : 2816 ≤ length words
  kept : ModeKept text m words k

step-mode : (text : Text) (items : Items) (s : State) (g k : ℕ) → g < 256 → k < 256 → valid text s.words ≡ true → 2816 ≤ length s.words
    → ModeKept text s.words (step (generators_of text) items s g).words k
step-mode text items s g k h l e r = go (eqb k g) refl
  where
    of : Generators
    of = generators_of text

    gn : get_or (step of items s g).words (generator_at k + GN) 0 ≡ get_or s.words (generator_at k + GN) 0
    gn = step-below of items s g (generator_at k + GN) (omega arith) (apart-setting g k GN (setting GN refl refl refl refl refl))

    own : k ≡ g → ModeKept text s.words (step of items s g).words k
    own q =
        (turn-keeps text s.words s.sums k (triggered_below (distance_of text) s.triggered k)).mode (step of items s g).words
        (gmode-loaded text s.words e k l) (rw q (step-registers of items s g h r).gmode) gn

    go : (b : Bool) → eqb k g ≡ b → ModeKept text s.words (step of items s g).words k
    go true q = own (eqb-true k g q)
    go false q =
        mode-same text s.words (step of items s g).words k
        (step-below of items s g (generator_at k + GMODE) (omega arith) (apart_other g k 10 (lit< tt) (eqb-false k g q))) gn

steps-mode : (text : Text) (items : Items) (order : Order) (s : State) (k : ℕ) → k < 256 → ((i : ℕ) → i < length order → get_or order i 0 < 256)
    → valid text s.words ≡ true → 2816 ≤ length s.words → ModeKept text s.words (steps (generators_of text) items s order).words k
steps-mode text items order s k l below e r =
    (steps-keep (generators_of text) items (λ g. g < 256) (λ t. Modes text s.words k t.words) next order below s
    (record { is-valid = e; reach = r; kept = mode-same text s.words s.words k refl refl })).kept
  where
    next : (t : State) (g : ℕ) → g < 256 → Modes text s.words k t.words → Modes text s.words k (step (generators_of text) items t g).words
    next t g h p =
        record {
          is-valid = step-valid text items t g h p.is-valid;
          reach = rw (step-length (generators_of text) items t g) p.reach;
          kept = mode-on text _ _ _ k p.kept (step-mode text items t g k h l p.is-valid p.reach);
        }

same-settings : (text : Text) (m : Machine) → SettingsKept text m m
same-settings text m =
    record {
      generator = λ g h. record { go = refl; gn = refl; gm = refl; gp = refl; gl = refl; gsum = refl; gfm = refl; gmode = λ a b. refl; gmode_other = λ mode a b. refl; gmode_rest = refl };
      modifier = λ k h. record { min = refl; mrm = refl; msum = refl; mmode = refl };
      delay = λ u h. record { x = refl; z = refl; p = refl };
      dx = refl;
      t = refl;
      n = refl;
      update_ticks = refl;
      lingering = refl;
      linger_pass = refl;
      overrun = refl;
    }

module _ (text : Text) (m : Machine) (call : Call) (p : Admitted text m call.order) where
  abbrev last : Machine
  last = (ran text m call).machine

  abbrev start : State
  start = begun m (sums_of m) call.places

  abbrev done : State
  done = generators_done text m call

  -- From the generators to the end of the pass.
  completed-at : (i : ℕ) → Elsewhere i (ticks_of m / 2) → Outside i 3840 256 → i ≢ counter_at → get_or last i 0 ≡ get_or done.words i 0
  completed-at i a o c =
      rw (ran-machine text m call)
      (completed-word text (ticks_of m) (held_then text m call) done.sums
      (steps-quadrants (generators_of text) call.items call.order start (rw (begun-sums m (sums_of m) call.places) (sums-quadrants m (reaches m p.good.whole)))) i a o c)

  generator-word : (i : ℕ) → i < 2816 → get_or last i 0 ≡ get_or done.words i 0
  generator-word i h =
      completed-at i (record { not_at = λ k j a b e. omega arith; units = off-below i (omega arith) }) (outside-before i 3840 256 (omega arith)) (λ e. omega arith)

  setting-word : (g j : ℕ) → g < 256 → ltb j 11 ≡ true → eqb j 1 ≡ false → eqb j 2 ≡ false → eqb j 6 ≡ false → eqb j 10 ≡ false
      → get_or last (generator_at g + j) 0 ≡ get_or m (generator_at g + j) 0
  setting-word g j h a b c d e =
      generator-word (generator_at g + j) (omega (arith, ltb-true j 11 a))
      ∙ steps-setting (generators_of text) call.items call.order start g j h (setting j a b c d e)
      ∙ rw (begun-words m (sums_of m) call.places)

  modifier-word : (k j : ℕ) → k < 128 → 4 ≤ j → j < 8 → get_or last (modifier_at k + j) 0 ≡ get_or m (modifier_at k + j) 0
  modifier-word k j h a b =
      completed-at (modifier_at k + j) (record { not_at = λ n i c d e. omega arith; units = off-below (modifier_at k + j) (omega arith) }) (outside-before (modifier_at k + j) 3840 256 (omega arith)) (λ e. omega arith)
      ∙ steps-middle (generators_of text) call.items call.order start p.below (modifier_at k + j) (omega arith) (omega arith)
      ∙ rw (begun-words m (sums_of m) call.places)

  beyond-word : (i : ℕ) → 4112 ≤ i → OffUnits i → i ≢ counter_at → get_or last i 0 ≡ get_or m i 0
  beyond-word i h o c =
      completed-at i (record { not_at = λ n j a b e. omega (arith, p.ticks); units = o }) (outside-after i 3840 256 (omega arith)) c
      ∙ steps-beyond (generators_of text) call.items call.order start p.below (sixteen text) i h
      ∙ rw (begun-words m (sums_of m) call.places)

  control-word : (i : ℕ) → 4112 ≤ i → i < delay_at 0 → i ≢ counter_at → get_or last i 0 ≡ get_or m i 0
  control-word i h l c = beyond-word i h (off-below i l) c

  -- X, Z and P of a delay unit.
  unit-word : (u j : ℕ) → u < 32 → j < 4 → j ≢ delay_y → get_or last (delay_at u + j) 0 ≡ get_or m (delay_at u + j) 0
  unit-word u j h l n = beyond-word (delay_at u + j) (omega arith) (off-setting u j h l n) (λ e. omega arith)

  mode-word : (g : ℕ) → g < 256 → ModeKept text m last g
  unfolding begun
  mode-word g h =
      mode-on text m done.words last g
      (steps-mode text call.items call.order start g h p.below p.good.is-valid (omega (arith, (reaches m p.good.whole).all)))
      (mode-same text done.words last g (generator-word (generator_at g + GMODE) (omega arith)) (generator-word (generator_at g + GN) (omega arith)))

  ran-settings : SettingsKept text m last
  ran-settings =
      record {
        generator = λ g h.
            record {
              go = rw (add-zero (generator_at g)) at (setting-word g 0 h refl refl refl refl refl);
              gn = setting-word g 3 h refl refl refl refl refl;
              gm = setting-word g 4 h refl refl refl refl refl;
              gp = setting-word g 5 h refl refl refl refl refl;
              gl = setting-word g 7 h refl refl refl refl refl;
              gsum = setting-word g 8 h refl refl refl refl refl;
              gfm = setting-word g 9 h refl refl refl refl refl;
              gmode = λ a b. (mode-word g h).whole a b;
              gmode_other = λ mode a b. (mode-word g h).other mode a b;
              gmode_rest = (mode-word g h).rest;
            };
        modifier = λ k h.
            record {
              min = modifier-word k 4 h (lit≤ tt) (lit< tt);
              mrm = modifier-word k 5 h (lit≤ tt) (lit< tt);
              msum = modifier-word k 6 h (lit≤ tt) (lit< tt);
              mmode = modifier-word k 7 h (lit≤ tt) (lit< tt);
            };
        delay = λ u h.
            record {
              x = unit-word u delay_x h (lit< tt) (eqb-false delay_x delay_y refl);
              z = unit-word u delay_z h (lit< tt) (eqb-false delay_z delay_y refl);
              p = unit-word u delay_p h (lit< tt) (eqb-false delay_p delay_y refl);
            };
        dx = control-word dx_at (lit≤ tt) (lit< tt) (eqb-false dx_at counter_at refl);
        t = control-word t_at (lit≤ tt) (lit< tt) (eqb-false t_at counter_at refl);
        n = control-word n_at (lit≤ tt) (lit< tt) (eqb-false n_at counter_at refl);
        update_ticks = beyond-word update_ticks_at (lit≤ tt) (off-past update_ticks_at (lit≤ tt)) (eqb-false update_ticks_at counter_at refl);
        lingering = control-word lingering_at (lit≤ tt) (lit< tt) (eqb-false lingering_at counter_at refl);
        linger_pass = control-word linger_pass_at (lit≤ tt) (lit< tt) (eqb-false linger_pass_at counter_at refl);
        overrun = control-word overrun_at (lit≤ tt) (lit< tt) (eqb-false overrun_at counter_at refl);
      }

-- A pass keeps the settings.
pub pass-settings : (text : Text) (m : Machine) (call : Call) → SettingsKept text m (pass_of text m call).machine
pass-settings text m call =
    pass-by text m call (λ (r : Outcome). SettingsKept text m r.machine)
    (rw (refused-machine text m call) (same-settings text m)) (λ n. ran-settings text m call (admitted text m call n))
