-- A step by the three ways that the code takes: envelope on, waiting, nothing on.
-- Assumes nothing.
use mathlib.Core.Path.{◌≡◌, refl, ◌∙◌}
use mathlib.Core.Bool.{Bool, true, false}
use Prim.Native.Nat.{ℕ, ◌<◌}
use native.Mathlib.Numerals.{add-one}
use Rattle.base_lists.specs.Lists.{is_one_of}
use Rattle.layout.specs.Layout.{generator_at}
use Rattle.layout.specs.Machine.{Machine, Items, Places}
use Rattle.layout_modes.specs.declared.Switches.{Switches}
use Rattle.layout_modes.specs.Modes.{switches_of, adds, is_adds, envelope_on, oscillator_on, wait, write_data, write_dac}
use Rattle.layout_modes.proofs.RunModes.{adds-tells}
use Rattle.layout_modes.proofs.Exclusions.{quiet, idle, on-not-off, outputs}
use Rattle.pass_sums.specs.Sums.{f_at}
use Rattle.generator.specs.declared.Generator.{Generator}
use Rattle.generator.specs.declared.Sounded.{Sounded}
use Rattle.layout_texts.specs.declared.Text.{Text}
use Rattle.layout_texts.specs.Texts.{distance_of}
use Rattle.generator.specs.Generator.{stored}
use Rattle.generator_turn.specs.AsCoded.{run_of, after_of, sounded_by}
use Rattle.generator_turn.proofs.Turns.{untold, rests-in, no-trigger}
use Rattle.pass_model.specs.Generators.{generators_of, generator_of, generator_turn, State, triggered_below, fed, summed, step}
use Rattle.pass_model.proofs.Turns.{parts_of, turn-parts, waits-silent}
use Rattle.pass_model.specs.Clipped.{Marks, sum_leaves, marked_at, marked}
use Rattle.pass_outputs.specs.declared.Taking.{Taking}
use Rattle.pass_outputs.specs.AsCoded.{triggering, heard, Sending, sent}
use Rattle.pass_generators.specs.AsCoded.{WithinWidths, state_of, Sounding, sounded}
use Rattle.pass_generators.proofs.Words.{put_same}

module _ (text : Text) (items : Items) (m : Machine) (places : Places) (t : Taking) (g : ℕ) (u : Generator) (f : ℕ) (is-u : u ≡ generator_of m g) (is_f : f ≡ f_at t.sums u.gfm) where
  abbrev s : State
  s = state_of m places t

  -- The turn by its parts.
  turn-of : (b : Bool) → generator_turn text s.words s.sums g b ≡ parts_of text u f b
  turn-of b = turn-parts text s.words s.sums g b ∙ rw (is_f, is-u)

  -- The envelope is on. The step, and its marks, where the output adds and where it replaces.
  sounds-as : (a : Bool) {v : Sounding} → adds (run_of text u) ≡ a → envelope_on (run_of text u) ≡ true → v ≡ sounded text items (record { words = m; taking = t }) g u f →
      state_of v.words places v.taking ≡ step (generators_of text) items s g
  unfolding step fed summed sounded triggering heard envelope_on is_one_of
  sounds-as true ea on e =
      let r = run_of text u in
      rw (
        e,
        turn-of (triggered_below (distance_of text) s.triggered g),
        untold text u f (triggered_below (distance_of text) s.triggered g) (on-not-off envelope_on r wait on refl),
        on-not-off envelope_on r write_dac on refl,
        on-not-off envelope_on r write_data on refl,
        outputs r on,
        ea,
      )
      refl
  sounds-as false ea on e =
      let r = run_of text u in
      rw (
        e,
        turn-of (triggered_below (distance_of text) s.triggered g),
        untold text u f (triggered_below (distance_of text) s.triggered g) (on-not-off envelope_on r wait on refl),
        on-not-off envelope_on r write_dac on refl,
        on-not-off envelope_on r write_data on refl,
        outputs r on,
        ea,
        add-one,
      )
      refl

  pub sounds-on : {v : Sounding} → envelope_on (run_of text u) ≡ true → v ≡ sounded text items (record { words = m; taking = t }) g u f →
      state_of v.words places v.taking ≡ step (generators_of text) items s g
  sounds-on on e = sounds-as (adds (run_of text u)) refl on e

  marked-as : (a : Bool) {v : Sounding} → adds (run_of text u) ≡ a → envelope_on (run_of text u) ≡ true → v ≡ sounded text items (record { words = m; taking = t }) g u f →
      v.taking.clipped ≡ marked (generators_of text) items s t.clipped g
  unfolding marked sum_leaves sounded triggering heard
  marked-as true ea on e = rw (e, turn-of (triggered_below (distance_of text) s.triggered g), outputs (run_of text u) on, ea) refl
  marked-as false ea on e = rw (e, turn-of (triggered_below (distance_of text) s.triggered g), outputs (run_of text u) on, ea) refl

  pub sounds-marked : {v : Sounding} → envelope_on (run_of text u) ≡ true → v ≡ sounded text items (record { words = m; taking = t }) g u f →
      v.taking.clipped ≡ marked (generators_of text) items s t.clipped g
  sounds-marked on e = marked-as (adds (run_of text u)) refl on e

  -- The generator waits.
  pub waits-on : {words : Machine} → run_of text u ≡ wait → words ≡ stored m (generator_at g) (after_of text u f (triggered_below (distance_of text) t.triggered g)) →
      state_of words places t ≡ step (generators_of text) items s g
  unfolding step fed summed
  waits-on w e =
      let q = waits-silent text s.words s.sums g (triggered_below (distance_of text) s.triggered g) (rw (← is-u) w) in
      rw (e, q.no-trigger, q.no_add, q.no-replace, q.no-feed, q.no_write, turn-of (triggered_below (distance_of text) s.triggered g))

  pub waits-marked : (marks : Marks) → run_of text u ≡ wait → marks ≡ marked (generators_of text) items s marks g
  unfolding marked marked_at sum_leaves
  waits-marked marks w =
      let q = waits-silent text s.words s.sums g (triggered_below (distance_of text) s.triggered g) (rw (← is-u) w) in
      rw (q.no-replace, q.no_add)

  -- Nothing is on.
  pub sends-on : {v : Sending} → WithinWidths m g → envelope_on (run_of text u) ≡ false → oscillator_on (run_of text u) ≡ false →
      v ≡ sent text (record { words = m; places = places; taking = t }) u f →
      state_of v.words v.places v.taking ≡ step (generators_of text) items s g
  unfolding step fed summed sent
  sends-on low e o x =
      let q = quiet (run_of text u) e in
      rw (x, turn-of (triggered_below (distance_of text) s.triggered g), rests-in text u f (triggered_below (distance_of text) s.triggered g) e o, no-trigger text u f e, q.no_add, q.no-replace, same)
    where
      same : stored s.words (generator_at g) u ≡ s.words
      same = rw is-u (put_same s.words g low)

  -- To send sets no mark.
  pub sends-unmarked : {v : Sending} → v ≡ sent text (record { words = m; places = places; taking = t }) u f → v.taking.clipped ≡ t.clipped
  unfolding sent
  sends-unmarked x = rw x refl

  pub sends-marked : (marks : Marks) → envelope_on (run_of text u) ≡ false → marks ≡ marked (generators_of text) items s marks g
  unfolding marked marked_at sum_leaves
  sends-marked marks e =
      let q = quiet (run_of text u) e in
      rw (turn-of (triggered_below (distance_of text) s.triggered g), q.no-replace, q.no_add)

  -- Inactive or paused.
  pub step-idle : WithinWidths m g → run_of text u < 2 → s ≡ step (generators_of text) items s g
  unfolding sent
  step-idle low h =
      let i = idle (run_of text u) h in
      sends-on {v = record { words = m; places = places; taking = t }} low i.no-envelope i.no-oscillator (rw (i.no-DAC, i.no_write) refl)

  pub idle-marked : (marks : Marks) → run_of text u < 2 → marks ≡ marked (generators_of text) items s marks g
  idle-marked marks h = sends-marked marks (idle (run_of text u) h).no-envelope

-- What the code does for a generator whose envelope is on: x is what it brings.
module _ (text : Text) (items : Items) (v : Sounding) (g : ℕ) (u : Generator) (f : ℕ) {on : Switches} {x : Sounded} where
  pub sounds-by : {words : Machine} {triggered after : Taking} →
      on ≡ switches_of (run_of text u) → x ≡ sounded_by text u f → words ≡ stored v.words (generator_at g) x.unit →
      triggered ≡ triggering v.taking g x.triggers → after ≡ heard triggered items (is_adds on.output) u.gsum x.p →
      record { words = words; taking = after } ≡ sounded text items v g u f
  unfolding sounded
  sounds-by is ex ew et eh = rw (ew, eh, et, ex, is, adds-tells (run_of text u)) refl
