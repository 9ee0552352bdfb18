-- What a pass keeps for the next one's questions 10, 11 and 12: delay memory its length and width, the delay units their settings, and Y at most Z.
-- Assumes nothing.
use mathlib.Core.Path.{◌≡◌, refl, sym, ◌∙◌}
use mathlib.Core.Logic.{◌≢◌}
use mathlib.Core.Bool.{Bool, true, false, cond}
use Prim.Native.Nat.{ℕ, ◌+◌, ◌/◌, ◌≤◌, ◌<◌}
use native.Mathlib.Omega.{arith}
use lib.Dec.{lit<}
use lib.ListN.{length, get_or, set, drop}
use lib.Seq.{get_or-drop, get_or-set_other}
use Rattle.base_lists.specs.Lists.{all_below}
use Rattle.base_lists.proofs.Below.{below-same}
use Rattle.layout.specs.Layout.{modifier_at, t_at, MRM, MMODE, delay_at, delay_words, delay_x, delay_y, delay_z, delay_p}
use Rattle.layout.specs.Machine.{Machine, ticks_of}
use Rattle.layout_texts.specs.declared.Text.{Text}
use Rattle.layout_texts.specs.declared.Text.TheVariants.{Of1978, Old}
use Rattle.base_questions.specs.Questions.{asked}
use Rattle.machine.proofs.ValidMachine.{reaches}
use Rattle.pass_sums.specs.Sums.{sums_of}
use Rattle.pass_sums.proofs.Memory.{sums-quadrants}
use Rattle.delay.specs.Delay.{loaded}
use Rattle.delay_questions.specs.Questions.{memory_good, good_line, lines_good, named_once, named_by, delay_of, fits}
use Rattle.delay_questions.proofs.Kept.{SameModifiers, fits_kept, named-once-same, good-line-same, lines-good-kept}
use Rattle.delay_questions.proofs.Memory.{good_length, good-words, good-from}
use Rattle.pass_model.specs.Generators.{generators_of, begun}
use Rattle.pass_model.specs.Pass.{unit_questions, Call, Outcome, ran, pass_of}
use Rattle.pass_model.proofs.Delays.{y_of, z_of, y-is, z-is}
use Rattle.pass_laws.proofs.Frames.{steps-length, steps-beyond, steps-quadrants}
use Rattle.pass_laws.proofs.TextTurns.{sixteen}
use Rattle.pass_laws.proofs.Passing.{Admitted, generators_done, held_then, begun-words, begun-sums, admitted, pass-by, refused-machine, refused-memory, ran-machine, ran-memory}
use Rattle.pass_laws.proofs.Completing.{completed-memory-length, completed-memory-low, completed-within}
use Rattle.pass_laws.proofs.PassSettings.{pass-settings}

-- Delay memory that passes question 10 passes it after a pass.
pub pass-memory : (text : Text) (m : Machine) (call : Call) → memory_good call.memory ≡ true → memory_good (pass_of text m call).memory ≡ true
pass-memory text m call good =
    pass-by text m call (λ (r : Outcome). memory_good r.memory ≡ true) (rw (refused-memory text m call) good)
    (λ n.
    let s = (generators_done text m call).sums in
    rw (ran-memory text m call)
    (good-from _ (completed-memory-length text (ticks_of m) (held_then text m call) s ∙ good_length call.memory good)
    (completed-memory-low text (ticks_of m) (held_then text m call) s (good-words call.memory good))))

-- A delay unit's X, Z and P in a machine's words, at their widths.
x-same : (m n : Machine) (u : ℕ) → get_or n (delay_at u + delay_x) 0 ≡ get_or m (delay_at u + delay_x) 0 → (delay_of n u).x ≡ (delay_of m u).x
unfolding loaded
x-same m n u e = rw (get_or-drop (delay_at u) n delay_x 0, get_or-drop (delay_at u) m delay_x 0, e)

z-same : (m n : Machine) (u : ℕ) → get_or n (delay_at u + delay_z) 0 ≡ get_or m (delay_at u + delay_z) 0 → (delay_of n u).z ≡ (delay_of m u).z
unfolding loaded
z-same m n u e = rw (get_or-drop (delay_at u) n delay_z 0, get_or-drop (delay_at u) m delay_z 0, e)

p-same : (m n : Machine) (u : ℕ) → get_or n (delay_at u + delay_p) 0 ≡ get_or m (delay_at u + delay_p) 0 → (delay_of n u).p ≡ (delay_of m u).p
unfolding loaded
p-same m n u e = rw (get_or-drop (delay_at u) n delay_p 0, get_or-drop (delay_at u) m delay_p 0, e)

module _ (text : Text) (m : Machine) (call : Call) where
  -- Y of a delay unit stays at most Z.
  ran-within : Admitted text m call.order → (u : ℕ) → u < 32 → y_of m u ≤ z_of m u → y_of (ran text m call).machine u ≤ z_of m u
  ran-within p u l e =
      let start = begun m (sums_of m) call.places in
      let h = held_then text m call in
      let start-words = begun-words m (sums_of m) call.places in
      let k = steps-quadrants (generators_of text) call.items call.order start (rw (begun-sums m (sums_of m) call.places) (sums-quadrants m (reaches m p.good.whole))) in
      let y : get_or h.words (delay_at u + delay_y) 0 ≡ get_or m (delay_at u + delay_y) 0 =
      steps-beyond (generators_of text) call.items call.order start p.below (sixteen text) (delay_at u + delay_y) (omega arith) ∙ rw start-words in
      let z : get_or h.words (delay_at u + delay_z) 0 ≡ get_or m (delay_at u + delay_z) 0 =
      steps-beyond (generators_of text) call.items call.order start p.below (sixteen text) (delay_at u + delay_z) (omega arith) ∙ rw start-words in
      let long : length h.words ≡ length m = steps-length (generators_of text) call.items call.order start ∙ rw start-words in
      let same : z_of h.words u ≡ z_of m u = rw z in
      rw (ran-machine text m call)
      (omega (arith, same, completed-within text (ticks_of m) h (generators_done text m call).sums k p.ticks u l (omega (arith, long, p.good.whole)) (rw (y, z) e)))

  within : (u : ℕ) → u < 32 → y_of m u ≤ z_of m u → y_of (pass_of text m call).machine u ≤ z_of m u
  within u l e = pass-by text m call (λ (r : Outcome). y_of r.machine u ≤ z_of m u) (rw (refused-machine text m call) e) (λ n. ran-within (admitted text m call n) u l e)

  -- A line that fits still fits after a pass.
  unit-fits : (u : ℕ) → u < 32 → fits (delay_of m u) ≡ true → fits (delay_of (pass_of text m call).machine u) ≡ true
  unit-fits u l e =
      let r = (pass_of text m call).machine in
      let kept = (pass-settings text m call).delay u l in
      fits_kept (delay_of m u) (delay_of r u) (x-same m r u kept.x) (z-same m r u kept.z)
      (λ b. omega (arith, y-is r u, z-is m u, within u l (omega (arith, y-is m u, z-is m u)))) e

  module _ (few : ticks_of m ≤ 256) where
    same-modifiers : SameModifiers m (pass_of text m call).machine
    same-modifiers =
        let kept = pass-settings text m call in
        record {
          ticks = kept.t;
          mrm = λ k h. (kept.modifier k (omega arith)).mrm;
          mmode = λ k h. (kept.modifier k (omega arith)).mmode;
        }

    -- A machine that passes question 11 passes it after a pass, and 12 is answered as before.
    pub pass-lines : lines_good m ≡ true → lines_good (pass_of text m call).machine ≡ true
    pass-lines e =
        lines-good-kept m (pass_of text m call).machine same-modifiers (λ u h. p-same m (pass_of text m call).machine u ((pass-settings text m call).delay u h).p) (λ u h. unit-fits u h) e

    pub pass-named : named_once (pass_of text m call).machine ≡ named_once m
    pass-named = named-once-same m (pass_of text m call).machine same-modifiers

-- What a text asks of the delay units stays answered yes.
pub pass-units : (text : Text) (m : Machine) (call : Call) → ticks_of m ≤ 256 → asked (unit_questions text m) ≡ 0 → asked (unit_questions text (pass_of text m call).machine) ≡ 0
unfolding asked
pass-units Of1978 m call few e = go (lines_good m) (named_once m) refl refl e
  where
    r : Machine
    r = (pass_of Of1978 m call).machine

    go : (a b : Bool) → lines_good m ≡ a → named_once m ≡ b → ◌≡◌ {A = ℕ} (cond a (cond b 0 12) 11) 0 → ◌≡◌ {A = ℕ} (cond (lines_good r) (cond (named_once r) 0 12) 11) 0
    go true true ea eb q = rw (pass-lines Of1978 m call few ea, pass-named Of1978 m call few, eb)
    go true false ea eb q = absurd (omega arith)
    go false b ea eb q = absurd (omega arith)
pass-units Old m call few e = refl

-- A delay unit is told by its seven words.
unit-same : (m n : Machine) (u : ℕ) → ((j : ℕ) → j < delay_words → get_or n (delay_at u + j) 0 ≡ get_or m (delay_at u + j) 0) → delay_of n u ≡ delay_of m u
unfolding loaded
unit-same m n u same =
    rw (at 0 (lit< tt), at 1 (lit< tt), at 2 (lit< tt), at 3 (lit< tt), at 4 (lit< tt), at 5 (lit< tt), at 6 (lit< tt))
  where
    at : (j : ℕ) → j < delay_words → get_or (drop (delay_at u) n) j 0 ≡ get_or (drop (delay_at u) m) j 0
    at j h = get_or-drop (delay_at u) n j 0 ∙ same j h ∙ sym (get_or-drop (delay_at u) m j 0)

-- A word between the modifiers and the delay units that is not T has no say in what a text asks of the delay units.
pub units-set : (text : Text) (m : Machine) (i v : ℕ) → ticks_of m ≤ 256 → 3840 ≤ i → i < delay_at 0 → t_at ≢ i
    → asked (unit_questions text (set m i v)) ≡ asked (unit_questions text m)
unfolding asked lines_good
units-set Of1978 m i v few l h n = rw (lines, named-once-same m (set m i v) same)
  where
    other : (j : ℕ) → j ≢ i → get_or (set m i v) j 0 ≡ get_or m j 0
    other j e = get_or-set_other m i j v 0 e

    same : SameModifiers m (set m i v)
    same = record { ticks = other t_at n; mrm = λ k a. other (modifier_at k + MRM) (λ e. omega arith); mmode = λ k a. other (modifier_at k + MMODE) (λ e. omega arith) }

    unit : (u : ℕ) → delay_of (set m i v) u ≡ delay_of m u
    unit u = unit-same m (set m i v) u (λ j a. other (delay_at u + j) (λ e. omega arith))

    lines : all_below (good_line (set m i v)) (ticks_of (set m i v) / 2) ≡ all_below (good_line m) (ticks_of m / 2)
    lines = rw (other t_at n) (below-same (good_line (set m i v)) (good_line m) (ticks_of m / 2) (λ k a. good-line-same m (set m i v) same k a (rw (unit (named_by m k))) (rw (unit (named_by m k)))))
units-set Old m i v few l h n = refl
