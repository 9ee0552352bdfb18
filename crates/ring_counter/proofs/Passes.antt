-- A pass from two good machines that differ in the counter's high bits alone: its questions are answered alike, and it answers and leaves the same but for these bits.
-- Assumes nothing.
use mathlib.Core.Path.{◌≡◌, refl, sym, ap}
use mathlib.Core.Bool.{Bool, true, false, cond}
use Prim.Native.Nat.{ℕ, ◌+◌, ◌/◌, ◌≤◌, ◌<◌}
use native.Mathlib.Omega.{arith}
use borrow.Author.Tests.{eqb-true}
use lib.Dec.{eqb}
use lib.ListN.{length}
use Rattle.base_lists.proofs.Below.{below-same}
use Rattle.layout.specs.Layout.{counter_at, generator_at, modifier_at, GN, GMODE, MRM, MMODE}
use Rattle.layout.specs.Machine.{Machine, Sums, ticks_of}
use Rattle.layout_texts.specs.declared.Text.{Text}
use Rattle.layout_texts.specs.declared.Text.TheVariants.{Of1978, Old}
use Rattle.base_questions.specs.Questions.{asked}
use Rattle.machine.proofs.ValidMachine.{valid-controls}
use Rattle.pass_order.specs.Order.{in_mode}
use Rattle.delay_questions.specs.Questions.{named_by, good_line, lines_good}
use Rattle.delay_questions.proofs.Kept.{SameModifiers, named-once-same, good-line-same}
use Rattle.pass_sums.specs.Sums.{sums_of}
use Rattle.pass_model.specs.Generators.{generators_of, steps, begun, taken_by}
use Rattle.pass_model.specs.Clipped.{no_marks}
use Rattle.pass_model.specs.Modifiers.{Held}
use Rattle.pass_model.specs.Pass.{unit_questions, Call, completed, generators_taken, generators_clipped, finished, ran, refused, pass_refusal, pass_of}
use Rattle.pass_model.proofs.Keeps.{same-run}
use Rattle.pass_laws.specs.Good.{Good}
use Rattle.pass_laws.proofs.Frames.{steps-length}
use Rattle.pass_laws.proofs.PassModes.{same-modes}
use Rattle.pass_laws.proofs.Passing.{begun-words, admitted}
use Rattle.ring_counter.specs.SameButHigh.{SameButHigh}
use Rattle.ring_counter.specs.Alike.{PassedAlike}
use Rattle.ring_counter.proofs.Words.{below, same-ticks, unit, sum-memory}
use Rattle.ring_counter.proofs.Generators.{steps-same, marks-same, begun-same}
use Rattle.ring_counter.proofs.Modifiers.{SameHeld, completed-same}

-- The questions of a pass by what they read.
module _ (text : Text) {m n : Machine} (same : SameButHigh m n) (few : ticks_of m ≤ 256) where
  in-mode : (mode : ℕ) → in_mode text m mode ≡ in_mode text n mode
  in-mode mode =
      sym
      (same-modes text m n mode (sym (same-ticks same))
      (λ g h. ap (λ (x : ℕ). eqb x mode) (same-run text m n g (sym (below same (generator_at g + GMODE) (omega arith))) (sym (below same (generator_at g + GN) (omega arith))))))

  modifiers : SameModifiers m n
  modifiers =
      record {
        ticks = sym (same-ticks same);
        mrm = λ k h. sym (below same (modifier_at k + MRM) (omega arith));
        mmode = λ k h. sym (below same (modifier_at k + MMODE) (omega arith));
      }

  lines : lines_good n ≡ lines_good m
  unfolding lines_good
  lines =
      rw (sym (same-ticks same))
      (below-same (good_line n) (good_line m) (ticks_of m / 2)
      (λ k h. good-line-same m n modifiers k h (rw (unit same (named_by m k))) (rw (unit same (named_by m k)))))

units-same : (text : Text) {m n : Machine} → SameButHigh m n → ticks_of m ≤ 256 → asked (unit_questions text n) ≡ asked (unit_questions text m)
unfolding asked
units-same Of1978 {m} {n} same few = rw (lines Of1978 same few, named-once-same m n (modifiers Of1978 same few))
units-same Old same few = refl

-- The end of a pass, of T and sums that are the same.
completed-from : (text : Text) {t u : ℕ} → t ≡ u → {h k : Held} → SameHeld h k → {s r : Sums} → s ≡ r → t ≤ 256 → counter_at < length h.words → SameHeld (completed text t h s) (completed text u k r)
completed-from text {t} {u} e {h} {k} same {s} {r} f few inside = rw (e, f) (completed-same text u h k same r (omega (arith, e, few)) inside)

module _ (text : Text) (m n : Machine) (same : SameButHigh m n) (first : Good text m) (second : Good text n) (call : Call) where
  few : ticks_of m ≤ 256
  few = (valid-controls text m first.is-valid).t_high

  refusal-same : pass_refusal text m call ≡ pass_refusal text n call
  unfolding pass_refusal asked
  refusal-same =
      rw (same.as_long, first.is-valid, second.is-valid, same-ticks same, in-mode text same few 7, in-mode text same few 3, units-same text same few)

  ran-same : pass_refusal text m call ≡ 0 → PassedAlike (ran text m call) (ran text n call)
  unfolding ran finished generators_taken taken_by generators_clipped
  ran-same e =
      let low = (admitted text m call e).below in
      let inside : counter_at < length m = omega (arith, first.whole) in
      let start = begun-same same (sums_of m) (sums_of n) (sum-memory same inside) call.places in
      let taken = steps-same text call.items call.order low (begun m (sums_of m) call.places) (begun n (sums_of n) call.places) start in
      let end = completed-from text (same-ticks same) (record { words = taken.words; memory = refl }) taken.sums few (omega (arith, long inside)) in
      record {
        number = refl;
        read = taken.reads;
        written = taken.writes;
        clipped = marks-same text call.items call.order low (begun m (sums_of m) call.places) (begun n (sums_of n) call.places) start no_marks;
        places = taken.places;
        memory = end.memory;
        machine = end.words;
      }
    where
      long : counter_at < length m → counter_at < length (steps (generators_of text) call.items (begun m (sums_of m) call.places) call.order).words
      long h = rw (steps-length (generators_of text) call.items call.order (begun m (sums_of m) call.places), begun-words m (sums_of m) call.places) h

  pub passed-alike : PassedAlike (pass_of text m call) (pass_of text n call)
  unfolding pass_of refused
  passed-alike = rw (← refusal-same) (go (eqb (pass_refusal text m call) 0) refl)
    where
      go : (b : Bool) → eqb (pass_refusal text m call) 0 ≡ b
          → PassedAlike (cond b (ran text m call) (refused (pass_refusal text m call) m call)) (cond b (ran text n call) (refused (pass_refusal text m call) n call))
      go true e = ran-same (eqb-true (pass_refusal text m call) 0 e)
      go false e = record { number = refl; read = refl; written = refl; clipped = refl; places = refl; memory = refl; machine = same }
