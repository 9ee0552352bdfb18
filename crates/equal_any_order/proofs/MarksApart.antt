-- The two orders are equal by the rule of counts, since only adding generators are there; the marks are computed, step by step.
-- Assumes nothing.
use mathlib.Core.Path.{◌≡◌, refl, ◌∙◌}
use mathlib.Core.Bool.{true}
use mathlib.Core.List.{[], ◌∷◌}
use lib.Dec.{lit≤, lit<}
use lib.ListN.{set, length-set}
use Rattle.base_lists.specs.Lists.{zeros, count_below, is_one_of}
use Rattle.base_words.specs.Words.{low_bits, signed, sum, leaves, sum_into, exact_sum, outside}
use Rattle.layout.specs.Machine.{Order, ticks_of, with_update_ticks}
use Rattle.layout_texts.specs.declared.Text.TheVariants.{Of1978}
use Rattle.base_questions.specs.Questions.{asked}
use Rattle.layout_modes.specs.Modes.{built_run, built_oscillator, adds, replaces, free, oscillator_on, envelope_on}
use Rattle.generator_oscillator.specs.Oscillator.{wave_of, sawtooth}
use Rattle.generator_envelope.specs.Envelope.{overflows, decayed, q_of, level, rounded, enveloped}
use Rattle.generator.specs.Generator.{loaded, stored, j_of, gj_after, k_of, gk_after, w_of, gq_after, v_of, p_of, triggers, gmode_after, after}
use Rattle.machine.specs.Questions.{fresh_machine, regions, test_at}
use Rattle.machine.proofs.ValidMachine.{single-below, valid-set}
use Rattle.delay_questions.specs.Questions.{good_line, lines_good, named_once, question11, question12}
use Rattle.pass_sums.specs.Sums.{sums_of, quadrant_of, word_at, sum_at, put_sum, f_at}
use Rattle.pass_model.specs.Generators.{generators_of, generator_of, turn1978, triggered_below, fed, summed, step, begun}
use Rattle.pass_model.specs.Clipped.{no_marks, sum_leaves, marked_at, marked, marked_by}
use Rattle.pass_model.specs.Pass.{Call, plain_call, pass_refusal, pass_of}
use Rattle.pass_model.proofs.Asked.{past_memory}
use Rattle.pass_laws.specs.Good.{Good}
use Rattle.pass_order.specs.Order.{in_mode}
use Rattle.pass_laws.proofs.Passing.{good-passes, let_through, pass-number}
use Rattle.pass_laws.proofs.PassClipped.{ran-clipped}
use Rattle.compare_agreement.specs.Agreement.{settings_of}
use Rattle.any_order_model.specs.OrderFree.{counts_in, share_one, feeders_share, words_apart, order_free}
use Rattle.equal_orders.specs.Equal.{Equal}
use Rattle.equal_orders.specs.WorkedExamples.{forth, back, of_two}
use Rattle.equal_orders.proofs.Finished.{zeros-good}
use Rattle.equal_orders.proofs.WorkedExamples.{forth-passes, back_passes, of-two-good}
use Rattle.equal_any_order.specs.EveryOrder.{Passes}
use Rattle.equal_any_order.specs.MarksApart.{up_and_down}
use Rattle.equal_any_order.proofs.AnyOrder.{rule-is}

two_good : Good Of1978 (of_two 961 961 0 0 0 0)
unfolding built_run built_oscillator is_one_of
two_good = of-two-good 961 961 0 0 0 0 refl refl (lit< tt) (lit< tt) (lit< tt) (lit< tt)

good : Good Of1978 up_and_down
unfolding up_and_down regions test_at
good =
    let m = of_two 961 961 0 0 0 0 in
    let m1 = set m 2 524160 in
    let m2 = set m1 7 4095 in
    let m3 = set m2 13 524416 in
    let m4 = set m3 18 4095 in
    record {
      whole = length-set m4 3840 400000 ∙ length-set m3 18 4095 ∙ length-set m2 13 524416 ∙ length-set m1 7 4095 ∙ length-set m 2 524160 ∙ two_good.whole;
      is-valid =
          valid-set Of1978 m4
          (valid-set Of1978 m3
          (valid-set Of1978 m2
          (valid-set Of1978 m1
          (valid-set Of1978 m two_good.is-valid 2 524160 (single-below (lit< tt)) refl)
          7 4095 (single-below (lit< tt)) refl)
          13 524416 (single-below (lit< tt)) refl)
          18 4095 (single-below (lit< tt)) refl)
          3840 400000 (single-below (lit< tt)) refl;
    }

two-ticks : ticks_of up_and_down ≡ 2
unfolding up_and_down of_two fresh_machine with_update_ticks zeros
two-ticks = refl

by-rule : order_free (counts_in (settings_of Of1978 up_and_down)) ≡ true
unfolding up_and_down of_two fresh_machine with_update_ticks zeros order_free feeders_share words_apart share_one count_below free adds replaces is_one_of
by-rule = refl

pub marks-equal : Equal Of1978 up_and_down forth back
marks-equal = (rule-is up_and_down good).0 by-rule forth back (forth-passes (ticks_of up_and_down) two-ticks) (back_passes (ticks_of up_and_down) two-ticks)

-- Neither order is refused.
units-pass : asked (question11 up_and_down ∷ question12 up_and_down ∷ []) ≡ 0
unfolding up_and_down of_two fresh_machine with_update_ticks zeros asked lines_good good_line named_once
units-pass = refl

not-refused : (order : Order) → Passes up_and_down order → pass_refusal Of1978 up_and_down (plain_call order [] []) ≡ 0
unfolding up_and_down of_two fresh_machine with_update_ticks zeros count_below in_mode
not-refused order p =
    past_memory Of1978 up_and_down (plain_call order [] []) (good-passes Of1978 up_and_down good) p (lit≤ tt) (lit≤ tt) zeros-good ∙ units-pass

-- The marks, step by step.
marks : (order : Order) → Passes up_and_down order → (pass_of Of1978 up_and_down (plain_call order [] [])).clipped ≡ marked_by (generators_of Of1978) [] (begun up_and_down (sums_of up_and_down) []) no_marks order
marks order p = let call : Call = plain_call order [] [] in rw (let_through Of1978 up_and_down call (not-refused order p)) (ran-clipped Of1978 up_and_down call)

forth-marks : marked_by (generators_of Of1978) [] (begun up_and_down (sums_of up_and_down) []) no_marks forth ≡ set no_marks 0 1
unfolding up_and_down of_two fresh_machine with_update_ticks zeros marked_by marked marked_at sum_leaves begun step triggered_below fed summed turn1978 generator_of loaded stored sums_of quadrant_of word_at sum_at put_sum f_at
    j_of gj_after k_of gk_after w_of gq_after v_of p_of triggers gmode_after after wave_of sawtooth overflows decayed q_of level rounded enveloped
    low_bits signed sum leaves sum_into exact_sum outside adds replaces free oscillator_on envelope_on is_one_of
forth-marks = refl

back-marks : marked_by (generators_of Of1978) [] (begun up_and_down (sums_of up_and_down) []) no_marks back ≡ no_marks
unfolding up_and_down of_two fresh_machine with_update_ticks zeros marked_by marked marked_at sum_leaves begun step triggered_below fed summed turn1978 generator_of loaded stored sums_of quadrant_of word_at sum_at put_sum f_at
    j_of gj_after k_of gk_after w_of gq_after v_of p_of triggers gmode_after after wave_of sawtooth overflows decayed q_of level rounded enveloped
    low_bits signed sum leaves sum_into exact_sum outside adds replaces free oscillator_on envelope_on is_one_of
back-marks = refl

-- A pass by either order runs, and sets these marks.
pub forth-sets : ((pass_of Of1978 up_and_down (plain_call forth [] [])).number ≡ 0) × ((pass_of Of1978 up_and_down (plain_call forth [] [])).clipped ≡ set no_marks 0 1)
forth-sets =
    let p = forth-passes (ticks_of up_and_down) two-ticks in
    (pass-number Of1978 up_and_down (plain_call forth [] []) ∙ not-refused forth p, marks forth p ∙ forth-marks)

pub back-sets : ((pass_of Of1978 up_and_down (plain_call back [] [])).number ≡ 0) × ((pass_of Of1978 up_and_down (plain_call back [] [])).clipped ≡ no_marks)
back-sets =
    let p = back_passes (ticks_of up_and_down) two-ticks in
    (pass-number Of1978 up_and_down (plain_call back [] []) ∙ not-refused back p, marks back p ∙ back-marks)
