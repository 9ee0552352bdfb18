-- On the shown machine the two orders agree, and the second pass parts them: generator 1, woken in the first, adds before generator 2 replaces its word, or after it.
-- Assumes nothing.
use mathlib.Core.Path.{◌≡◌, refl, sym, ap, ◌∙◌}
use mathlib.Core.Bool.{true}
use mathlib.Core.List.{[], ◌∷◌}
use Prim.Native.Nat.{ℕ, zero, suc, ◌^◌, ◌<◌}
use native.Mathlib.Omega.{arith}
use lib.Dec.{lit≤, lit<}
use lib.ListN.{get_or, set, length-set}
use Rattle.base_lists.specs.Lists.{zeros, count, count_below, is_one_of}
use Rattle.base_words.specs.Words.{low_bits, signed, sum, sum_into, exact_sum, outside}
use Rattle.layout.specs.Layout.{t_at, counter_at, memory_words}
use Rattle.layout.specs.Machine.{Machine, Order, Memory, ticks_of, with_update_ticks}
use Rattle.layout_texts.specs.declared.Text.TheVariants.{Of1978}
use Rattle.layout.proofs.UpdateTicks.{counted-length}
use Rattle.base_questions.specs.Questions.{asked}
use Rattle.layout_modes.specs.Modes.{built_run, built_oscillator, adds, replaces, free, oscillator_on, envelope_on}
use Rattle.generator_oscillator.specs.Oscillator.{wave_of, square}
use Rattle.generator_envelope.specs.Envelope.{overflows, decayed, q_of, level, rounded, enveloped}
use Rattle.generator.specs.Generator.{loaded, stored, j_of, gj_after, k_of, gk_after, w_of, gq_after, v_of, p_of, triggers, gmode_after, after}
use Rattle.machine.specs.Questions.{fresh_machine, regions, test_at}
use Rattle.machine.proofs.ValidMachine.{reaches, single-below, valid-set, valid-with-ticks}
use Rattle.machine.proofs.FreshMachine.{fresh-length, fresh-valid}
use Rattle.delay_questions.specs.Questions.{memory_good, good_line, lines_good, named_once, question11, question12}
use Rattle.pass_order.specs.Order.{each_once, in_mode}
use Rattle.pass_order.proofs.Entries.{order-passes}
use Rattle.pass_sums.specs.Sums.{closed, sums_of, quadrant_of, word_at, sum_at, put_sum, f_at}
use Rattle.pass_model.specs.Generators.{taken_by, generator_of, turn1978, triggered_below, fed, summed, step, steps, begun}
use Rattle.pass_model.specs.Modifiers.{modified_by, modified, modify, modifier_of, with_writes, with_write, late_view, early_view, seen, given, second_input, turn_seen, delayed}
use Rattle.modifier.specs.Modifier.{loaded as modifier_loaded, stored as modifier_stored}
use Rattle.modifier_turn.specs.Turn.{turn_of, reads_late}
use Rattle.modifier_mixers.specs.Mixers.{inactive}
use Rattle.pass_model.specs.Pass.{Outcome, pass_refusal, pass_of, ran, finished, generators_taken, completed, counted}
use Rattle.pass_model.proofs.Asked.{past_memory}
use Rattle.pass_laws.specs.Good.{Good}
use Rattle.pass_laws.proofs.Passing.{good-passes, let_through}
use Rattle.pass_laws.proofs.PassValid.{pass-valid}
use Rattle.pass_laws.proofs.PassDelays.{pass-memory}
use Rattle.base_sequences.specs.Sequences.{keep, some, last_of, place_of, before, first_failing}
use Rattle.compare_agreement.specs.Agreement.{settings_of, Agree}
use Rattle.compare_agreement.specs.Points.{agrees, neighbour_point, feeder_point, writer_point, word_point}
use Rattle.compare_agreement.proofs.Agreed.{points-agree}
use Rattle.equal_orders.specs.Equal.{SameSettings, Enough}
use Rattle.equal_orders.proofs.Finished.{zeros-good}
use Rattle.equal_orders.proofs.Theorem.{demand-3}
use Rattle.equal_any_order.specs.EveryOrder.{Passes}
use Rattle.pass_laws.specs.Passes.{call_of, Rung, rung_by}
use Rattle.equal_ringings.specs.Ringings.{none, more, EqualThroughout}
use Rattle.equal_ringings.specs.WokenLater.{woken_later, woken_first, woken_last, one_item}

good : Good Of1978 woken_later
unfolding woken_later regions test_at built_run built_oscillator is_one_of
good =
    let m0 = with_update_ticks (set fresh_machine t_at 3) in
    let m1 = set m0 5 1 in
    let m2 = set m1 6 16777215 in
    let m3 = set m2 8 5 in
    let m4 = set m3 10 898 in
    let m5 = set m4 18 4095 in
    let m6 = set m5 21 578 in
    record {
      whole =
          length-set m6 32 450 ∙ length-set m5 21 578 ∙ length-set m4 18 4095 ∙ length-set m3 10 898 ∙ length-set m2 8 5 ∙ length-set m1 6 16777215 ∙ length-set m0 5 1
          ∙ counted-length (set fresh_machine t_at 3) ∙ length-set fresh_machine t_at 3 ∙ fresh-length;
      is-valid =
          valid-set Of1978 m6
          (valid-set Of1978 m5
          (valid-set Of1978 m4
          (valid-set Of1978 m3
          (valid-set Of1978 m2
          (valid-set Of1978 m1
          (valid-set Of1978 m0
          (valid-with-ticks Of1978 fresh_machine (fresh-valid Of1978) (reaches fresh_machine fresh-length) t_at 3 (lit< tt) refl)
          5 1 (single-below (lit< tt)) refl)
          6 16777215 (single-below (lit< tt)) refl)
          8 5 (single-below (lit< tt)) refl)
          10 898 (single-below (lit< tt)) refl)
          18 4095 (single-below (lit< tt)) refl)
          21 578 (single-below (lit< tt)) refl)
          32 450 (single-below (lit< tt)) refl;
    }

three : ticks_of woken_later ≡ 3
unfolding woken_later fresh_machine with_update_ticks zeros
three = refl

first_passes : (m : Machine) → ticks_of m ≡ 3 → Passes m woken_first
unfolding asked each_once count
first_passes m e = rw e

last-passes : (m : Machine) → ticks_of m ≡ 3 → Passes m woken_last
unfolding asked each_once count
last-passes m e = rw e

pub woken-agree : Agree Of1978 woken_later woken_first woken_last
unfolding woken_later fresh_machine with_update_ticks zeros agrees neighbour_point feeder_point writer_point word_point keep some last_of place_of before first_failing count_below free adds replaces is_one_of
woken-agree =
    (points-agree (settings_of Of1978 woken_later) woken_first woken_last
    (order-passes 3 woken_first (first_passes woken_later refl)) (order-passes 3 woken_last (last-passes woken_later refl))).0 refl

-- The first pass by either order runs, and leaves the same.
abbrev woken : Machine
woken = set (set (set (set woken_later 6 0) 21 834) 3909 32) counter_at 1

units-pass : asked (question11 woken_later ∷ question12 woken_later ∷ []) ≡ 0
unfolding woken_later fresh_machine with_update_ticks zeros asked lines_good good_line named_once
units-pass = refl

first-let : (order : Order) → Passes woken_later order → pass_refusal Of1978 woken_later (call_of order (zeros memory_words) one_item) ≡ 0
unfolding woken_later fresh_machine with_update_ticks zeros count_below in_mode
first-let order p =
    past_memory Of1978 woken_later (call_of order (zeros memory_words) one_item) (good-passes Of1978 woken_later good) p (lit≤ tt) (lit≤ tt) zeros-good ∙ units-pass

first-ran : (ran Of1978 woken_later (call_of woken_first (zeros memory_words) one_item)).machine ≡ woken
unfolding woken_later fresh_machine with_update_ticks zeros step steps triggered_below fed summed turn1978 generator_of loaded stored sums_of quadrant_of word_at sum_at put_sum f_at begun
    j_of gj_after k_of gk_after w_of gq_after v_of p_of triggers gmode_after after wave_of square overflows decayed q_of level rounded enveloped
    low_bits signed sum sum_into exact_sum outside adds replaces free oscillator_on envelope_on is_one_of
    ran finished generators_taken taken_by completed counted closed modified_by modified modify modifier_of with_writes with_write late_view early_view seen given second_input turn_seen delayed
    modifier_loaded modifier_stored turn_of reads_late inactive
first-ran = refl

enough : Enough Of1978 woken_later (call_of [] [] one_item)
unfolding woken_later fresh_machine with_update_ticks zeros count_below in_mode
enough =
    record {
      items = λ i h. words i h;
      places = λ i h. absurd (omega arith);
      reads = lit≤ tt;
      writes = lit≤ tt;
    }
  where
    words : (i : ℕ) → i < 1 → get_or (0 ∷ []) i 0 < 2 ^ 32
    words zero h = lit< tt
    words (suc i) h = absurd (omega arith)

same-itself : SameSettings Of1978 woken_later woken_later
same-itself = record { ticks = refl; modes = λ g h. refl; words = λ g h. refl; inputs = λ g h. refl; sending = λ g h q. refl }

first-pass : (pass_of Of1978 woken_later (call_of woken_first (zeros memory_words) one_item)).machine ≡ woken
first-pass =
    let call = call_of woken_first (zeros memory_words) one_item in
    ap (λ (r : Outcome). r.machine) (let_through Of1978 woken_later call (first-let woken_first (first_passes woken_later three))) ∙ first-ran

last-pass : (pass_of Of1978 woken_later (call_of woken_last (zeros memory_words) one_item)).machine ≡ woken
last-pass =
    let equal = (demand-3 Of1978 woken_later good woken_first woken_last (first_passes woken_later three) (last-passes woken_later three)).1 woken-agree in
    let call = call_of woken_first (zeros memory_words) one_item in
    sym (equal woken_later good same-itself call (record { items = enough.items; places = enough.places; reads = enough.reads; writes = enough.writes })).machine ∙ first-pass

-- The second pass runs too: word 0 of generator-last, at 3,904, is 0 by the one order and 131,040 by the other.
woken-good : Good Of1978 woken
woken-good = rw first-pass at (pass-valid Of1978 woken_later (call_of woken_first (zeros memory_words) one_item) good)

woken-three : ticks_of woken ≡ 3
unfolding woken_later fresh_machine with_update_ticks zeros
woken-three = refl

woken-units : asked (question11 woken ∷ question12 woken ∷ []) ≡ 0
unfolding woken_later fresh_machine with_update_ticks zeros asked lines_good good_line named_once
woken-units = refl

second-let : (order : Order) → Passes woken order → (memory : Memory) → memory_good memory ≡ true → pass_refusal Of1978 woken (call_of order memory one_item) ≡ 0
unfolding woken_later fresh_machine with_update_ticks zeros count_below in_mode
second-let order p memory g = past_memory Of1978 woken (call_of order memory one_item) (good-passes Of1978 woken woken-good) p (lit≤ tt) (lit≤ tt) g ∙ woken-units

second-first : (memory : Memory) → get_or (ran Of1978 woken (call_of woken_first memory one_item)).machine 3904 0 ≡ 0
unfolding woken_later fresh_machine with_update_ticks zeros step steps triggered_below fed summed turn1978 generator_of loaded stored sums_of quadrant_of word_at sum_at put_sum f_at begun
    j_of gj_after k_of gk_after w_of gq_after v_of p_of triggers gmode_after after wave_of square overflows decayed q_of level rounded enveloped
    low_bits signed sum sum_into exact_sum outside adds replaces free oscillator_on envelope_on is_one_of
    ran finished generators_taken taken_by completed counted closed modified_by modified modify modifier_of with_writes with_write late_view early_view seen given second_input turn_seen delayed
    modifier_loaded modifier_stored turn_of reads_late inactive
second-first memory = refl

second-last : (memory : Memory) → get_or (ran Of1978 woken (call_of woken_last memory one_item)).machine 3904 0 ≡ 131040
unfolding woken_later fresh_machine with_update_ticks zeros step steps triggered_below fed summed turn1978 generator_of loaded stored sums_of quadrant_of word_at sum_at put_sum f_at begun
    j_of gj_after k_of gk_after w_of gq_after v_of p_of triggers gmode_after after wave_of square overflows decayed q_of level rounded enveloped
    low_bits signed sum sum_into exact_sum outside adds replaces free oscillator_on envelope_on is_one_of
    ran finished generators_taken taken_by completed counted closed modified_by modified modify modifier_of with_writes with_write late_view early_view seen given second_input turn_seen delayed
    modifier_loaded modifier_stored turn_of reads_late inactive
second-last memory = refl

-- Two passes by an order that leaves that machine after the first.
two-passes : (order : Order) (v : ℕ) → Passes woken order → (pass_of Of1978 woken_later (call_of order (zeros memory_words) one_item)).machine ≡ woken
    → ((memory : Memory) → get_or (ran Of1978 woken (call_of order memory one_item)).machine 3904 0 ≡ v)
    → get_or (rung_by Of1978 order woken_later (zeros memory_words) (one_item ∷ one_item ∷ [])).machine 3904 0 ≡ v
unfolding rung_by
two-passes order v p e second =
    let memory = (pass_of Of1978 woken_later (call_of order (zeros memory_words) one_item)).memory in
    let kept = pass-memory Of1978 woken_later (call_of order (zeros memory_words) one_item) zeros-good in
    rw (e, let_through Of1978 woken (call_of order memory one_item) (second-let order p memory kept)) (second memory)

pub throughout-apart : EqualThroughout Of1978 woken_later woken_first woken_last → ⊥
throughout-apart e =
    let same = e woken_later good same-itself (zeros memory_words) (one_item ∷ one_item ∷ []) (more {d = one_item} enough (more {d = one_item} enough none)) in
    let a = two-passes woken_first 0 (first_passes woken woken-three) first-pass second-first in
    let b = two-passes woken_last 131040 (last-passes woken woken-three) last-pass second-last in
    let c : ◌≡◌ {A = ℕ} 0 131040 = sym a ∙ ap (λ (r : Rung). get_or r.machine 3904 0) same ∙ b in
    absurd (omega (arith, c))
