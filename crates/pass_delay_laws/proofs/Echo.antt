-- The shown machine is let through, and its modifier 0 invokes a unit that acts; no other modifier invokes one.
-- Assumes nothing.
use mathlib.Core.Path.{◌≡◌, refl, ap, ◌∙◌}
use mathlib.Core.Logic.{◌≢◌, inl}
use mathlib.Core.Bool.{true, false}
use mathlib.Core.List.{[], ◌∷◌}
use Prim.Native.Nat.{ℕ, zero, suc, ◌+◌, ◌*◌, ◌/◌, ◌%◌, ◌^◌, ◌<◌}
use lib.Dec.{lit<}
use native.Mathlib.Omega.{arith}
use lib.ListN.{get_or, set, length-set}
use Rattle.base_lists.specs.Lists.{zeros, count_below, is_one_of}
use Rattle.layout.specs.Layout.{modifier_at, quadrant_at, delay_at, delay_p, t_at, MMODE}
use Rattle.layout.specs.Machine.{Machine, Memory, ticks_of, with_update_ticks}
use Rattle.layout.proofs.UpdateTicks.{counted-length}
use Rattle.layout_texts.specs.declared.Text.TheVariants.{Of1978}
use Rattle.base_questions.specs.Questions.{asked}
use Rattle.layout_codes.specs.BuiltCodes.{built_function, built_functions, built_mode, line, table}
use Rattle.delay.specs.declared.Delay.{Delay}
use Rattle.delay_questions.specs.Questions.{memory_good, invokes, named_by, delay_of, good_line, lines_good, apart, named_once, question11, question12}
use Rattle.machine.specs.Questions.{fresh_machine, regions, test_at}
use Rattle.machine.proofs.ValidMachine.{reaches, single-below, single-above, valid-set, valid-with-ticks}
use Rattle.machine.proofs.FreshMachine.{fresh-length, fresh-valid}
use Rattle.layout_modes.specs.Modes.{read_data, write_data}
use Rattle.pass_order.specs.Order.{in_mode}
use Rattle.pass_order.proofs.Entries.{passes-order}
use Rattle.base_sequences.specs.Sequences.{by_number}
use Rattle.pass_model.proofs.Asked.{past_memory}
use Rattle.pass_laws.specs.Good.{Good}
use Rattle.pass_laws.specs.Passes.{call_of, no_data, rung_by}
use Rattle.pass_laws.proofs.Orders.{by-number-order}
use Rattle.pass_laws.proofs.Passing.{good-passes, pass-number}
use Rattle.base_words.specs.Words.{low_bits, signed, sum}
use Rattle.modifier_product.specs.Product.{product, scaled}
use Rattle.modifier.specs.Modifier.{loaded as modifier_loaded, times_m1}
use Rattle.modifier_delay.specs.Invoke.{temp0}
use Rattle.delay.specs.Delay.{loaded, runs, due, address}
use Rattle.pass_sums.specs.Sums.{generator_last, sums_of, quadrant_of, word_at}
use Rattle.pass_model.specs.Modifiers.{seen, modifier_of}
use Rattle.pass_model.specs.Pass.{Call, pass_refusal}
use Rattle.pass_delay_laws.specs.InPasses.{l0_at, l1_at, min_at, after, acts, puts_word, InvokesUnit}
use Rattle.pass_delay_laws.specs.NothingBetween.{machine_in, call_in, echo}
use Rattle.pass_delay_laws.proofs.OnePass.{l0-after, word-sent}
use Rattle.pass_delay_laws.proofs.Sequences.{memory-none, line-comes-back, table-comes-back}
use Rattle.pass_delay_laws.proofs.NothingBetween.{alone-runs, alone-writes}

good : (p : ℕ) → test_at (regions Of1978) (delay_at 0 + delay_p) p ≡ true → Good Of1978 (echo p)
unfolding echo regions test_at built_function built_functions is_one_of
good p e =
    let m = with_update_ticks (set fresh_machine t_at 10) in
    let m1 = set m (modifier_at 0 + MMODE) (0b00111 * 2 ^ 4) in
    let m2 = set m1 (quadrant_at generator_last) 12345 in
    record {
      whole =
          length-set m2 (delay_at 0 + delay_p) p
          ∙ length-set m1 (quadrant_at generator_last) 12345
          ∙ length-set m (modifier_at 0 + MMODE) (0b00111 * 2 ^ 4)
          ∙ counted-length (set fresh_machine t_at 10)
          ∙ length-set fresh_machine t_at 10
          ∙ fresh-length;
      is-valid =
          valid-set Of1978 m2
          (valid-set Of1978 m1
          (valid-set Of1978 m
          (valid-with-ticks Of1978 fresh_machine (fresh-valid Of1978) (reaches fresh_machine fresh-length) t_at 10 (lit< tt) refl)
          (modifier_at 0 + MMODE) (0b00111 * 2 ^ 4) (single-below (lit< tt)) refl)
          (quadrant_at generator_last) 12345 (single-below (lit< tt)) refl)
          (delay_at 0 + delay_p) p (single-above (lit< tt) (lit< tt)) e;
    }

-- What is computed of it.
ten : (p : ℕ) → ticks_of (echo p) ≡ 10
unfolding echo fresh_machine with_update_ticks zeros
ten p = refl

invoked : (p : ℕ) → invokes (echo p) 0 ≡ true
unfolding echo fresh_machine with_update_ticks zeros
invoked p = refl

named : (p : ℕ) → named_by (echo p) 0 ≡ 0
unfolding echo fresh_machine with_update_ticks zeros
named p = refl

-- No other modifier invokes a unit.
pub echo-alone : (p j : ℕ) → j ≢ 0 → j < ticks_of (echo p) / 2 → puts_word (echo p) j ≡ false
unfolding echo fresh_machine with_update_ticks zeros
echo-alone p zero n l = absurd (n refl)
echo-alone p (suc zero) n l = refl
echo-alone p (suc (suc zero)) n l = refl
echo-alone p (suc (suc (suc zero))) n l = refl
echo-alone p (suc (suc (suc (suc zero)))) n l = refl
echo-alone p (suc (suc (suc (suc (suc j))))) n l = absurd (omega arith)

-- What modifier 0 sends to its unit, where that has given 0.
sends : (p : ℕ) → temp0 (modifier_of (echo p) 0) (seen (sums_of (echo p)) [] (min_at (echo p) 0)) 0 ≡ 12345
unfolding echo fresh_machine with_update_ticks zeros modifier_of modifier_loaded seen sums_of quadrant_of word_at times_m1 product scaled sum low_bits signed
sends p = refl

gives : (p : ℕ) → due (delay_of (echo p) 0) ≡ 0
unfolding echo fresh_machine with_update_ticks zeros loaded
gives p = refl

min-low : (p : ℕ) → min_at (echo p) 0 < 128
unfolding echo fresh_machine with_update_ticks zeros
min-low p = lit< tt

-- In mode line and in mode table: what the questions ask of the unit, and that it acts.
record Computed (p : ℕ) : Type 0 where
  built : test_at (regions Of1978) (delay_at 0 + delay_p) p ≡ true
  units : asked (question11 (echo p) ∷ question12 (echo p) ∷ []) ≡ 0
  acting : acts (echo p) 0 ≡ true

as_line : Computed line
unfolding echo fresh_machine with_update_ticks zeros regions test_at built_mode is_one_of asked lines_good good_line named_once apart runs loaded
as_line = record { built = refl; units = refl; acting = refl }

as-table : Computed table
unfolding echo fresh_machine with_update_ticks zeros regions test_at built_mode is_one_of asked lines_good good_line named_once apart runs loaded
as-table = record { built = refl; units = refl; acting = refl }

no-data : (p : ℕ) → (in_mode Of1978 (echo p) read_data ≡ 0) × (in_mode Of1978 (echo p) write_data ≡ 0)
unfolding echo fresh_machine with_update_ticks zeros in_mode count_below
no-data p = (refl, refl)

module _ (p : ℕ) (c : Computed p) (memory : Memory) (memory-good : memory_good memory ≡ true) where
  abbrev m : Machine
  m = echo p

  abbrev call : Call
  call = call_of (by_number (ticks_of m)) memory no_data

  runs-first : pass_refusal Of1978 m call ≡ 0
  runs-first =
      past_memory Of1978 m call (good-passes Of1978 m (good p c.built)) (passes-order (ticks_of m) (by_number (ticks_of m)) (by-number-order (ticks_of m)))
      (omega (arith, (no-data p).0)) (omega (arith, (no-data p).1)) memory-good
      ∙ c.units

  invokes-unit : InvokesUnit 0 0 m call
  invokes-unit =
      record { through = pass-number Of1978 m call ∙ runs-first; below = rw (ten p) (lit< tt); invoked = invoked p; named = named p; acting = c.acting }

  -- What it sends in pass 0.
  given-0 : l0_at (after m call) 0 ≡ 0
  given-0 = let i = invokes-unit in l0-after m call i.through 0 i.below i.invoked ∙ rw (i.named, i.acting) (gives p)

  sent : l1_at (after (machine_in m memory 0) (call_in m memory 0)) 0 ≡ 12345
  unfolding rung_by
  sent = let i = invokes-unit in word-sent m call i.through 0 i.below i.invoked (min-low p) ∙ rw given-0 (sends p)

-- The unit in pass 0.
unit-first : (p : ℕ) (memory : Memory) → delay_of (machine_in (echo p) memory 0) 0 ≡ record { x = 0; y = 0; z = 0; p = p % 2 ^ 4; first = 0; second = 0; third = 0 }
unfolding rung_by echo fresh_machine with_update_ticks zeros loaded
unit-first p memory = refl

memory-first : (m : Machine) (memory : Memory) → (call_in m memory 0).memory ≡ memory
unfolding rung_by
memory-first m memory = refl

-- As a line, Z being 0, it has the word back in pass 3; as a table, the word of delay memory at it.
module _ (memory : Memory) (memory-good : memory_good memory ≡ true) where
  pub echo-heard : l0_at (after (machine_in (echo line) memory 3) (call_in (echo line) memory 3)) 0 ≡ 12345
  echo-heard =
      let m = echo line in
      let i = invokes-unit line as_line memory memory-good in
      let d = unit-first line memory in
      let z : (delay_of (machine_in m memory 0) 0).z ≡ 0 = ap (λ (x : Delay). x.z) d in
      rw z at (line-comes-back (machine_in m memory) (call_in m memory) 0 0 (ap (λ (x : Delay). x.p) d) (alone-runs m memory 0 0 i _) (alone-writes m memory 0 0 i (echo-alone line) _ _))
      ∙ sent line as_line memory memory-good

  pub echo-looked-up : l0_at (after (machine_in (echo table) memory 3) (call_in (echo table) memory 3)) 0 ≡ get_or memory 12345 0
  unfolding address
  echo-looked-up =
      let m = echo table in
      let d = unit-first table memory in
      table-comes-back (machine_in m memory) (call_in m memory) 0 0 (inl (ap (λ (x : Delay). x.p) d)) (alone-runs m memory 0 0 (invokes-unit table as-table memory memory-good) 3)
      ∙ rw (sent table as-table memory memory-good, d, memory-none (machine_in m memory 0) (call_in m memory 0), memory-first m memory)
