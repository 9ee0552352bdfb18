-- A command keeps a machine valid: the released generators, TIMER and TICKS, and the loads.
-- Assumes nothing.
use mathlib.Core.Path.{◌≡◌, refl, ◌∙◌, ap}
use mathlib.Core.Bool.{true}
use mathlib.Core.List.{List}
use Prim.Native.Nat.{ℕ, zero, suc, ◌+◌, ◌/◌, ◌%◌, ◌^◌, ◌≤◌, ◌<◌}
use native.Mathlib.Omega.{arith}
use borrow.Author.Tests.{eqb-true, lt-ltb, le-leb}
use lib.Dec.{eqb, leb, ltb, lit<}
use Rattle.base_lists.specs.Lists.{is_one_of}
use Rattle.base_lists.proofs.Below.{and_both}
use Rattle.base_lists.proofs.Choices.{of-cond, of_test}
use Rattle.layout.specs.Layout.{GMODE, t_at, n_at, counter_at, lingering_at, linger_pass_at, overrun_at}
use Rattle.layout.specs.Machine.{Reaches, gmode_at, with_update_ticks}
use Rattle.layout.specs.Widths.{word_bits, counter_bits, linger_bits}
use Rattle.layout_texts.specs.Texts.{run_mode_at}
use Rattle.layout_texts.specs.declared.Text.TheVariants.{Of1978}
use Rattle.layout_modes.specs.Modes.{built_run, built_oscillator, pause, wait, running_a, with_run_mode}
use Rattle.machine.specs.Questions.{between, good_gmode, regions, test_at, valid}
use Rattle.machine.proofs.Words.{gmode-from, gmode-oscillator}
use Rattle.machine.proofs.ValidMachine.{valid-generator, valid-with-ticks}
use Rattle.command_fields.specs.Fields.{field, flag, data_of, code5}
use Rattle.command_misc.specs.Misc.{released_one, released_below, released, miscellany}
use Rattle.command_timer.specs.Timer.{counter_set, behind, waits_for, lingered, tt_of, timed, ticks_data, ticks_set}
use Rattle.command_built.specs.Built.{command_refusal}
use Rattle.command.specs.Command.{done, after_command}
use Rattle.command_laws.proofs.Accepted.{Accepted, accepted, ticks-accepted}
use Rattle.command_laws.proofs.ValidLoads.{Valid, generator-keeps, dx-keeps, later-keeps, delay-load-valid, generator-load-valid, modifier-load-valid}

-- A generator that goes to 1111 has a good GMODE: its oscillator mode is kept.
good-released : (m : List ℕ) → Valid m → (g : ℕ) → g < 256 → good_gmode Of1978 (with_run_mode running_a (gmode_at m g)) ≡ true
unfolding built_run is_one_of
good-released m e g h =
    let x = gmode_at m g in
    let y = with_run_mode running_a x in
    let top : y / 2 ^ 6 ≡ running_a = omega arith in
    let rest : y % 2 ^ 4 ≡ x % 2 ^ 4 = omega arith in
    gmode-from y (omega arith) (ap built_run top) (ap built_oscillator rest ∙ gmode-oscillator _ (valid-generator Of1978 m e g h).good)

released-valid : (r : ℕ) (m : List ℕ) → Valid m → (n : ℕ) → n ≤ 256 → Valid (released_below r m n)
unfolding released_below released_one regions
released-valid r m e zero h = e
released-valid r m e (suc n) h =
    let so_far = released-valid r m e n (omega arith) in
    of-cond Valid (eqb (run_mode_at Of1978 (released_below r m n) n) r)
    (generator-keeps n GMODE _ (omega arith) (lit< tt) (good-released (released_below r m n) so_far n (omega arith)) (released_below r m n) so_far)
    so_far

-- MISC.
miscellany-valid : (m : List ℕ) → Valid m → (c : ℕ) → Valid (miscellany m c)
unfolding miscellany released regions
miscellany-valid m e c =
    let first = of-cond Valid (eqb (field 29 30 c) 0b01) (dx-keeps (data_of c) (lt-ltb (data_of c) (2 ^ word_bits) (omega arith)) m e) e in
    let second = of-cond Valid (flag 33 c) (released-valid wait _ first 256 (omega arith)) first in
    of-cond Valid (flag 34 c) (released-valid pause _ second 256 (omega arith)) second

-- TIMER.
counter-valid : (m : List ℕ) → Valid m → (n : ℕ) → n < 2 ^ counter_bits → Valid (counter_set m n)
unfolding counter_set regions
counter-valid m e n l = later-keeps counter_at n (lit< tt) (lit< tt) (lt-ltb n (2 ^ counter_bits) l) m e

lingered-valid : (m : List ℕ) → Valid m → (n : ℕ) → n < 2 ^ linger_bits → Valid (lingered m n)
unfolding lingered regions
lingered-valid m e n l =
    let waiting = later-keeps lingering_at 1 (lit< tt) (lit< tt) refl m e in
    of-cond Valid (waits_for m n) (later-keeps linger_pass_at n (lit< tt) (lit< tt) (lt-ltb n (2 ^ linger_bits) l) _ waiting)
    (of-cond Valid (eqb (behind m n) 0) e (later-keeps overrun_at 1 (lit< tt) (lit< tt) refl m e))

timed-valid : (m : List ℕ) → Valid m → (c : ℕ) → Valid (timed m c)
unfolding timed
timed-valid m e c =
    let low : data_of c < 2 ^ 20 = omega arith in
    of-cond Valid (eqb (tt_of c) 0b01) (counter-valid m e (data_of c) (omega (arith, low)))
    (of-cond Valid (eqb (tt_of c) 0b10) (lingered-valid m e (data_of c) low)
    (of-cond Valid (eqb (tt_of c) 0b11) (lingered-valid _ (counter-valid m e 0 (lit< tt)) (data_of c) low) e))

-- TICKS.
within : (a b x : ℕ) → a ≤ x → x ≤ b → between a b x ≡ true
within a b x p q = and_both (leb a x) (leb x b) (le-leb a x p) (le-leb x b q)

ticks-valid : (m : List ℕ) → Valid m → Reaches m → (c : ℕ) → Accepted c → eqb (code5 c) 0b00011 ≡ true → Valid (ticks_set m c)
unfolding ticks_set regions test_at
ticks-valid m e r c p t =
    of_test (λ (l : List ℕ). Valid (with_update_ticks l)) (flag 32 c)
    (λ q. valid-with-ticks Of1978 m e r n_at (ticks_data c + 2) (lit< tt) (within 2 1025 (ticks_data c + 2) (omega arith) (omega arith)))
    (λ q. let l = ticks-accepted c p t q in valid-with-ticks Of1978 m e r t_at (ticks_data c + 1) (lit< tt) (within 1 256 (ticks_data c + 1) (omega arith) (omega arith)))

-- An accepted command, and any command in its turn.
pub done-valid : (m : List ℕ) → Valid m → Reaches m → (c : ℕ) → command_refusal c ≡ 0 → Valid (done m c)
unfolding done
done-valid m e r c z =
    let p = accepted c z in
    of-cond Valid (eqb (code5 c) 0b00000) (miscellany-valid m e c)
    (of_test Valid (eqb (code5 c) 0b00001) (λ t. delay-load-valid c m e p t)
    (λ q. of-cond Valid (eqb (code5 c) 0b00010) (timed-valid m e c)
    (of_test Valid (eqb (code5 c) 0b00011) (λ t. ticks-valid m e r c p t)
    (λ q. of-cond Valid (ltb (code5 c) 0b11000) (generator-load-valid m e c p) (modifier-load-valid m e c p)))))

pub command-valid : (m : List ℕ) (c : ℕ) → Reaches m → valid Of1978 m ≡ true → valid Of1978 (after_command m c) ≡ true
unfolding after_command
command-valid m c r e = of_test Valid (eqb (command_refusal c) 0) (λ t. done-valid m e r c (eqb-true (command_refusal c) 0 t)) (λ q. e)
