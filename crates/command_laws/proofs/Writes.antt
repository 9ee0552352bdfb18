-- What commands keep: each is made of words put in their places, and none but TIMER's puts one at the counter, lingering, the Linger pass or overrun.
-- Assumes nothing.
use mathlib.Core.Path.{◌≡◌}
use mathlib.Core.Bool.{Bool, true, cond}
use mathlib.Core.List.{List, [], ◌∷◌}
use Prim.Native.Nat.{ℕ, zero, suc, ◌+◌, ◌≤◌, ◌<◌}
use native.Mathlib.Omega.{arith}
use lib.Dec.{eqb, ltb, lit<}
use lib.ListN.{set}
use Rattle.base_lists.proofs.Choices.{of-cond, of_test}
use Rattle.layout.specs.Layout.{generator_at, modifier_at, delay_at, dx_at, t_at, n_at, counter_at, lingering_at, overrun_at, update_ticks_at, GO, GJ, GK, GN, GM, GP, GQ, GL, GSUM, GFM, GMODE, M0, M1, L0, L1, MIN, MRM, MSUM, MMODE, delay_x, delay_y, delay_z, delay_p}
use Rattle.layout.specs.Machine.{with_update_ticks}
use Rattle.layout_texts.specs.Texts.{run_mode_at}
use Rattle.layout_texts.specs.declared.Text.TheVariants.{Of1978}
use Rattle.base_questions.specs.Questions.{asked}
use Rattle.layout_modes.specs.Modes.{pause, wait}
use Rattle.machine.specs.Questions.{question1, question2}
use Rattle.command_fields.specs.Fields.{field, flag, data_of, code3, code4, code5, generator_number, modifier_number}
use Rattle.command_load.specs.Loads.{loaded_unless, cleared_if, loaded_data, loaded_right, loaded_left, loaded_adjusted, loaded_two, loaded_then_cleared}
use Rattle.command_generator.specs.GeneratorLoads.{generator_word, loaded_gq, loaded_gj, loaded_gp, loaded_gn, loaded_gl, loaded_gk, loaded_gmode, loaded_go, after_generator_load}
use Rattle.command_modifier.specs.ModifierLoads.{modifier_word, loaded_mm, loaded_ml, loaded_mmode, loaded_mrm, after_modifier_load}
use Rattle.command_misc.specs.Misc.{released_one, released_below, released, miscellany}
use Rattle.command_timer.specs.Timer.{timed, ticks_set}
use Rattle.command_delay.specs.DelayLoads.{uu_of, delay_number, delay_word, loaded_dly}
use Rattle.command_built.specs.Built.{command_refusal}
use Rattle.command.specs.Command.{done, waits}
use Rattle.command_update.specs.Update.{UpdateOutcome, most_commands, still_lingering, commands_taken_by, update_of}

-- A place of none of these four words.
pub record Aside (i : ℕ) : Type 0 where
  pub off : counter_at ≤ i → overrun_at < i

-- The words of generators, modifiers and delay units are such places, and those that a command addresses.
generator-aside : (g j : ℕ) → g < 256 → j < 11 → Aside (generator_at g + j)
generator-aside g j h l = record { off = λ e. omega arith }

modifier-aside : (k j : ℕ) → k < 128 → j < 8 → Aside (modifier_at k + j)
modifier-aside k j h l = record { off = λ e. omega arith }

delay-aside : (u j : ℕ) → Aside (delay_at u + j)
delay-aside u j = record { off = λ e. omega arith }

own : (c j : ℕ) → j < 11 → Aside (generator_word c j)
own c j l = generator-aside (generator_number c) j (omega arith) l

its : (c j : ℕ) → j < 8 → Aside (modifier_word c j)
its c j l = modifier-aside (modifier_number c) j (omega arith) l

-- DX, T, N and the update ticks.
dx-aside : Aside dx_at
dx-aside = record { off = λ e. omega arith }

t-aside : Aside t_at
t-aside = record { off = λ e. omega arith }

n-aside : Aside n_at
n-aside = record { off = λ e. omega arith }

ticks-aside : Aside update_ticks_at
ticks-aside = record { off = λ e. lit< tt }

-- What a word put in such a place keeps.
module _ (P : List ℕ → Type 0) (put : (m : List ℕ) → P m → (i v : ℕ) → Aside i → P (set m i v)) where
  -- The shapes of a load.
  unless-keeps : (b : Bool) (m : List ℕ) → P m → (i v : ℕ) → Aside i → P (loaded_unless b m i v)
  unfolding loaded_unless
  unless-keeps b m e i v a = of-cond P b e (put m e i v a)

  cleared-keeps : (b : Bool) (m : List ℕ) → P m → (i : ℕ) → Aside i → P (cleared_if b m i)
  unfolding cleared_if
  cleared-keeps b m e i a = of-cond P b (put m e i 0 a) e

  data-keeps : (m : List ℕ) → P m → (c i : ℕ) → Aside i → P (loaded_data m c i)
  unfolding loaded_data
  data-keeps m e c i a = put m e i _ a

  adjusted-keeps : (m : List ℕ) → P m → (c i w : ℕ) → Aside i → P (loaded_adjusted m c i w)
  unfolding loaded_adjusted loaded_left loaded_right
  adjusted-keeps m e c i w a = of-cond P (flag 27 c) (put _ (put m e i _ a) _ _ dx-aside) (put m e i _ a)

  two-keeps : (m : List ℕ) → P m → (c i v j w : ℕ) → Aside i → Aside j → P (loaded_two m c i v j w)
  unfolding loaded_two
  two-keeps m e c i v j w a b = unless-keeps (flag 5 c) _ (unless-keeps (flag 4 c) m e i v a) j w b

  then-cleared-keeps : (m : List ℕ) → P m → (c i v j w k : ℕ) → Aside i → Aside j → Aside k → P (loaded_then_cleared m c i v j w k)
  unfolding loaded_then_cleared
  then-cleared-keeps m e c i v j w k a b d = cleared-keeps (flag 6 c) _ (two-keeps m e c i v j w a b) k d

  -- The loads, in the sequence of their codes.
  delay-keeps : (m : List ℕ) → P m → (c : ℕ) → P (loaded_dly m c)
  unfolding loaded_dly
  delay-keeps m e c =
      let at : (j : ℕ) → Aside (delay_word c j) = delay-aside (delay_number c) in
      of-cond P (eqb (uu_of c) 0b00) (put _ (put m e _ _ (at delay_x)) _ _ (at delay_y))
      (of-cond P (eqb (uu_of c) 0b01) (put m e _ _ (at delay_y))
      (of-cond P (eqb (uu_of c) 0b10) (put _ (put m e _ _ (at delay_z)) _ _ (at delay_p))
      e))

  generator-keeps : (m : List ℕ) → P m → (c : ℕ) → P (after_generator_load m c)
  unfolding after_generator_load loaded_gq loaded_gj loaded_gp loaded_gn loaded_gl loaded_gk loaded_gmode loaded_go
  generator-keeps m e c =
      of-cond P (eqb (code3 c) 0b001) (adjusted-keeps m e c _ _ (own c GQ (lit< tt)))
      (of-cond P (eqb (code3 c) 0b010) (adjusted-keeps m e c _ _ (own c GJ (lit< tt)))
      (of-cond P (eqb (code4 c) 0b0110) (data-keeps m e c _ (own c GP (lit< tt)))
      (of-cond P (eqb (code4 c) 0b0111) (two-keeps m e c _ _ _ _ (own c GN (lit< tt)) (own c GM (lit< tt)))
      (of-cond P (eqb (code4 c) 0b1000) (two-keeps m e c _ _ _ _ (own c GL (lit< tt)) (own c GSUM (lit< tt)))
      (of-cond P (eqb (code4 c) 0b1001) (data-keeps m e c _ (own c GK (lit< tt)))
      (of-cond P (eqb (code4 c) 0b1010) (then-cleared-keeps m e c _ _ _ _ _ (own c GMODE (lit< tt)) (own c GFM (lit< tt)) (own c GK (lit< tt)))
      (of-cond P (eqb (code4 c) 0b1011) (data-keeps m e c _ (own c GO (lit< tt)))
      e)))))))

  modifier-keeps : (m : List ℕ) → P m → (c : ℕ) → P (after_modifier_load m c)
  unfolding after_modifier_load loaded_mm loaded_ml loaded_mmode loaded_mrm
  modifier-keeps m e c =
      let either : (j k : ℕ) → j < 8 → k < 8 → Aside (modifier_word c (cond (flag 28 c) j k))
      = λ j k a b. of-cond (λ (i : ℕ). Aside (modifier_word c i)) (flag 28 c) (its c j a) (its c k b) in
      of-cond P (eqb (code3 c) 0b110) (adjusted-keeps m e c _ _ (either M1 M0 (lit< tt) (lit< tt)))
      (of-cond P (eqb (code4 c) 0b1110) (data-keeps m e c _ (either L1 L0 (lit< tt) (lit< tt)))
      (of-cond P (eqb (code5 c) 0b11110)
      (cleared-keeps (flag 6 c) _ (unless-keeps (flag 5 c) _ (put m e _ _ (its c MMODE (lit< tt))) _ _ (its c MSUM (lit< tt))) _ (its c L0 (lit< tt)))
      (of-cond P (eqb (code5 c) 0b11111) (then-cleared-keeps m e c _ _ _ _ _ (its c MRM (lit< tt)) (its c MIN (lit< tt)) (its c L1 (lit< tt)))
      e)))

  -- MISC and TICKS.
  released-keeps : (r : ℕ) (m : List ℕ) → P m → (n : ℕ) → n ≤ 256 → P (released_below r m n)
  unfolding released_below released_one
  released-keeps r m e zero h = e
  released-keeps r m e (suc n) h =
      let so_far = released-keeps r m e n (omega arith) in
      of-cond P (eqb (run_mode_at Of1978 (released_below r m n) n) r) (put (released_below r m n) so_far _ _ (generator-aside n GMODE (omega arith) (lit< tt))) so_far

  miscellany-keeps : (m : List ℕ) → P m → (c : ℕ) → P (miscellany m c)
  unfolding miscellany released
  miscellany-keeps m e c =
      let first = of-cond P (eqb (field 29 30 c) 0b01) (put m e _ (data_of c) dx-aside) e in
      let second = of-cond P (flag 33 c) (released-keeps wait _ first 256 (omega arith)) first in
      of-cond P (flag 34 c) (released-keeps pause _ second 256 (omega arith)) second

  ticks-keeps : (m : List ℕ) → P m → (c : ℕ) → P (ticks_set m c)
  unfolding ticks_set with_update_ticks
  ticks-keeps m e c = put _ (of-cond P (flag 32 c) (put m e _ _ n-aside) (put m e _ _ t-aside)) _ _ ticks-aside

  -- A command, where TIMER keeps it too.
  pub done-keeps : (m : List ℕ) → P m → (c : ℕ) → (eqb (code5 c) 0b00010 ≡ true → P (timed m c)) → P (done m c)
  unfolding done
  done-keeps m e c t =
      of-cond P (eqb (code5 c) 0b00000) (miscellany-keeps m e c)
      (of-cond P (eqb (code5 c) 0b00001) (delay-keeps m e c)
      (of_test P (eqb (code5 c) 0b00010) t
      (λ q. of-cond P (eqb (code5 c) 0b00011) (ticks-keeps m e c)
      (of-cond P (ltb (code5 c) 0b11000) (generator-keeps m e c) (modifier-keeps m e c)))))

-- What each command keeps, and the end of lingering, an update keeps.
module _ (P : List ℕ → Type 0) (does : (m : List ℕ) → P m → (c : ℕ) → P (done m c)) (ends : (m : List ℕ) → P m → P (set m lingering_at 0)) where
  abbrev After : UpdateOutcome → Type 0
  After o = P o.machine

  taken-keeps : (k : ℕ) (m cs : List ℕ) → P m → After (commands_taken_by k m cs)
  unfolding commands_taken_by
  taken-keeps zero m cs e = e
  taken-keeps (suc k) m [] e = e
  taken-keeps (suc k) m (c ∷ cs) e =
      of-cond After (eqb (command_refusal c) 0) (of-cond After (waits m c) (does m e c) (taken-keeps k (done m c) cs (does m e c))) e

  pub update-keeps : (m cs : List ℕ) → P m → P (update_of m cs).machine
  unfolding update_of
  update-keeps m cs e =
      of-cond After (eqb (asked (question1 m ∷ question2 Of1978 m ∷ [])) 0)
      (of-cond After (still_lingering m) e (taken-keeps (most_commands m) (set m lingering_at 0) cs (ends m e)))
      e
