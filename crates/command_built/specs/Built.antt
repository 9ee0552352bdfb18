-- Questions 3 and 4, which a command is asked (document 01, "Questions at the door").
-- Assumes nothing.
use Rattle.std.specs.Prelude.{ℕ, Bool, true, cond, not, ◌&&◌, ◌||◌, [], ◌∷◌, eqb, leb, ltb}
use Rattle.base_questions.specs.Questions.{Question, asked}
use Rattle.machine.specs.Questions.{good_gmode, good_mmode, good_address}
use Rattle.command_fields.specs.Fields.{field, flag, code4, code5}
use Rattle.command_timer.specs.Timer.{ticks_data}
use Rattle.command_delay.specs.DelayLoads.{built_dly}
use Rattle.layout_texts.specs.declared.Text.TheVariants.{Of1978}

-- MISC with RR 10 or 11 or with S is not built.
abbrev pub built_misc : ℕ → Bool
built_misc c = ltb (field 29 30 c) 0b10 && not (flag 35 c)

-- TICKS has a fixed 0 in bit 31; with a 1 there it is an unused code.
abbrev pub built_ticks : ℕ → Bool
built_ticks c = not (flag 31 c)

-- GMODE, unless disabled: its modes are built.
abbrev pub built_gmode : ℕ → Bool
built_gmode c = flag 4 c || good_gmode Of1978 (field 7 16 c)

-- The function of MMODE, unless disabled, is built.
abbrev pub built_mmode : ℕ → Bool
built_mmode c = flag 4 c || good_mmode Of1978 (field 8 16 c)

-- MRM and MIN, each unless disabled, have no top bits 11.
abbrev pub built_mrm : ℕ → Bool
built_mrm c = (flag 4 c || good_address (field 8 15 c)) && (flag 5 c || good_address (field 16 23 c))

-- Whether a command is built, its modes and addresses too, disabled fields aside. Nothing more is asked of the other codes.
unfoldable pub built : ℕ → Bool
built c =
    cond (eqb (code5 c) 0b00000) (built_misc c)
    (cond (eqb (code5 c) 0b00001) (built_dly c)
    (cond (eqb (code5 c) 0b00011) (built_ticks c)
    (cond (eqb (code4 c) 0b1010) (built_gmode c)
    (cond (eqb (code5 c) 0b11110) (built_mmode c)
    (cond (eqb (code5 c) 0b11111) (built_mrm c)
    true)))))

-- A TICKS Q 0 number is at most 255.
unfoldable pub ticks_fit : ℕ → Bool
ticks_fit c = not (eqb (code5 c) 0b00011) || flag 32 c || leb (ticks_data c) 255

abbrev pub question3 : ℕ → Question
question3 c = record { number = 3; yes = built c }

abbrev pub question4 : ℕ → Question
question4 c = record { number = 4; yes = ticks_fit c }

-- What a command is refused with; 0 if it is not.
unfoldable pub command_refusal : ℕ → ℕ
command_refusal c = asked (question3 c ∷ question4 c ∷ [])
