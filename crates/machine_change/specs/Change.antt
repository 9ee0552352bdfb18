-- A change of one partial (document 02, Q-13): of a generator's GMODE, GSUM, GFM or DAC number, or of T by one.
-- Assumes nothing.
use Rattle.std.specs.Prelude.{ℕ, ◌+◌, ◌-◌, ◌*◌, ◌/◌, Bool, true, cond, ◌&&◌, ◌||◌, [], ◌∷◌, eqb, leb, ltb, get_or, set}
use Rattle.layout.specs.Layout.{generators, dacs, generator_at, t_at, update_ticks_at, GO, GSUM, GFM, GMODE}
use Rattle.layout.specs.Machine.{Machine, ticks_of, with_update_ticks}
use Rattle.layout_texts.specs.declared.Text.TheVariants.{Of1978}
use Rattle.base_questions.specs.Questions.{asked}
use Rattle.machine.specs.Questions.{question1, question2}

-- The kinds of changes, by number.
abbrev pub gmode_change : ℕ
gmode_change = 0

abbrev pub gsum_change : ℕ
gsum_change = 1

abbrev pub gfm_change : ℕ
gfm_change = 2

abbrev pub dac_change : ℕ
dac_change = 3

abbrev pub tick_more : ℕ
tick_more = 4

abbrev pub tick_fewer : ℕ
tick_fewer = 5

-- A change: its kind, the generator and the value. A change of T looks at neither of the last two.
pub record Change : Type 0 where
  pub kind : ℕ
  pub generator : ℕ
  pub value : ℕ

-- There is such a change: the kind is one of these, the generator at most 255, the DAC at most 15.
unfoldable pub is_change : Change → Bool
is_change c =
    cond (leb c.kind dac_change) (ltb c.generator generators && cond (eqb c.kind dac_change) (ltb c.value dacs) true)
    (leb c.kind tick_fewer)

-- The machine with another word of a generator; of GO the low 4 bits alone are changed.
unfoldable pub register_changed : Machine → Change → Machine
register_changed m c =
    let at = generator_at c.generator in
    cond (eqb c.kind gmode_change) (set m (at + GMODE) c.value)
    (cond (eqb c.kind gsum_change) (set m (at + GSUM) c.value)
    (cond (eqb c.kind gfm_change) (set m (at + GFM) c.value)
    (set m (at + GO) (get_or m (at + GO) 0 / dacs * dacs + c.value))))

-- With another T, and the update ticks of it.
abbrev pub with_ticks : Machine → ℕ → Machine
with_ticks m t = with_update_ticks (set m t_at t)

-- The changed machine.
unfoldable pub changed_by : Machine → Change → Machine
changed_by m c =
    cond (eqb c.kind tick_more) (with_ticks m (ticks_of m + 1))
    (cond (eqb c.kind tick_fewer) (with_ticks m (ticks_of m - 1))
    (register_changed m c))

-- The generator that a change concerns: with one tick more the one that comes in, with one fewer the one that goes, else the one that it names.
unfoldable pub concerned : Machine → Change → ℕ
concerned m c = cond (eqb c.kind tick_more) (ticks_of m) (cond (eqb c.kind tick_fewer) (ticks_of m - 1) c.generator)

-- The questions of a change: 1 and 2 of the machine, then with number 2 whether there is such a change and whether the changed machine passes question 2.
unfoldable pub change_refusal : Machine → Change → ℕ
change_refusal m c =
    asked (question1 m ∷ question2 Of1978 m ∷ record { number = 2; yes = is_change c } ∷ question2 Of1978 (changed_by m c) ∷ [])

-- Whether the word at place i is one that a change is of: the register's, or T's and the update ticks'.
unfoldable pub is_of : Change → ℕ → Bool
is_of c i =
    let at = generator_at c.generator in
    cond (eqb c.kind gmode_change) (eqb i (at + GMODE))
    (cond (eqb c.kind gsum_change) (eqb i (at + GSUM))
    (cond (eqb c.kind gfm_change) (eqb i (at + GFM))
    (cond (eqb c.kind dac_change) (eqb i (at + GO))
    (eqb i t_at || eqb i update_ticks_at))))
