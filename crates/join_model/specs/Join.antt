-- Two machines of the 1978 text joined to one (document 02, Q-12).
-- Assumes nothing.
use Rattle.std.specs.Prelude.{ℕ, ◌+◌, ◌-◌, Bool, cond, not, ◌&&◌, ◌||◌, [], ◌∷◌, eqb, leb, ltb, get_or}
use Rattle.base_lists.specs.Lists.{tabulate, all_below}
use Rattle.layout_modes.specs.Modes.{wait, running_c, read_data, write_data, write_dac}
use Rattle.layout.specs.Layout.{machine_length, generator_at, quadrant_at, dac_at, t_at, n_at, update_ticks_at, dacs, quadrant_words, generators}
use Rattle.layout.specs.Machine.{Machine, ticks_of, update_ticks, gsum_at, gfm_at, function_at}
use Rattle.layout_texts.specs.Texts.{run_mode_at, dac_number_at}
use Rattle.layout_texts.specs.declared.Text.TheVariants.{Of1978}
use Rattle.base_questions.specs.Questions.{Question, asked}
use Rattle.machine.specs.Questions.{question1, question2}
use Rattle.pass_sums.specs.Sums.{generator_this, generator_last}

-- Some number below n passes a test.
abbrev pub any_below : (ℕ → Bool) → ℕ → Bool
any_below p n = not (all_below (λ k. not (p k)) n)

-- Whether generator g names a sum word, by GSUM or GFM; whether it feeds a DAC: it is in 0010 and names it.
abbrev pub names_word : Machine → ℕ → ℕ → Bool
names_word m w g = eqb (gsum_at m g) w || eqb (gfm_at m g) w

abbrev pub feeds_dac : Machine → ℕ → ℕ → Bool
feeds_dac m d g = eqb (run_mode_at Of1978 m g) write_dac && eqb (dac_number_at Of1978 m g) d

-- Whether a machine uses a sum word or a DAC: a generator below T, an idle one too, names the word or feeds the DAC.
unfoldable pub uses_word : Machine → ℕ → Bool
uses_word m w = any_below (names_word m w) (ticks_of m)

unfoldable pub uses_dac : Machine → ℕ → Bool
uses_dac m d = any_below (feeds_dac m d) (ticks_of m)

-- Whether place i is one of n places from a place on.
abbrev pub among : ℕ → ℕ → ℕ → Bool
among at n i = leb at i && ltb i (at + n)

-- Whether the second machine's word at place i is brought over to the same place: a generator sum word, this or last, or a DAC word, that it uses.
unfoldable pub brought_over : Machine → ℕ → Bool
brought_over b i =
    cond (among (quadrant_at generator_this) quadrant_words i) (uses_word b (i - quadrant_at generator_this))
    (cond (among (quadrant_at generator_last) quadrant_words i) (uses_word b (i - quadrant_at generator_last))
    (among (dac_at 0) dacs i && uses_dac b (i - dac_at 0)))

-- The first machine's word at place i, where T is the sum and the update ticks are those of this T and the first's N.
unfoldable pub first_word : Machine → Machine → ℕ → ℕ
first_word a b i =
    cond (eqb i t_at) (ticks_of a + ticks_of b)
    (cond (eqb i update_ticks_at) (update_ticks (ticks_of a + ticks_of b) (get_or a n_at 0))
    (get_or a i 0))

-- Word i of the joined machine: the second's generators below its T follow the first's T, its sum words and DACs in use are brought over,
-- and everything else comes from the first.
unfoldable pub joined_word : Machine → Machine → ℕ → ℕ
joined_word a b i =
    cond (among (generator_at (ticks_of a)) (generator_at (ticks_of b)) i) (get_or b (i - generator_at (ticks_of a)) 0)
    (cond (brought_over b i) (get_or b i 0)
    (first_word a b i))

unfoldable pub joined : Machine → Machine → Machine
joined a b = tabulate (joined_word a b) 0 machine_length

-- Question 16: the sum of both T is at most 256.
abbrev pub question16 : Machine → Machine → Question
question16 a b = record { number = 16; yes = leb (ticks_of a + ticks_of b) generators }

-- A generator that reads data, one that writes data, and one whose GFM names a word of the generators' quadrant.
abbrev pub reads_data : Machine → ℕ → Bool
reads_data m g = eqb (run_mode_at Of1978 m g) read_data

abbrev pub writes_data : Machine → ℕ → Bool
writes_data m g = eqb (run_mode_at Of1978 m g) write_data

abbrev pub own_input : Machine → ℕ → Bool
own_input m g = ltb (gfm_at m g) quadrant_words

-- A machine that sounds by its generators alone: below T no reader, no writer and no modifier-quadrant GFM, and of all modifiers none that is active.
abbrev pub own_generator : Machine → ℕ → Bool
own_generator m g = not (reads_data m g) && (not (writes_data m g) && own_input m g)

unfoldable pub own_generators : Machine → Bool
own_generators m = all_below (own_generator m) (ticks_of m)

unfoldable pub idle_modifiers : Machine → Bool
idle_modifiers m = all_below (λ k. eqb (function_at m k) 0) 128

abbrev pub self_contained : Machine → Bool
self_contained m = own_generators m && idle_modifiers m

-- Whether generator 0 waits for its lower neighbour, or can come to wait: in 1001 or 1101.
unfoldable pub awaits_neighbour : Machine → Bool
awaits_neighbour m = eqb (run_mode_at Of1978 m 0) wait || eqb (run_mode_at Of1978 m 0) running_c

-- Question 17: both machines sound by their generators alone, and the second's generator 0, which gets a lower neighbour, doesn't wait for it.
abbrev pub question17 : Machine → Machine → Question
question17 a b = record { number = 17; yes = self_contained a && (self_contained b && not (awaits_neighbour b)) }

-- Question 18: no sum word and no DAC is used by both.
unfoldable pub words_apart : Machine → Machine → Bool
words_apart a b = all_below (λ w. not (uses_word a w && uses_word b w)) quadrant_words

unfoldable pub dacs_apart : Machine → Machine → Bool
dacs_apart a b = all_below (λ d. not (uses_dac a d && uses_dac b d)) dacs

abbrev pub question18 : Machine → Machine → Question
question18 a b = record { number = 18; yes = words_apart a b && dacs_apart a b }

-- The questions of the call, in sequence: 1 and 2 of the first machine, 1 and 2 of the second, 16, 17, 18.
unfoldable pub join_refusal : Machine → Machine → ℕ
join_refusal a b =
    asked (question1 a ∷ question2 Of1978 a ∷ question1 b ∷ question2 Of1978 b ∷ question16 a b ∷ question17 a b ∷ question18 a b ∷ [])

-- What the call answers and leaves of the first machine: the joined one, and in a refusal what it was.
pub record JoinAnswer : Type 0 where
  pub number : ℕ
  pub machine : Machine

unfoldable pub join_of : Machine → Machine → JoinAnswer
join_of a b =
    let n = join_refusal a b in
    record { number = n; machine = cond (eqb n 0) (joined a b) a }
