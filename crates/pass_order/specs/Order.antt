-- An order of the generators, and the generators of a run mode (document 01, "A pass, and two orders of it" and "Questions at the door").
-- Assumes nothing.
use Rattle.std.specs.Prelude.{ℕ, ◌<◌, Bool, ◌≡◌, eqb, leb, length, get_or}
use Rattle.base_lists.specs.Lists.{all_below, count, count_below}
use Rattle.layout.specs.Machine.{Machine, Order, Items, Places, ticks_of}
use Rattle.layout_texts.specs.Texts.{run_mode_at}
use Rattle.layout_texts.specs.declared.Text.{Text}
use Rattle.layout_modes.specs.Modes.{read_data, write_data}
use Rattle.base_questions.specs.Questions.{Question}

-- Question 5: there are T entries.
abbrev pub question5 : ℕ → Order → Question
question5 t order = record { number = 5; yes = eqb (length order) t }

-- Question 6: each number below T is there once.
unfoldable pub each_once : ℕ → Order → Bool
each_once t order = all_below (λ g. eqb (count g order) 1) t

abbrev pub question6 : ℕ → Order → Question
question6 t order = record { number = 6; yes = each_once t order }

-- An order that passes questions 5 and 6: t entries, each number below t there once, and each entry below t.
pub record IsOrder (t : ℕ) (order : Order) : Type 0 where
  pub entries : length order ≡ t
  pub once : (k : ℕ) → k < t → count k order ≡ 1
  pub below : (i : ℕ) → i < length order → get_or order i 0 < t

-- How many generators below T are in a run mode.
unfoldable pub in_mode : Text → Machine → ℕ → ℕ
in_mode text m r = count_below (λ g. eqb (run_mode_at text m g) r) (ticks_of m)

-- Question 7: there are read items for all 0111s below T.
abbrev pub question7 : Text → Machine → Items → Question
question7 text m items = record { number = 7; yes = leb (in_mode text m read_data) (length items) }

-- Question 8: there are written places for all 0011s below T.
abbrev pub question8 : Text → Machine → Places → Question
question8 text m places = record { number = 8; yes = leb (in_mode text m write_data) (length places) }
