-- The answer of the call that gives numbers for a chain of modifiers (document 02, Q-11).
-- Assumes nothing.
use Rattle.std.specs.Prelude.{ℕ, Bool, cond, List, [], ◌∷◌, eqb, ltb}
use Rattle.base_lists.specs.Lists.{all_below}
use Rattle.base_fills.specs.Fills.{filled}
use Rattle.base_questions.specs.Questions.{Question, asked}
use Rattle.chain_entries.specs.Entries.{Chain, size, chain_good}
use Rattle.chain_numbers.specs.Earliest.{modifiers, earliest}

-- Question 14: the chain fits.
abbrev pub question14 : Chain → Question
question14 c = record { number = 14; yes = chain_good c }

-- Question 15: the earliest numbers are at most 127, those of modifiers.
unfoldable pub numbers_fit : Chain → Bool
numbers_fit c = all_below (λ i. ltb (earliest c i) modifiers) (size c)

abbrev pub question15 : Chain → Question
question15 c = record { number = 15; yes = numbers_fit c }

-- The questions of the call.
unfoldable pub chain_refusal : Chain → ℕ
chain_refusal c = asked (question14 c ∷ question15 c ∷ [])

-- What the call answers and leaves: the number of the refusing question or 0, and the run for the numbers.
pub record Numbered : Type 0 where
  pub number : ℕ
  pub numbers : List ℕ

-- Answered 0, the first words of the run are the numbers of the entries and the others stay. Refused, all stay.
unfoldable pub chain_of : Chain → List ℕ → Numbered
chain_of c run =
    let n = chain_refusal c in
    record { number = n; numbers = cond (eqb n 0) (filled 0 1 (size c) (earliest c) run) run }
