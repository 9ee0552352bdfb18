-- Q-2's answer kept beside a machine, with the counts that it needs, and brought up to date (document 02, Q-13).
-- Assumes nothing.
use Rattle.std.specs.Prelude.{ℕ, true, false, cond, List, [], ◌∷◌, eqb}
use Rattle.layout.specs.Machine.{Machine}
use Rattle.layout_texts.specs.declared.Text.TheVariants.{Of1978}
use Rattle.base_questions.specs.Questions.{asked}
use Rattle.machine.specs.Questions.{question1, question2}
use Rattle.machine_change.specs.Change.{Change, changed_by, concerned, change_refusal}
use Rattle.any_order_sums.specs.Places.{Kept}
use Rattle.any_order_counts.specs.Kept.{kept_of}
use Rattle.any_order_counts.specs.AsCoded.{counted_moved}
use Rattle.any_order_rule.specs.AsCoded.{answered}

-- What keep answers: the number of the refusing question or 0, and the words that are kept.
pub record Making : Type 0 where
  pub number : ℕ
  pub kept : Kept

-- What is kept is made from a machine: questions 1 and 2. Refused, the words stay as they were.
unfoldable pub keep_of : Machine → Kept → Making
keep_of m k =
    let n = asked (question1 m ∷ question2 Of1978 m ∷ []) in
    record { number = n; kept = cond (eqb n 0) (kept_of m) k }

-- What is kept, brought up to date, whatever the words are: generator g is taken out by the machine m before the change, put in by the machine n after it, and the rule is asked.
unfoldable pub kept_after : Machine → Machine → ℕ → Kept → Kept
kept_after m n g k = answered (counted_moved true n (counted_moved false m k g) g)

-- What change answers: the number of the refusing question or 0, the machine, and the words that are kept.
pub record ChangeOutcome : Type 0 where
  pub number : ℕ
  pub machine : Machine
  pub kept : Kept

-- A change of a machine and of what is kept. Refused, both stay as they were.
unfoldable pub change_of : Machine → Kept → Change → ChangeOutcome
change_of m k c =
    let n = change_refusal m c in
    cond (eqb n 0) (record { number = 0; machine = changed_by m c; kept = kept_after m (changed_by m c) (concerned m c) k })
    (record { number = n; machine = m; kept = k })

-- A machine with what is kept beside it, and a list of changes of them, refused or not.
pub record Beside : Type 0 where
  pub machine : Machine
  pub kept : Kept

unfoldable pub changes_of : Machine → Kept → List Change → Beside
changes_of m k [] = record { machine = m; kept = k }
changes_of m k (c ∷ cs) = let done = change_of m k c in changes_of done.machine done.kept cs
