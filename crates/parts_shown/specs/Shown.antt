-- By what passes from the contents for two orders differ: the first word of the machine, or where no word differs the first written item.
-- Assumes nothing.
use Rattle.std.specs.Prelude.{ℕ, suc, ◌<◌, cond, List, [], ◌∷◌, ◌≢◌, ◌≡◌, eqb, ltb, length, get_or}
use Rattle.base_lists.specs.Lists.{zeros}
use Rattle.layout.specs.Layout.{generators}
use Rattle.layout.specs.Machine.{Machine, Order, Items}
use Rattle.layout_texts.specs.declared.Text.{Text}
use Rattle.pass_model.specs.Pass.{Outcome, plain_call, written_data, pass_of}
use Rattle.parts_shown.specs.declared.Difference.{Difference}
use Rattle.parts_shown.specs.declared.Difference.TheVariants.{Word, Written}

-- The first place at which two lists differ; the shorter one's length where they don't before.
unfoldable pub first_different : List ℕ → List ℕ → ℕ
first_different [] ys = 0
first_different (x ∷ xs) [] = 0
first_different (x ∷ xs) (y ∷ ys) = cond (eqb x y) (suc (first_different xs ys)) 0

-- By what two passes differ: the first word of the machine, and where none does the first written item, counted from 0.
unfoldable pub difference_between : Outcome → Outcome → Difference
difference_between r s =
    let word = first_different r.machine s.machine in
    cond (ltb word (length r.machine)) (Word word) (Written (first_different (written_data r) (written_data s)))

-- A pass from contents by an order, over a delay memory of zeros and with a place for every generator that could write.
abbrev pub pass_by : Text → Machine → Items → Order → Outcome
pass_by text contents items order = pass_of text contents (plain_call order items (zeros generators))

-- By what passes from contents by two orders differ.
abbrev pub difference_shown : Text → Machine → Items → Order → Order → Difference
difference_shown text contents items o₁ o₂ = difference_between (pass_by text contents items o₁) (pass_by text contents items o₂)

-- The first place at which two lists differ, both having it.
pub record FirstDifferent (xs ys : List ℕ) (i : ℕ) : Type 0 where
  pub in-first : i < length xs
  pub in-second : i < length ys
  pub before : (j : ℕ) → j < i → get_or xs j 0 ≡ get_or ys j 0
  pub there : get_or xs i 0 ≢ get_or ys i 0

-- What a difference says of two passes.
abbrev pub Differ : Outcome → Outcome → Difference → Type 0
Differ r s (Word w) = FirstDifferent r.machine s.machine w
Differ r s (Written i) = (r.machine ≡ s.machine) × FirstDifferent (written_data r) (written_data s) i
