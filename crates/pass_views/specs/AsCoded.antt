-- What the code keeps of modifier-this: the word that a write leaves, the early view as it catches up; and a turn that no delay unit has a part in.
-- Laws join them to `turn_seen` and `early_view` of `pass_model`, which alone a reader has to believe. Assumes nothing.
use Rattle.std.specs.Prelude.{ℕ, ◌/◌, ◌%◌, cond, List, [], ◌∷◌, eqb, get_or, set}
use Rattle.base_words.specs.Words.{sum}
use Rattle.layout.specs.Machine.{Sums}
use Rattle.layout_texts.specs.declared.Text.{Text}
use Rattle.modifier.specs.declared.Modifier.{Modifier}
use Rattle.modifier.specs.declared.Turned.{Turned}
use Rattle.modifier.specs.Modifier.{function_of}
use Rattle.pass_sums.specs.Sums.{word_at}
use Rattle.pass_views.specs.declared.Written.{Written}
use Rattle.pass_views.specs.declared.Lag.{Lag}
use Rattle.pass_model.specs.Modifiers.{Write, seen, modifier_turn, modifier_reads_late}

-- The turn of a modifier that invokes no delay unit: B beside A.
unfoldable pub turn_with_b : Text → Sums → List ℕ → List ℕ → Modifier → Turned
turn_with_b text s early late u = modifier_turn text u (seen s (cond (modifier_reads_late text (function_of u)) late early) u.min) (seen s early u.mrm)

-- The word that a write leaves at its place of a quadrant.
unfoldable pub word_left : List ℕ → Write → ℕ
word_left q w = cond (eqb (w.msum / 64) 0) (sum 20 (word_at q (w.msum % 64)) w.s) w.s

-- A write in a slot: MSUM 0, and a word.
abbrev pub first_written : ℕ → Written
first_written left = record { msum = 0; left = left }

-- The early view with the write of slot j, of the last four.
unfoldable pub caught_up : List ℕ → List Written → ℕ → List ℕ
caught_up early writes j = let w = get_or writes j (first_written 0) in set early (w.msum % 64) w.left

-- As the stage begins, by modifier-this: the last four writes change nothing, word 0 as it is.
unfoldable pub unwritten : List ℕ → Lag
unwritten q =
    let first = first_written (get_or q 0 0) in
    record { early = q; writes = first ∷ first ∷ first ∷ first ∷ [] }
