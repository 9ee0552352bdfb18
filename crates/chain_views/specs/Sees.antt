-- A modifier that sees the write of another (document 02, Q-11; document 01, "A modifier").
-- Assumes nothing.
use Rattle.std.specs.Prelude.{ℕ, Bool, cond, List, ◌∷◌, ◌++◌, ◌≡◌, length, take}
use Rattle.pass_model.specs.Modifiers.{Write, with_writes, early_view, late_view}

-- What modifier m sees of modifier-this in an early read, or in a late one.
abbrev pub view_of : Bool → List ℕ → ℕ → List Write → List ℕ
view_of early q m writes = cond early (early_view q m writes) (late_view q m writes)

-- In an early or late read modifier m sees the write w of modifier n. Whatever the modifiers write and the stage begins with, its view is by all writes before w, by w, and by some of those after it.
pub record Sees (early : Bool) (m n : ℕ) : Type 0 where
  pub more : ℕ
  pub view : (q : List ℕ) (before : List Write) (w : Write) (after : List Write) → length before ≡ n
      → view_of early q m (before ++ (w ∷ after)) ≡ with_writes q (before ++ (w ∷ take more after))
