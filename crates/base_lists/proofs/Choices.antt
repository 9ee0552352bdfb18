-- What holds of a choice between two values.
-- Assumes nothing.
use mathlib.Core.Path.{◌≡◌, refl}
use mathlib.Core.Bool.{Bool, true, false, cond}

-- What holds of both holds of a choice between them.
pub of-cond : {A : Type 0} (P : A → Type 0) (b : Bool) {x y : A} → P x → P y → P (cond b x y)
of-cond P true p q = p
of-cond P false p q = q

-- The same where each side is reached only by its own outcome of the test.
pub of_test : {A : Type 0} (P : A → Type 0) (b : Bool) {x y : A} → (b ≡ true → P x) → (b ≡ false → P y) → P (cond b x y)
of_test P true p q = p refl
of_test P false p q = q refl
