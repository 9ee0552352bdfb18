-- A run of words filled at places a step apart.
-- Assumes nothing.
use Rattle.std.specs.Prelude.{ℕ, zero, suc, ◌+◌, ◌*◌, List, set}

-- Of n words, the first at a place and each a step after the one before, word k is what f gives for k. Every other word stays.
unfoldable pub filled : ℕ → ℕ → ℕ → (ℕ → ℕ) → List ℕ → List ℕ
filled at step zero f run = run
filled at step (suc n) f run = set (filled at step n f run) (at + step * n) (f n)
