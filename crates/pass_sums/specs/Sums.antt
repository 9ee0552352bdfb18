-- Sum memory: four quadrants of 64 words, 20 bits signed (document 01, "The machine").
-- Assumes nothing.
use Rattle.std.specs.Prelude.{ℕ, ◌/◌, ◌%◌, ◌^◌, cond, List, [], ◌∷◌, eqb, get_or, set, take, drop, replicate}
use Rattle.std.proofs.lemmas.List.Edits.{sets}
use Rattle.layout.specs.Layout.{quadrant_at}

-- The quadrants by number.
abbrev pub generator_this : ℕ
generator_this = 0

abbrev pub generator_last : ℕ
generator_last = 1

abbrev pub modifier_this : ℕ
modifier_this = 2

abbrev pub modifier_last : ℕ
modifier_last = 3

-- Quadrant q of a machine's words.
unfoldable pub quadrant_of : List ℕ → ℕ → List ℕ
quadrant_of words q = take 64 (drop (quadrant_at q) words)

-- The sum memory of a machine's words.
unfoldable pub sums_of : List ℕ → List (List ℕ)
sums_of words =
    quadrant_of words generator_this ∷ quadrant_of words generator_last ∷ quadrant_of words modifier_this ∷ quadrant_of words modifier_last ∷ []

-- The word at place i of a quadrant.
unfoldable pub word_at : List ℕ → ℕ → ℕ
word_at q i = get_or q i 0 % 2 ^ 20

-- Word i of generator-this, and sum memory with another word there.
unfoldable pub sum_at : List (List ℕ) → ℕ → ℕ
sum_at s i = word_at (get_or s generator_this []) i

unfoldable pub put_sum : List (List ℕ) → ℕ → ℕ → List (List ℕ)
put_sum s i v = set s generator_this (set (get_or s generator_this []) i v)

-- F: the word at GFM, whose top bit is 0 for generator-last and 1 for modifier-last.
unfoldable pub f_at : List (List ℕ) → ℕ → ℕ
f_at s gfm = word_at (get_or s (cond (eqb (gfm / 64) 0) generator_last modifier_last) []) (gfm % 64)

-- The end of a pass: both this-pass quadrants are copied to last, and cleared.
unfoldable pub closed : List ℕ → List (List ℕ) → List ℕ
closed words s =
    sets
    (sets
    (sets
    (sets words (quadrant_at generator_this) (replicate 64 0))
    (quadrant_at generator_last) (get_or s generator_this []))
    (quadrant_at modifier_this) (replicate 64 0))
    (quadrant_at modifier_last) (get_or s modifier_this [])
