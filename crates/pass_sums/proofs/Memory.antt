-- Sum memory: its lengths, the words of its quadrants, and a word of generator-this that is replaced.
-- Assumes nothing.
use mathlib.Core.Path.{◌≡◌, refl, ap, ◌∙◌}
use mathlib.Core.Bool.{Bool, true, false, cond}
use mathlib.Core.Logic.{◌≢◌}
use mathlib.Core.List.{List, [], ◌∷◌}
use Prim.Native.Nat.{ℕ, zero, suc, ◌+◌, ◌/◌, ◌%◌, ◌^◌, ◌≤◌, ◌<◌}
use native.Mathlib.Nat.{mod-lt}
use native.Mathlib.Omega.{arith}
use lib.Dec.{eqb}
use lib.Pow.{pow_pos}
use lib.ListN.{length, get_or, set, take, drop, length-set, length-drop}
use lib.Seq.{length-take-le, get_or-take, get_or-drop, get_or-set_other}
use Rattle.layout.specs.Layout.{quadrant_at}
use Rattle.base_words.specs.Words.{sum, leaves, Word}
use Rattle.pass_sums.specs.Sums.{quadrant_of, sums_of, word_at, sum_at, put_sum, f_at}
use Rattle.layout.specs.Machine.{Reaches}

-- Four quadrants, each of 64 words.
pub record Quadrants (s : List (List ℕ)) : Type 0 where
  pub four : length s ≡ 4
  pub each : (q : ℕ) → q < 4 → length (get_or s q []) ≡ 64

-- A machine's quadrant: its length, and its words.
pub quadrant-length : (words : List ℕ) (q : ℕ) → quadrant_at q + 64 ≤ length words → length (quadrant_of words q) ≡ 64
unfolding quadrant_of
quadrant-length words q h = length-take-le 64 (drop (quadrant_at q) words) (omega (arith, length-drop (quadrant_at q) words))

pub quadrant-word : (words : List ℕ) (q i : ℕ) → i < 64 → get_or (quadrant_of words q) i 0 ≡ get_or words (quadrant_at q + i) 0
unfolding quadrant_of
quadrant-word words q i h = get_or-take 64 (drop (quadrant_at q) words) i 0 h ∙ get_or-drop (quadrant_at q) words i 0

-- A machine's sum memory: its lengths, and its quadrants.
pub sums-length : (words : List ℕ) → length (sums_of words) ≡ 4
unfolding sums_of
sums-length words = refl

pub sums-quadrant : (words : List ℕ) (q : ℕ) → q < 4 → get_or (sums_of words) q [] ≡ quadrant_of words q
unfolding sums_of
sums-quadrant words zero h = refl
sums-quadrant words (suc zero) h = refl
sums-quadrant words (suc (suc zero)) h = refl
sums-quadrant words (suc (suc (suc zero))) h = refl
sums-quadrant words (suc (suc (suc (suc q)))) h = absurd (omega arith)

pub sums-quadrants : (words : List ℕ) → Reaches words → Quadrants (sums_of words)
sums-quadrants words r = record {
  four = sums-length words;
  each = λ q h. ap length (sums-quadrant words q h) ∙ quadrant-length words q (omega (arith, r.all));
}

-- The code's four quadrants.
pub load_code : (words a b c d : List ℕ) → a ≡ take 64 (drop 3840 words) → b ≡ take 64 (drop 3904 words) → c ≡ take 64 (drop 3968 words)
    → d ≡ take 64 (drop 4032 words) → a ∷ b ∷ c ∷ d ∷ [] ≡ sums_of words
unfolding sums_of quadrant_of
load_code words a b c d ea eb ec ed = rw (ea, eb, ec, ed)

-- A word is one of 20 bits, and the code's is this word.
pub word_low : (q : List ℕ) (i : ℕ) → word_at q i < 2 ^ 20
unfolding word_at
word_low q i = mod-lt (get_or q i 0) (pow_pos 20)

pub word-code : (q : List ℕ) (i : ℕ) → Word (word_at q i) (get_or q i 0 % 1048576)
unfolding word_at
word-code q i = record { is = refl; low = mod-lt (get_or q i 0) (pow_pos 20) }

-- F is a word of generator-last or of modifier-last, and of no other quadrant.
pub f-only : (s t : List (List ℕ)) (gfm : ℕ) → get_or s 1 [] ≡ get_or t 1 [] → get_or s 3 [] ≡ get_or t 3 [] → f_at s gfm ≡ f_at t gfm
unfolding f_at
f-only s t gfm e₁ e₃ = by-top (eqb (gfm / 64) 0)
  where
    by-top : (b : Bool) → word_at (get_or s (cond b 1 3) []) (gfm % 64) ≡ word_at (get_or t (cond b 1 3) []) (gfm % 64)
    by-top true = rw e₁
    by-top false = rw e₃

-- A word of generator-this is replaced: the other quadrants are kept.
pub put-this : (s : List (List ℕ)) (i v : ℕ) → get_or (put_sum s i v) 0 [] ≡ set (get_or s 0 []) i v
unfolding put_sum
put-this [] i v = refl
put-this (q ∷ s) i v = refl

pub put_other : (s : List (List ℕ)) (i v q : ℕ) → q ≢ 0 → get_or (put_sum s i v) q [] ≡ get_or s q []
unfolding put_sum
put_other s i v q h = get_or-set_other s 0 q (set (get_or s 0 []) i v) [] h

-- All lengths are kept.
pub put-length : (s : List (List ℕ)) (i v : ℕ) → length (put_sum s i v) ≡ length s
unfolding put_sum
put-length s i v = length-set s 0 (set (get_or s 0 []) i v)

pub put-quadrant-length : (s : List (List ℕ)) (i v q : ℕ) → length (get_or (put_sum s i v) q []) ≡ length (get_or s q [])
put-quadrant-length s i v zero = ap length (put-this s i v) ∙ length-set (get_or s 0 []) i v
put-quadrant-length s i v (suc q) = ap length (put_other s i v (suc q) (λ e. omega arith))

pub put-quadrants : (s : List (List ℕ)) (i v : ℕ) → Quadrants s → Quadrants (put_sum s i v)
put-quadrants s i v k = record {
  four = put-length s i v ∙ k.four;
  each = λ q h. put-quadrant-length s i v q ∙ k.each q h;
}

-- The code's store, of a value r at the place i, and of a sum.
pub put-code : (s : List (List ℕ)) (g v : ℕ) {i r : ℕ} → i ≡ g → r ≡ v → set s 0 (set (get_or s 0 []) i r) ≡ put_sum s g v
unfolding put_sum
put-code s g v ei er = rw (ei, er)

pub add-code : (s : List (List ℕ)) (g p : ℕ) {i w r : ℕ} → i ≡ g → w ≡ word_at (get_or s 0 []) i → r ≡ sum 20 w p
    → set s 0 (set (get_or s 0 []) i r) ≡ put_sum s g (sum 20 (sum_at s g) p)
unfolding sum_at
add-code s g p ei ew er = put-code s g (sum 20 (sum_at s g) p) ei (er ∙ rw (ew, ei))

-- Whether that sum leaves its range.
pub leaves-code : (s : List (List ℕ)) (g p : ℕ) {i w : ℕ} {r : Bool} → i ≡ g → w ≡ word_at (get_or s 0 []) i → r ≡ leaves 20 w p → r ≡ leaves 20 (sum_at s g) p
unfolding sum_at
leaves-code s g p ei ew er = er ∙ rw (ew, ei)
