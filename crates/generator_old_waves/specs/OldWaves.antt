-- The wave W of a generator of the older text by its oscillator mode (document 02, Q-10). K has 12 bits; square and pulse are the 1978 text's at that width.
-- Assumes nothing.
use Rattle.std.specs.Prelude.{ℕ, ◌+◌, ◌*◌, ◌%◌, Bool, cond, eqb, ℤ}
use Rattle.base_words.specs.Words.{signed}
use Rattle.generator_oscillator.specs.Oscillator.{square, pulse, sine_wave}

-- The index of the sine that the cosine of K is: 2K + 2,048 modulo 8,192. (K is read unsigned; as a signed number it gives the same: the law `index-signed`.)
abbrev pub cosine_index : ℕ → ℕ
cosine_index k = (2 * k + 2048) % 8192

-- 100 and 101: the cosine of K, the magnitude of the sine shifted right 1 + GM places, then signed. The 1 is the low bit that a sine of ours has above that text's 11.
unfoldable pub cosine : ℕ → ℕ → ℤ
cosine k gm = sine_wave (cosine_index k) (1 + gm)

-- W by the oscillator mode, of K as a word of 12 bits, GM, and whether a signed sum of the generator left its range: 001 square, 010 sawtooth, which is K, 011 pulse train, else the cosine.
-- (000, the sum of cosines, is never heard; it has the cosine as 110 and 111 have, which are not built.)
unfoldable pub old_wave : ℕ → ℕ → ℕ → Bool → ℤ
old_wave mode k gm left =
    cond (eqb mode 0b001) (square 12 (signed 12 k))
    (cond (eqb mode 0b010) (signed 12 k)
    (cond (eqb mode 0b011) (pulse 12 left)
    (cosine k gm)))
