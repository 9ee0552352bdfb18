-- A RIFF/WAVE file of two channels of 24-bit PCM (format tag 1): its header and its frames.
-- Assumes nothing.
use Rattle.std.specs.Prelude.{ℕ, zero, suc, ◌+◌, ◌*◌, ◌/◌, ◌%◌, ◌^◌, List, [], ◌∷◌, ◌++◌}
use Rattle.file_bytes.specs.Bytes.{ascii}

-- The low k bytes of a number, the lowest first.
unfoldable pub little_endian : ℕ → ℕ → List ℕ
little_endian zero x = []
little_endian (suc k) x = x % 2 ^ 8 ∷ little_endian k (x / 2 ^ 8)

-- A sample: a word of 20 bits, times 16 in 24 bits. Both in two's complement.
unfoldable pub sample : ℕ → List ℕ
sample w = little_endian 3 (16 * w)

-- A frame: the samples of the left and the right channel. It has six bytes.
unfoldable pub frame : ℕ → ℕ → List ℕ
frame left right = sample left ++ sample right

abbrev pub frame_bytes : ℕ
frame_bytes = 6

-- How long a tick lasts, and a second, in nanoseconds.
abbrev pub tick : ℕ
tick = 195

abbrev pub second : ℕ
second = 10 ^ 9

-- The rate of passes of n ticks each: the nearest whole number of passes a second. (second / (tick * n) is never half-way, since 3 divides tick and not twice a second.)
unfoldable pub rate_of : ℕ → ℕ
rate_of n = (2 * second + tick * n) / (2 * tick * n)

-- The chunk round the whole: the bytes that follow its size are 36 and those of the frames.
unfoldable pub riff : ℕ → List ℕ
riff bytes = ascii "RIFF" ++ (little_endian 4 (36 + bytes) ++ ascii "WAVE")

-- The chunk of the format has 16 bytes. Its start: PCM, two channels.
unfoldable pub format_kind : List ℕ
format_kind = ascii "fmt " ++ (little_endian 4 16 ++ (little_endian 2 1 ++ little_endian 2 2))

-- Its rest: the rate, bytes a second, bytes a frame, bits a sample.
unfoldable pub format_rates : ℕ → List ℕ
format_rates rate = little_endian 4 rate ++ (little_endian 4 (frame_bytes * rate) ++ (little_endian 2 frame_bytes ++ little_endian 2 24))

-- The head of the chunk of the frames.
unfoldable pub data_head : ℕ → List ℕ
data_head bytes = ascii "data" ++ little_endian 4 bytes

-- All before the frames, by the rate and by how many bytes the frames have. It has 44 bytes.
unfoldable pub header : ℕ → ℕ → List ℕ
header rate bytes = riff bytes ++ (format_kind ++ (format_rates rate ++ data_head bytes))

abbrev pub header_bytes : ℕ
header_bytes = 44
