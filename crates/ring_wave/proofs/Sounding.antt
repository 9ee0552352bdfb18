-- The header and the frames that are gathered behind it are the file of what is heard.
-- Assumes nothing.
use mathlib.Core.Path.{◌≡◌, refl, sym, ◌∙◌, ap}
use mathlib.Core.Logic.{◌≢◌}
use mathlib.Core.Bool.{Bool, true, false, cond}
use mathlib.Core.List.{List, [], ◌++◌}
use Prim.Native.Nat.{ℕ, zero, suc, ◌+◌, ◌*◌, ◌-◌, ◌^◌, ◌≤◌, ◌<◌}
use native.Mathlib.Omega.{arith}
use native.Mathlib.Nat.{div-lt_iff_lt-mul}
use borrow.Author.Tests.{eqb-false, eq-eqb, ne_eqb}
use lib.Dec.{eqb}
use lib.ListN.{length, take, drop, length-append, length-drop}
use lib.Seq.{sets, length-sets, length-take-le}
use Rattle.layout.specs.Machine.{Machine, Memory, Commands}
use Rattle.layout_texts.specs.declared.Text.{Text}
use Rattle.pass_model.specs.Pass.{Outcome as Passed}
use Rattle.command_update.specs.Update.{UpdateOutcome}
use Rattle.ring_pass.specs.BenchPass.{Ordering, passed}
use Rattle.pass_sums.proofs.Blocks.{part-back}
use Rattle.file_bytes.proofs.Puts.{Put, then, first_part}
use Rattle.file_printed.specs.Text.{line_bytes}
use Rattle.file_lines.specs.Lines.{most_passes}
use Rattle.file_wave.specs.WaveFormat.{frame_bytes, rate_of, header, header_bytes}
use Rattle.file_wave.proofs.Numbers.{header-length}
use Rattle.ring_steps.specs.Heard.{update_after, Heard, heard_after, heard_refused, heard, frame_after, frames_of}
use Rattle.ring_steps.specs.AsCoded.{Ringing, Step}
use Rattle.ring_steps.specs.declared.Output.TheVariants.{Frames}
use Rattle.ring_steps.proofs.Turns.{frame-after-length}
use Rattle.ring_steps.proofs.Printing.{frames-given, heard-number}
use Rattle.ring_gathering.specs.AsCoded.{gathered}
use Rattle.ring_gathering.proofs.Gatherings.{frames-whole, frames-number}
use Rattle.ring_wave.specs.Wave.{wave_file, wave_room}

-- The rate fits its four bytes, and six times the rate too.
pub rate-below : (n : ℕ) → 1 ≤ n → rate_of n < 2 ^ 24
unfolding rate_of
rate-below n h = (div-lt_iff_lt-mul {k = 390 * n} (omega arith)).1 (omega arith)

-- A ringing that no question ends has a frame for each pass.
frames-count : (text : Text) (by : Ordering) (k : ℕ) (m : Machine) (memory : Memory) (commands : Commands) → (heard text by k m memory commands).number ≡ 0
    → length (frames_of (heard text by k m memory commands).machines) ≡ frame_bytes * k
unfolding heard frames_of
frames-count text by zero m memory commands z = refl
frames-count text by (suc k) m memory commands z =
    go (eqb p.number 0) refl (eqb u.number 0) refl (frames-count text by k u.machine p.memory u.rest) z
  where
    p : Passed
    p = passed text by m memory

    u : UpdateOutcome
    u = update_after text p.machine commands

    rest : Heard
    rest = heard text by k u.machine p.memory u.rest

    all : Bool → Bool → Heard
    all a b = cond a (cond b (heard_after u.machine rest) (heard_refused u.number)) (heard_refused p.number)

    go : (a : Bool) → eqb p.number 0 ≡ a → (b : Bool) → eqb u.number 0 ≡ b → (rest.number ≡ 0 → length (frames_of rest.machines) ≡ 6 * k) → (all a b).number ≡ 0
        → length (frames_of (all a b).machines) ≡ 6 * suc k
    go true e true f q y = omega (arith, q y, length-append (frame_after u.machine) (frames_of rest.machines), frame-after-length u.machine)
    go true e false f q y = absurd (eqb-false u.number 0 f y)
    go false e b f q y = absurd (eqb-false p.number 0 e y)

-- A refusal makes no sound; what is heard to its end is the header and the frames.
pub silent : (n : ℕ) (h : Heard) → h.number ≢ 0 → wave_file n h ≡ []
unfolding wave_file
silent n h e = rw (ne_eqb h.number 0 e)

whole : (n : ℕ) (h : Heard) → h.number ≡ 0 → wave_file n h ≡ header (rate_of n) (length (frames_of h.machines)) ++ frames_of h.machines
unfolding wave_file
whole n h e = rw (eq-eqb h.number 0 e)

module _ (text : Text) (by : Ordering) (n passes : ℕ) (m memory commands : List ℕ) (few : passes ≤ most_passes) (room : ℕ) (wide : wave_room - header_bytes ≤ room) where
  abbrev ringing : Ringing
  ringing = record { passes = passes; machine = m; memory = memory; commands = commands; number = 0 }

  abbrev rung : Heard
  rung = heard text by passes m memory commands

  fits : 6 * passes + line_bytes ≤ room
  fits = omega arith

  frames-are : (gathered text by Frames room ringing).bytes ≡ frames_of rung.machines
  frames-are = frames-whole text by room ringing fits ∙ frames-given rung

  ends_with : (gathered text by Frames room ringing).next.number ≡ rung.number
  ends_with = frames-number text by room ringing fits ∙ heard-number text by ringing refl

  -- What was made: the number, the file's length, and the file as the first part of a buffer.
  abbrev pub Made : ℕ → ℕ → List ℕ → Type 0
  Made number size out = (number ≡ rung.number) × ((size ≡ length (wave_file n rung)) × (take size out ≡ wave_file n rung))

  pub made-refused : {number : ℕ} (out : List ℕ) → number ≡ (gathered text by Frames room ringing).next.number → number ≢ 0 → Made number 0 out
  made-refused out e h =
      let w = silent n rung (λ z. h (e ∙ ends_with ∙ z)) in
      (e ∙ ends_with, (ap length (sym w), sym w))

  pub made-whole : {number size : ℕ} (out : List ℕ) {headed out' : List ℕ} → length out ≡ wave_room
      → headed ≡ sets out 0 (header (rate_of n) (frame_bytes * passes))
      → size ≡ length (gathered text by Frames room ringing).bytes
      → out' ≡ sets headed header_bytes (gathered text by Frames room ringing).bytes
      → number ≡ (gathered text by Frames room ringing).next.number → number ≡ 0 → Made 0 (header_bytes + size) out'
  made-whole {number} {size} out {headed} {out'} long eh es eo en z =
      let done : rung.number ≡ 0 = sym (en ∙ ends_with) ∙ z in
      let count : length (frames_of rung.machines) ≡ frame_bytes * passes = frames-count text by passes m memory commands done in
      let frames = frames_of rung.machines in
      let head = header (rate_of n) (frame_bytes * passes) in
      let file : wave_file n rung ≡ head ++ frames = whole n rung done ∙ ap (λ (i : ℕ). header (rate_of n) i ++ frames) count in
      let p : Put out 0 head header_bytes headed = record { ends = omega (arith, header-length (rate_of n) (frame_bytes * passes)); leaves = eh } in
      let q : Put headed header_bytes frames (header_bytes + length frames) out' =
      record { ends = refl; leaves = eo ∙ ap (λ (l : List ℕ). sets headed header_bytes l) frames-are } in
      let both = then out 0 head frames p q in
      let total : length (head ++ frames) ≡ header_bytes + size =
      omega (arith, length-append head frames, header-length (rate_of n) (frame_bytes * passes), es, ap length frames-are) in
      let short : length (head ++ frames) ≤ length out = omega (arith, total, es, ap length frames-are, count, few, long) in (
        sym done,
        (
          sym (ap length file ∙ total),
          ap (λ (i : ℕ). take i out') (sym total) ∙ ap (take (length (head ++ frames))) both.leaves ∙ first_part (head ++ frames) out short ∙ sym file,
        ),
      )

-- The header leaves the length of its buffer.
pub headed-long : (out : List ℕ) {headed : List ℕ} (rate bytes : ℕ) → headed ≡ sets out 0 (header rate bytes) → length headed ≡ length out
headed-long out rate bytes e = ap length e ∙ length-sets out 0 (header rate bytes)

-- What is gathered in the part behind the header is in the whole buffer behind it.
pub behind-header : (text : Text) (by : Ordering) (out : List ℕ) (r : Ringing) {size : ℕ} {part : List ℕ} {next : Ringing} → header_bytes ≤ length out
    → let lent = take (length out - header_bytes) (drop header_bytes out) in
    size ≡ length (gathered text by Frames (length lent) r).bytes → part ≡ sets lent 0 (gathered text by Frames (length lent) r).bytes → next ≡ (gathered text by Frames (length lent) r).next
    → (size ≡ length (gathered text by Frames (length out - header_bytes) r).bytes)
    × ((take header_bytes out ++ (part ++ drop (length out - header_bytes) (drop header_bytes out)) ≡ sets out header_bytes (gathered text by Frames (length out - header_bytes) r).bytes)
    × (next.number ≡ (gathered text by Frames (length out - header_bytes) r).next.number))
behind-header text by out r {size} {part} {next} h es ep en =
    let lent = take (length out - header_bytes) (drop header_bytes out) in
    let k : length lent ≡ length out - header_bytes =
    length-take-le (length out - header_bytes) (drop header_bytes out) (omega (arith, length-drop header_bytes out)) in
    let bytes-are : gathered text by Frames (length lent) r ≡ gathered text by Frames (length out - header_bytes) r = ap (λ (i : ℕ). gathered text by Frames i r) k in (
      es ∙ ap (λ (s : Step). length s.bytes) bytes-are,
      (
        ap (λ (l : List ℕ). take header_bytes out ++ (l ++ drop (length out - header_bytes) (drop header_bytes out))) (ep ∙ ap (λ (s : Step). sets lent 0 s.bytes) bytes-are)
            ∙ part-back out (gathered text by Frames (length out - header_bytes) r).bytes header_bytes h,
        ap (λ (x : Ringing). x.number) en ∙ ap (λ (s : Step). s.next.number) bytes-are,
      ),
    )
