-- What is claimed of a bench file that is rung by an order.
-- Assumes nothing.
use Rattle.std.specs.Prelude.{ℕ, ◌<◌, true, List, [], ◌≡◌, length, get_or}
use Rattle.layout.specs.Machine.{ticks_of}
use Rattle.base_sequences.specs.Sequences.{by_number}
use Rattle.compare_agreement.specs.Agreement.{Agree}
use Rattle.equal_any_order.specs.EveryOrder.{Passes}
use Rattle.equal_ringings.specs.Ringings.{NoneWaits}
use Rattle.file_order.specs.OrderFile.{is_order_file, order_of}
use Rattle.file_bench.specs.BenchFile.{file_of, text_of}
use Rattle.ring_order.specs.RungOrder.{ordering_by, order_refusal}
use Rattle.ring_order.specs.declared.By.{By}
use Rattle.ring_order.specs.declared.By.TheVariants.{Number, File}
use Rattle.ring_steps.specs.Ringing.{heard_by, output_of}
use Rattle.ring_wave.specs.Wave.{wave_output_of}

pub record RungClaims : Type 0 where
  -- Of a file without commands, with no generator below T in 1001 or 1101, two orders that pass 5 and 6 and agree on the four points, each used throughout,
  -- give the same printed lines and the same sound, byte for byte: by number, by pitch or by order files, in either text.
  pub rung-alike : (by₁ by₂ : By) (f₁ f₂ file : List ℕ) → let text = text_of (file_of file).title in
      let m = (file_of file).machine in
      let o₁ = ordering_by by₁ f₁ m (ticks_of m) in
      let o₂ = ordering_by by₂ f₂ m (ticks_of m) in
      (file_of file).commands ≡ [] → NoneWaits text m → order_refusal by₁ f₁ ≡ 0 → order_refusal by₂ f₂ ≡ 0 → Passes m o₁ → Passes m o₂ → Agree text m o₁ o₂
      → (output_of by₁ f₁ file ≡ output_of by₂ f₂ file) × (wave_output_of by₁ f₁ file ≡ wave_output_of by₂ f₂ file)
  -- By number is by the order file that lists 0 to T-1, as long as no command changes T: every machine that is heard by number has the file's.
  pub by-number-listed : (f order_file file : List ℕ) → let m = (file_of file).machine in
      let ms = (heard_by Number f (file_of file)).machines in
      is_order_file order_file ≡ true → order_of order_file ≡ by_number (ticks_of m) → ((k : ℕ) → k < length ms → ticks_of (get_or ms k []) ≡ ticks_of m)
      → (output_of Number f file ≡ output_of File order_file file) × (wave_output_of Number f file ≡ wave_output_of File order_file file)
