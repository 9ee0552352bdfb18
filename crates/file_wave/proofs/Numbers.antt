-- The bytes of a number, of a frame and of the header: how many there are, and as the code puts them one after another.
-- Assumes nothing.
use mathlib.Core.Path.{◌≡◌, refl, sym, ap, ◌∙◌}
use mathlib.Core.List.{List, ◌++◌}
use Prim.Native.Nat.{ℕ, zero, suc, ◌+◌, ◌*◌, ◌-◌, ◌/◌, ◌%◌, ◌^◌}
use native.Mathlib.Omega.{arith}
use native.Mathlib.Nat.{zero-add}
use lib.ListN.{length, set, length-append}
use lib.Seq.{sets}
use Rattle.file_bytes.specs.Bytes.{ascii}
use Rattle.file_bytes.proofs.Puts.{Put, then}
use Rattle.file_wave.specs.WaveFormat.{little_endian, sample, frame, frame_bytes, riff, format_kind, format_rates, data_head, header, header_bytes}

pub number-length : (k x : ℕ) → length (little_endian k x) ≡ k
unfolding little_endian
number-length zero x = refl
number-length (suc k) x = ap suc (number-length k (x / 2 ^ 8))

-- The bytes of a number as the code puts them: none, or one and those of the rest.
module _ (d : List ℕ) (at k x : ℕ) where
  pub put-none : k ≡ 0 → (at ≡ at + k) × (d ≡ sets d at (little_endian k x))
  unfolding little_endian
  put-none e = rw e (omega arith, refl)

  pub put_one : (k ≡ 0 → ⊥) → {i : ℕ} {e : List ℕ}
      → (i ≡ at + 1 + (k - 1)) × (e ≡ sets (set d at (x % 256)) (at + 1) (little_endian (k - 1) (x / 256)))
      → (i ≡ at + k) × (e ≡ sets d at (little_endian k x))
  unfolding little_endian
  put_one h {i} {e} (ei, ee) =
      let some : k ≡ suc (k - 1) = omega arith in
      let next : at + 1 ≡ suc at = omega arith in (
        omega (arith, ei),
        ee ∙ ap (λ (j : ℕ). sets (set d at (x % 256)) j (little_endian (k - 1) (x / 256))) next ∙ ap (λ (j : ℕ). sets d at (little_endian j x)) (sym some),
      )

-- A number that was put is its bytes put.
pub number_put : {d : List ℕ} {at : ℕ} (k x : ℕ) {i : ℕ} {e : List ℕ} → (i ≡ at + k) × (e ≡ sets d at (little_endian k x)) → Put d at (little_endian k x) i e
number_put {d} {at} k x (ei, ee) = record { ends = omega (arith, ei, number-length k x); leaves = ee }

pub sample-length : (w : ℕ) → length (sample w) ≡ 3
unfolding sample
sample-length w = number-length 3 (16 * w)

pub frame-length : (left right : ℕ) → length (frame left right) ≡ frame_bytes
unfolding frame
frame-length left right = omega (arith, length-append (sample left) (sample right), sample-length left, sample-length right)

pub riff-length : (bytes : ℕ) → length (riff bytes) ≡ 12
unfolding riff
riff-length bytes = simp length-append (omega (arith, number-length 4 (36 + bytes)))

pub kind-length : length format_kind ≡ 12
unfolding format_kind
kind-length = simp length-append (omega (arith, number-length 4 16, number-length 2 1, number-length 2 2))

pub rates-length : (rate : ℕ) → length (format_rates rate) ≡ 12
unfolding format_rates
rates-length rate = simp length-append (omega (arith, number-length 4 rate, number-length 4 (6 * rate), number-length 2 6, number-length 2 24))

pub data-length : (bytes : ℕ) → length (data_head bytes) ≡ 8
unfolding data_head
data-length bytes = simp length-append (omega (arith, number-length 4 bytes))

pub header-length : (rate bytes : ℕ) → length (header rate bytes) ≡ header_bytes
unfolding header
header-length rate bytes = simp length-append (omega (arith, riff-length bytes, kind-length, rates-length rate, data-length bytes))

-- The texts of a frame and of the header as the code puts them, one after another.
pub put-frame : (d : List ℕ) (left right : ℕ) {i₁ i₂ : ℕ} {d₁ d₂ : List ℕ} → Put d 0 (little_endian 3 (16 * left)) i₁ d₁ → Put d₁ i₁ (little_endian 3 (16 * right)) i₂ d₂
    → (i₂ ≡ length (frame left right)) × (d₂ ≡ sets d 0 (frame left right))
unfolding frame sample
put-frame d left right p₁ p₂ = let q = then d 0 (little_endian 3 (16 * left)) (little_endian 3 (16 * right)) p₁ p₂ in (q.ends ∙ zero-add _, q.leaves)

pub put-riff : (d : List ℕ) (bytes : ℕ) {i₁ i₂ i₃ : ℕ} {d₁ d₂ d₃ : List ℕ}
    → Put d 0 (ascii "RIFF") i₁ d₁ → Put d₁ i₁ (little_endian 4 (36 + bytes)) i₂ d₂ → Put d₂ i₂ (ascii "WAVE") i₃ d₃ → d₃ ≡ sets d 0 (riff bytes)
unfolding riff
put-riff d bytes p₁ p₂ p₃ =
    (then d 0 (ascii "RIFF") (little_endian 4 (36 + bytes) ++ ascii "WAVE") p₁ (then _ _ (little_endian 4 (36 + bytes)) (ascii "WAVE") p₂ p₃)).leaves

-- Four texts, one after another.
four : (d : List ℕ) (at : ℕ) (t₁ t₂ t₃ t₄ : List ℕ) {i₁ i₂ i₃ i₄ : ℕ} {d₁ d₂ d₃ d₄ : List ℕ}
    → Put d at t₁ i₁ d₁ → Put d₁ i₁ t₂ i₂ d₂ → Put d₂ i₂ t₃ i₃ d₃ → Put d₃ i₃ t₄ i₄ d₄ → d₄ ≡ sets d at (t₁ ++ (t₂ ++ (t₃ ++ t₄)))
four d at t₁ t₂ t₃ t₄ p₁ p₂ p₃ p₄ = (then d at t₁ (t₂ ++ (t₃ ++ t₄)) p₁ (then _ _ t₂ (t₃ ++ t₄) p₂ (then _ _ t₃ t₄ p₃ p₄))).leaves

pub put-kind : (d : List ℕ) (at : ℕ) {i₁ i₂ i₃ i₄ : ℕ} {d₁ d₂ d₃ d₄ : List ℕ}
    → Put d at (ascii "fmt ") i₁ d₁ → Put d₁ i₁ (little_endian 4 16) i₂ d₂ → Put d₂ i₂ (little_endian 2 1) i₃ d₃ → Put d₃ i₃ (little_endian 2 2) i₄ d₄ → d₄ ≡ sets d at format_kind
unfolding format_kind
put-kind d at p₁ p₂ p₃ p₄ = four d at (ascii "fmt ") (little_endian 4 16) (little_endian 2 1) (little_endian 2 2) p₁ p₂ p₃ p₄

pub put-rates : (d : List ℕ) (at rate : ℕ) {i₁ i₂ i₃ i₄ : ℕ} {d₁ d₂ d₃ d₄ : List ℕ}
    → Put d at (little_endian 4 rate) i₁ d₁ → Put d₁ i₁ (little_endian 4 (6 * rate)) i₂ d₂ → Put d₂ i₂ (little_endian 2 6) i₃ d₃ → Put d₃ i₃ (little_endian 2 24) i₄ d₄
    → d₄ ≡ sets d at (format_rates rate)
unfolding format_rates
put-rates d at rate p₁ p₂ p₃ p₄ = four d at (little_endian 4 rate) (little_endian 4 (6 * rate)) (little_endian 2 6) (little_endian 2 24) p₁ p₂ p₃ p₄

pub put-data-head : (d : List ℕ) (at bytes : ℕ) {i₁ i₂ : ℕ} {d₁ d₂ : List ℕ} → Put d at (ascii "data") i₁ d₁ → Put d₁ i₁ (little_endian 4 bytes) i₂ d₂ → d₂ ≡ sets d at (data_head bytes)
unfolding data_head
put-data-head d at bytes p₁ p₂ = (then d at (ascii "data") (little_endian 4 bytes) p₁ p₂).leaves

pub put-header : (d : List ℕ) (rate bytes : ℕ) {d₁ d₂ d₃ d₄ : List ℕ}
    → d₁ ≡ sets d 0 (riff bytes) → d₂ ≡ sets d₁ 12 format_kind → d₃ ≡ sets d₂ 24 (format_rates rate) → d₄ ≡ sets d₃ 36 (data_head bytes) → d₄ ≡ sets d 0 (header rate bytes)
unfolding header
put-header d rate bytes {d₁} {d₂} {d₃} {d₄} e₁ e₂ e₃ e₄ =
    let p₁ : Put d 0 (riff bytes) 12 d₁ = record { ends = omega (arith, riff-length bytes); leaves = e₁ } in
    let p₂ : Put d₁ 12 format_kind 24 d₂ = record { ends = omega (arith, kind-length); leaves = e₂ } in
    let p₃ : Put d₂ 24 (format_rates rate) 36 d₃ = record { ends = omega (arith, rates-length rate); leaves = e₃ } in
    let p₄ : Put d₃ 36 (data_head bytes) 44 d₄ = record { ends = omega (arith, data-length bytes); leaves = e₄ } in
    four d 0 (riff bytes) format_kind (format_rates rate) (data_head bytes) p₁ p₂ p₃ p₄
