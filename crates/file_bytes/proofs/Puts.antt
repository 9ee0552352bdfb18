-- One text put after another is both put as one.
-- Assumes nothing.
use mathlib.Core.Path.{◌≡◌, ap, ◌∙◌}
use mathlib.Core.List.{List, [], ◌∷◌, ◌++◌}
use Prim.Native.Nat.{ℕ, suc, ◌+◌, ◌≤◌, ◌<◌}
use native.Mathlib.Omega.{arith}
use native.Mathlib.Nat.{add-zero}
use lib.ListN.{length, get_or, take, drop, set, length-append}
use lib.Seq.{sets, sets-eq, drop-cons, take-append_seam}

-- The text a, put from a place of a buffer d on, leaves the buffer e and ends before the place i.
pub record Put (d : List ℕ) (at : ℕ) (a : List ℕ) (i : ℕ) (e : List ℕ) : Type 0 where
  pub ends : i ≡ at + length a
  pub leaves : e ≡ sets d at a

pub done : {d : List ℕ} {at : ℕ} {a : List ℕ} {i : ℕ} {e : List ℕ} → (i ≡ at + length a) × (e ≡ sets d at a) → Put d at a i e
done p = record { ends = p.0; leaves = p.1 }

pub sets-append : (d : List ℕ) (at : ℕ) (a b : List ℕ) → sets (sets d at a) (at + length a) b ≡ sets d at (a ++ b)
sets-append d at [] b = rw add-zero
sets-append d at (x ∷ a) b =
    let e : at + suc (length a) ≡ suc at + length a = omega arith in
    ap (λ (i : ℕ). sets (sets (set d at x) (suc at) a) i b) e ∙ sets-append (set d at x) (suc at) a b

-- One text after another.
pub then : (d : List ℕ) (at : ℕ) (a b : List ℕ) {i : ℕ} {e : List ℕ} {j : ℕ} {f : List ℕ} → Put d at a i e → Put e i b j f → Put d at (a ++ b) j f
then d at a b p q =
    record { ends = omega (arith, p.ends, q.ends, length-append a b); leaves = q.leaves ∙ rw (p.ends, p.leaves) (sets-append d at a b) }

-- One more byte of a text at its place.
pub sets-next : (d : List ℕ) (at : ℕ) (bytes : List ℕ) (i : ℕ) → i < length bytes →
    sets d (at + i) (drop i bytes) ≡ sets (set d (at + i) (get_or bytes i 0)) (at + (i + 1)) (drop (i + 1) bytes)
sets-next d at bytes i h =
    let e : at + (i + 1) ≡ suc (at + i) = omega arith in
    let f : i + 1 ≡ suc i = omega arith in
    rw (e, f, drop-cons bytes i 0 h)

-- What was put at the start of a buffer is its first part.
pub first_part : (bytes out : List ℕ) → length bytes ≤ length out → take (length bytes) (sets out 0 bytes) ≡ bytes
first_part bytes out h =
    let n : 0 + length bytes ≤ length out = omega arith in
    ap (take (length bytes)) (sets-eq bytes out 0 n) ∙ take-append_seam bytes (drop (0 + length bytes) out)
