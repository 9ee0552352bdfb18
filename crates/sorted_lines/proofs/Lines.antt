-- Laws of the lines: how long each may be, the texts of each put one after another, and one line of an order after another.
-- Assumes nothing.
use mathlib.Core.Path.{◌≡◌, refl, sym, ap, ◌∙◌}
use mathlib.Core.List.{List, [], ◌∷◌, ◌++◌}
use Prim.Native.Nat.{ℕ, ◌+◌, ◌*◌, ◌≤◌, ◌<◌}
use native.Mathlib.Omega.{arith}
use native.Mathlib.Nat.{zero-add}
use lib.ListN.{length, get_or, drop, drop_of_length-le, length-append}
use lib.Seq.{sets, length-sets}
use Rattle.file_bytes.proofs.Puts.{Put, then, sets-append}
use Rattle.file_bytes.proofs.Searches.{next}
use Rattle.file_printed.specs.Text.{named, newline}
use Rattle.file_printed.proofs.Lines.{named-length}
use Rattle.file_order.specs.OrderFile.{order_start}
use Rattle.parts_shown.specs.declared.Difference.{Difference}
use Rattle.parts_shown.specs.declared.Difference.TheVariants.{Word, Written}
use Rattle.sorted_lines.specs.SortedLines.{entry_line, order_lines, point_text, place_text, word_text, written_text, difference_text, failing_line, entry_bytes}

-- How long each may be.
pub entry-line-length : (g : ℕ) → length (entry_line g) ≤ entry_bytes
unfolding entry_line
entry-line-length g = simp length-append (omega (arith, named-length order_start g))

pub difference-length : (d : Difference) → length (difference_text d) ≤ 19
difference-length (Word w) = omega (arith, named-length word_text w)
difference-length (Written i) = omega (arith, named-length written_text i)

pub difference-end : (at : ℕ) (d : Difference) {i : ℕ} → i ≡ at + length (difference_text d) → i ≤ at + 19
difference-end at d e = omega (arith, e, difference-length d)

pub failing-line-length : (point place : ℕ) (d : Difference) → length (failing_line point place d) ≤ 53
unfolding failing_line
failing-line-length point place d =
    simp length-append (omega (arith, named-length point_text point, named-length place_text place, difference-length d))

pub order-lines-length : (order : List ℕ) → length (order_lines order) ≤ entry_bytes * length order
unfolding order_lines
order-lines-length [] = omega arith
order-lines-length (g ∷ order) =
    omega (arith, length-append (entry_line g) (order_lines order), entry-line-length g, order-lines-length order)

-- The texts of each, one after another.
pub put-entry : (d : List ℕ) (g : ℕ) {i₁ i₂ : ℕ} {d₁ d₂ : List ℕ} → Put d 0 (named order_start g) i₁ d₁ → Put d₁ i₁ newline i₂ d₂
    → (i₂ ≡ length (entry_line g)) × (d₂ ≡ sets d 0 (entry_line g))
unfolding entry_line
put-entry d g p₁ p₂ = let q = then d 0 (named order_start g) newline p₁ p₂ in (q.ends ∙ zero-add _, q.leaves)

pub put-failing : (d : List ℕ) (point place : ℕ) (difference : Difference) {i₁ i₂ i₃ i₄ : ℕ} {d₁ d₂ d₃ d₄ : List ℕ}
    → Put d 0 (named point_text point) i₁ d₁
    → Put d₁ i₁ (named place_text place) i₂ d₂
    → Put d₂ i₂ (difference_text difference) i₃ d₃
    → Put d₃ i₃ newline i₄ d₄
    → (i₄ ≡ length (failing_line point place difference)) × (d₄ ≡ sets d 0 (failing_line point place difference))
unfolding failing_line
put-failing d point place difference p₁ p₂ p₃ p₄ =
    let q₃ = then _ _ (difference_text difference) newline p₃ p₄ in
    let q₂ = then _ _ (named place_text place) (difference_text difference ++ newline) p₂ q₃ in
    let q₁ = then d 0 (named point_text point) (named place_text place ++ (difference_text difference ++ newline)) p₁ q₂ in
    (q₁.ends ∙ zero-add _, q₁.leaves)

-- The lines of an order's first i entries are put: those of the rest, put after them, make all.
pub record Lining (out₀ order out : List ℕ) (at i : ℕ) : Type 0 where
  pub within : i ≤ length order
  pub room : length out ≡ length out₀
  pub few : at ≤ entry_bytes * i
  pub size : at + length (order_lines (drop i order)) ≡ length (order_lines order)
  pub rest : sets out at (order_lines (drop i order)) ≡ sets out₀ 0 (order_lines order)

pub lining-starts : (out order : List ℕ) → Lining out order out 0 0
lining-starts out order = record { within = omega arith; room = refl; few = omega arith; size = zero-add _; rest = refl }

module _ (out₀ order : List ℕ) {out : List ℕ} {at i : ℕ} (l : Lining out₀ order out at i) where
  pub lining-room : entry_bytes * length order ≤ length out₀ → i < length order → at + entry_bytes ≤ length out
  lining-room h less = omega (arith, h, less, l.few, l.room)

  pub lining-goes : i < length order → {at' : ℕ} {out' : List ℕ}
      → (at' ≡ at + length (entry_line (get_or order i 0))) × (out' ≡ sets out at (entry_line (get_or order i 0))) → Lining out₀ order out' at' (i + 1)
  unfolding order_lines
  lining-goes less {at'} {out'} (ea, eo) =
      let g = get_or order i 0 in
      let later = order_lines (drop (i + 1) order) in
      let lines : order_lines (drop i order) ≡ entry_line g ++ later = ap order_lines (next order i less) in
      record {
        within = omega arith;
        room = ap length eo ∙ length-sets out at (entry_line g) ∙ l.room;
        few = omega (arith, l.few, ea, entry-line-length g);
        size = omega (arith, ea, l.size, ap length lines, length-append (entry_line g) later);
        rest = rw (ea, eo) (sets-append out at (entry_line g) later) ∙ ap (sets out at) (sym lines) ∙ l.rest;
      }

  pub lining_ends : length order ≤ i → (at ≡ length (order_lines order)) × (out ≡ sets out₀ 0 (order_lines order))
  unfolding order_lines
  lining_ends h =
      let none : order_lines (drop i order) ≡ [] = ap order_lines (drop_of_length-le order h) in
      (omega (arith, l.size, ap length none), ap (sets out at) (sym none) ∙ l.rest)
