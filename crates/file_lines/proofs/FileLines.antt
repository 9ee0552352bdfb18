-- The lines of a file one after another, and a file that ends in LF.
-- Assumes nothing.
use mathlib.Core.Path.{◌≡◌, refl, ap, sym, ◌∙◌}
use mathlib.Core.List.{List, [], ◌∷◌}
use mathlib.Core.Bool.{Bool, true, false, ◌&&◌}
use Prim.Native.Nat.{ℕ, suc, ◌+◌, ◌-◌, ◌≤◌, ◌<◌}
use Prim.Native.Char.{code}
use borrow.Author.Tests.{le-leb, lt-leb, lt-ltb, le-ltb, eqb-true, leb-true, ltb-true}
use native.Mathlib.Omega.{arith}
use native.Mathlib.Numerals.{add-one}
use lib.Dec.{eqb, leb, ltb}
use lib.ListN.{length, get_or, take, drop, length-drop, drop_of_length-le}
use lib.Seq.{drop-drop}
use Rattle.base_lists.proofs.Below.{and_first, and_second}
use Rattle.file_bytes.specs.Bytes.{bytes_before}
use Rattle.file_bytes.proofs.Searches.{before-within, rest_of}
use Rattle.file_lines.specs.Lines.{file_bytes, lines_of, prepended, ended}

-- A file of at most 65,536 bytes that ends in LF.
pub record Ended (file : List ℕ) : Type 0 where
  pub short : length file ≤ file_bytes
  pub some : 0 < length file
  pub last : get_or file (length file - 1) 0 ≡ code "\n"

pub ended_is : (file : List ℕ) → ended file ≡ true → Ended file
unfolding ended
ended_is file e =
    let size = leb (length file) file_bytes && ltb 0 (length file) in
    let s = and_first size (eqb (get_or file (length file - 1) 0) (code "\n")) e in
    record {
      short = leb-true (length file) file_bytes (and_first (leb (length file) file_bytes) (ltb 0 (length file)) s);
      some = ltb-true 0 (length file) (and_second (leb (length file) file_bytes) (ltb 0 (length file)) s);
      last = eqb-true (get_or file (length file - 1) 0) (code "\n") (and_second size (eqb (get_or file (length file - 1) 0) (code "\n")) e);
    }

-- How the code asks it.
pub ended-long : (file : List ℕ) → file_bytes < length file → false ≡ ended file
unfolding ended
ended-long file h = rw (lt-leb (length file) file_bytes h)

pub ended-empty : (file : List ℕ) → length file ≤ file_bytes → length file ≡ 0 → false ≡ ended file
unfolding ended
ended-empty file h e = let z : length file ≤ 0 = omega arith in rw (le-leb (length file) file_bytes h, le-ltb 0 (length file) z)

pub ended_by : (file : List ℕ) → length file ≤ file_bytes → (length file ≡ 0 → ⊥) → eqb (get_or file (length file - 1) 0) (code "\n") ≡ ended file
unfolding ended
ended_by file h n = let z : 0 < length file = omega arith in rw (le-leb (length file) file_bytes h, lt-ltb 0 (length file) z)

-- The first line of a file.
lines-first : (l : List ℕ) → bytes_before (code "\n") l < length l → lines_of l ≡ take (bytes_before (code "\n") l) l ∷ lines_of (drop (bytes_before (code "\n") l + 1) l)
unfolding lines_of prepended bytes_before
lines-first [] h = absurd (omega arith)
lines-first (c ∷ l) h = by (eqb c (code "\n")) refl h (lines-first l)
  where
    by : (b : Bool) → eqb c (code "\n") ≡ b → bytes_before (code "\n") (c ∷ l) < length (c ∷ l) →
        (bytes_before (code "\n") l < length l → lines_of l ≡ take (bytes_before (code "\n") l) l ∷ lines_of (drop (bytes_before (code "\n") l + 1) l)) →
        lines_of (c ∷ l) ≡ take (bytes_before (code "\n") (c ∷ l)) (c ∷ l) ∷ lines_of (drop (bytes_before (code "\n") (c ∷ l) + 1) (c ∷ l))
    by true e g f = rw e
    by false e g f = let p : bytes_before (code "\n") l < length l = (let q = rw e at g in omega arith) in rw (e, f p) (simp add-one)

-- Nothing is left; what is left has no LF; the first LF is cut off.
pub no-lines : (l : List ℕ) → length l ≡ 0 → lines_of l ≡ []
unfolding lines_of
no-lines [] h = refl
no-lines (b ∷ l) h = absurd (omega arith)

one-line : (l : List ℕ) → (length l ≡ 0 → ⊥) → length l ≤ bytes_before (code "\n") l → lines_of l ≡ l ∷ []
unfolding lines_of prepended bytes_before
one-line [] s h = absurd (s refl)
one-line (b ∷ l) s h = by (eqb b (code "\n")) refl h (one-line l)
  where
    rest : (k : List ℕ) → l ≡ k → ((length l ≡ 0 → ⊥) → length l ≤ bytes_before (code "\n") l → lines_of l ≡ l ∷ []) → length l ≤ bytes_before (code "\n") l → prepended b (lines_of l) ≡ (b ∷ l) ∷ []
    rest [] e f h = rw e
    rest (c ∷ k) e f h = rw (f (λ z. absurd (omega (arith, z, ap length e))) h)

    by : (t : Bool) → eqb b (code "\n") ≡ t → length (b ∷ l) ≤ bytes_before (code "\n") (b ∷ l)
        → ((length l ≡ 0 → ⊥) → length l ≤ bytes_before (code "\n") l → lines_of l ≡ l ∷ []) → lines_of (b ∷ l) ≡ (b ∷ l) ∷ []
    by true e g f = let q : suc (length l) ≤ 0 = rw e at g in absurd (omega arith)
    by false e g f = rw e (rest l refl f (let q : suc (length l) ≤ suc (bytes_before (code "\n") l) = rw e at g in omega arith))

pub last-line : (l : List ℕ) → (length l ≡ 0 → ⊥) → length l ≤ bytes_before (code "\n") l → lines_of l ≡ l ∷ lines_of (take (length l - length l) (drop (length l) l))
last-line l some h =
    let k : length l ≤ length l = omega arith in
    let z : take (length l - length l) (drop (length l) l) ≡ [] = rest_of l (length l) ∙ drop_of_length-le l k in
    one-line l some h ∙ ap (λ (r : List (List ℕ)). l ∷ r) (sym (no-lines (take (length l - length l) (drop (length l) l)) (ap length z)))

pub cut-line : (l : List ℕ) {k : ℕ} → k ≡ bytes_before (code "\n") l → k < length l → lines_of l ≡ take k l ∷ lines_of (take (length l - (k + 1)) (drop (k + 1) l))
cut-line l {k} e h = rw (rest_of l (k + 1), e) (lines-first l (rw (← e) h))

-- The line at a place of a file: it ends before the file does, and the lines after it stand behind its LF.
module _ (file : List ℕ) (end : Ended file) (at : ℕ) (h : at < length file) {k : ℕ} (e : k ≡ bytes_before (code "\n") (drop at file)) where
  pub within : k < length file - at
  within = rw e (before-within (code "\n") file at h end.last)

  pub lines_next : lines_of (drop at file) ≡ take k (drop at file) ∷ lines_of (drop (at + k + 1) file)
  lines_next =
      let w = within in
      let p : bytes_before (code "\n") (drop at file) < length (drop at file) = rw length-drop (omega arith) in
      let q : at + (k + 1) ≡ at + k + 1 = omega arith in
      lines-first (drop at file) p ∙ rw (← e, drop-drop, q)

-- A file that is ended is short, and each of its lines ends before it does.
pub ended-short : (file : List ℕ) → ended file ≡ true → length file ≤ file_bytes
ended-short file e = (ended_is file e).short

pub line-within : (file : List ℕ) → ended file ≡ true → (at : ℕ) → at < length file → {rest : List ℕ} → rest ≡ drop at file → {k : ℕ} → k ≡ bytes_before (code "\n") rest → k < length file - at
line-within file e at h r b = within file (ended_is file e) at h (b ∙ ap (bytes_before (code "\n")) r)

-- Past the last line there is none.
pub lines_end : (file : List ℕ) (at : ℕ) → length file ≤ at → lines_of (drop at file) ≡ []
unfolding lines_of
lines_end file at h = rw (drop_of_length-le file h)
