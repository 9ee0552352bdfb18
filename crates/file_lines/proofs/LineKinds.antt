-- A line's kind, as the code finds it.
-- Assumes nothing.
use mathlib.Core.Path.{◌≡◌, refl, ap, sym, ◌∙◌}
use mathlib.Core.List.{List, [], ◌∷◌}
use mathlib.Core.Bool.{true, false}
use Prim.Native.Nat.{ℕ, ◌+◌, ◌≤◌, ◌<◌, ◌^◌}
use Prim.Native.Char.{code}
use borrow.Author.Tests.{lt-ltb, le-ltb}
use lib.Dec.{ltb}
use lib.ListN.{length, take, drop}
use Rattle.layout.specs.Layout.{file_places}
use Rattle.file_bytes.specs.Bytes.{starts_with, bytes_before}
use Rattle.base_lists.proofs.Choices.{of-cond}
use Rattle.file_numbers.specs.Numbers.{decimal_in, hexadecimal_in}
use Rattle.file_lines.specs.Lines.{most_passes, passes_start, word_start, command_start, text_start, after_start, line_by, word_line, title_of, line_of}
use Rattle.std.specs.Prelude.{Option, Some, None}
use Rattle.std.specs.Str.{bytes_eq}
use Rattle.layout_texts.specs.declared.Text.{Text}
use Rattle.file_lines.specs.declared.Line.{Line}
use Rattle.file_lines.specs.declared.Line.TheVariants.{Titled, Passes, Word, Command, Other}

-- A line by its number.
pub by_number : (f : ℕ → Line) {a b : Option ℕ} {n : ℕ} → a ≡ b → a ≡ Some n → f n ≡ line_by b f
by_number f e h = rw (sym e ∙ h)

pub by-none : (f : ℕ → Line) {a b : Option ℕ} → a ≡ b → a ≡ None → Other ≡ line_by b f
by-none f e h = rw (sym e ∙ h)

-- PLACE:VALUE, with its colon at k.
module _ (file : List ℕ) {k : ℕ} (e : k ≡ bytes_before (code ":") file) where
  pub word-no-colon : length file ≤ k → Other ≡ word_line file
  unfolding word_line
  word-no-colon h = rw (← e, le-ltb k (length file) h)

  module _ (h : k < length file) {place : Option ℕ} (p : place ≡ decimal_in file_places (take k file)) where
    pub word-no-place : place ≡ None → Other ≡ word_line file
    unfolding word_line
    word-no-place n = simp (sym e, lt-ltb k (length file) h, sym p ∙ n)

    module _ {i : ℕ} (n : place ≡ Some i) {rest : List ℕ} (r : rest ≡ drop (k + 1) file) {value : Option ℕ} (q : value ≡ decimal_in (2 ^ 32) rest) where
      pub word-no-value : value ≡ None → Other ≡ word_line file
      unfolding word_line
      word-no-value m = simp (sym e, lt-ltb k (length file) h, sym p ∙ n, sym (q ∙ ap (decimal_in (2 ^ 32)) r) ∙ m)

      pub word-is : {v : ℕ} → value ≡ Some v → Word i v ≡ word_line file
      unfolding word_line
      word-is m = simp (sym e, lt-ltb k (length file) h, sym p ∙ n, sym (q ∙ ap (decimal_in (2 ^ 32)) r) ∙ m)

-- It is a word or another line.
pub word-kind : (file : List ℕ) (P : Line → Type 0) → P Other → ((i v : ℕ) → P (Word i v)) → P (word_line file)
unfolding word_line
word-kind file P o w =
    of-cond P (ltb (bytes_before (code ":") file) (length file))
    (place (decimal_in file_places (take (bytes_before (code ":") file) file)) (decimal_in (2 ^ 32) (drop (bytes_before (code ":") file + 1) file)))
    o
  where
    value : (i : ℕ) (b : Option ℕ) → P (line_by b (λ v. Word i v))
    value i (Some v) = w i v
    value i None = o

    place : (a b : Option ℕ) → P (line_by a (λ i. line_by b (λ v. Word i v)))
    place (Some i) b = value i b
    place None b = o

-- A start that is cut off is one that the line starts with.
pub stripped : (file start : List ℕ) → bytes_eq (take (length start) file) start ≡ starts_with file start
unfolding starts_with
stripped [] [] = refl
stripped (b ∷ file) [] = refl
stripped [] (p ∷ start) = refl
stripped (b ∷ file) (p ∷ start) = rw (stripped file start)

-- A line by its start.
module _ (file : List ℕ) where
  pub line-passes : starts_with file passes_start ≡ true → {rest : List ℕ} → rest ≡ after_start passes_start file → {l : Line} → l ≡ line_by (decimal_in (most_passes + 1) rest) (λ n. Passes n) → l ≡ line_of file
  unfolding line_of
  line-passes t r q = rw (t, ← r) q

  module _ (f : starts_with file passes_start ≡ false) where
    pub line_word : starts_with file word_start ≡ true → {rest : List ℕ} → rest ≡ after_start word_start file → {l : Line} → l ≡ word_line rest → l ≡ line_of file
    unfolding line_of
    line_word t r q = rw (f, t, ← r) q

    module _ (g : starts_with file word_start ≡ false) where
      pub line-command : starts_with file command_start ≡ true → {rest : List ℕ} → rest ≡ after_start command_start file → {l : Line} → l ≡ line_by (hexadecimal_in rest) (λ n. Command n) → l ≡ line_of file
      unfolding line_of
      line-command t r q = rw (f, g, t, ← r) q

      module _ (h : starts_with file command_start ≡ false) where
        pub line-titled : starts_with file text_start ≡ true → {rest : List ℕ} → rest ≡ after_start text_start file → {t : Option Text} → t ≡ title_of rest → Titled t ≡ line_of file
        unfolding line_of
        line-titled t r q = rw (f, g, h, t, ← r, q)

        pub line_other : starts_with file text_start ≡ false → Other ≡ line_of file
        unfolding line_of
        line_other t = rw (f, g, h, t)
