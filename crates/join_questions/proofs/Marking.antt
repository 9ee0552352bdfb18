-- The marks of a machine's generators tell what it uses.
-- Assumes nothing.
use mathlib.Core.Path.{◌≡◌, refl, sym, ap, ◌∙◌}
use mathlib.Core.Bool.{Bool, true, false, cond, not, ◌&&◌, ◌||◌}
use mathlib.Core.List.{List}
use Prim.Native.Nat.{ℕ, zero, suc, ◌+◌, ◌≤◌, ◌<◌}
use native.Mathlib.Omega.{arith}
use native.Mathlib.Numerals.{add-one}
use borrow.Author.Tests.{eqb-true, eqb-false, eq-eqb, ne_eqb}
use lib.Dec.{eqb}
use lib.ListN.{length, get_or, set, replicate, length-set, length-replicate}
use lib.Seq.{get_or-set_same, get_or-set_other}
use Rattle.base_lists.specs.Lists.{all_below}
use Rattle.layout.specs.Layout.{dacs}
use Rattle.layout.specs.Machine.{Machine, ticks_of, gsum_at, gfm_at}
use Rattle.layout_modes.specs.Modes.{write_dac}
use Rattle.layout_texts.specs.Texts.{run_mode_at, dac_number_at}
use Rattle.layout_texts.specs.declared.Text.TheVariants.{Of1978}
use Rattle.join_model.specs.Join.{any_below, names_word, feeds_dac, uses_word, uses_dac}
use Rattle.join_questions.specs.AsCoded.{Usable, marks_length, dacs_used_at, uses_marked, marked_to, marks_of}

-- Some number below n + 1 passes a test where n does or one below it.
any_next : (p : ℕ → Bool) (n : ℕ) → any_below p (suc n) ≡ (p n || any_below p n)
any_next p n = go (p n)
  where
    go : (x : Bool) → not (not x && all_below (λ k. not (p k)) n) ≡ (x || any_below p n)
    go true = refl
    go false = refl

-- A mark that is set.
set-mark : (l : List Bool) (i k : ℕ) → i < length l → get_or (set l i true) k false ≡ (eqb i k || get_or l k false)
set-mark l i k h = go (eqb i k) refl
  where
    go : (x : Bool) → eqb i k ≡ x → get_or (set l i true) k false ≡ (x || get_or l k false)
    go true e = rw (← (eqb-true i k e)) (get_or-set_same l i true false h)
    go false e = get_or-set_other l i k true false (λ q. eqb-false i k e (sym q))

no-marks : (n k : ℕ) → get_or (replicate n false) k false ≡ false
no-marks zero k = refl
no-marks (suc n) zero = refl
no-marks (suc n) (suc k) = no-marks n k

pub marks-none : (m : Machine) → replicate marks_length false ≡ marked_to m 0
unfolding marked_to
marks-none m = refl

pub marks-next : (m : Machine) (g : ℕ) {now next : List Bool} → now ≡ marked_to m g → next ≡ uses_marked m now g → next ≡ marked_to m (g + 1)
unfolding marked_to
marks-next m g e f = rw (add-one g, f, e)

module _ (m : Machine) (u : Usable m) where
  marked-length : (used : List Bool) (g : ℕ) → length (uses_marked m used g) ≡ length used
  unfolding uses_marked
  marked-length used g = go (eqb (run_mode_at Of1978 m g) write_dac)
    where
      words : length (set (set used (gsum_at m g) true) (gfm_at m g) true) ≡ length used
      words = length-set (set used (gsum_at m g) true) (gfm_at m g) true ∙ length-set used (gsum_at m g) true

      go : (x : Bool) → length (cond x (set (set (set used (gsum_at m g) true) (gfm_at m g) true) (dacs_used_at + dac_number_at Of1978 m g) true) (set (set used (gsum_at m g) true) (gfm_at m g) true)) ≡ length used
      go true = length-set (set (set used (gsum_at m g) true) (gfm_at m g) true) (dacs_used_at + dac_number_at Of1978 m g) true ∙ words
      go false = words

  marks-length : (n : ℕ) → length (marked_to m n) ≡ marks_length
  unfolding marked_to
  marks-length zero = length-replicate {A = Bool} marks_length false
  marks-length (suc n) = marked-length (marked_to m n) n ∙ marks-length n

  module _ (used : List Bool) (whole : length used ≡ marks_length) (g : ℕ) (h : g < 256) where
    abbrev words : List Bool
    words = set (set used (gsum_at m g) true) (gfm_at m g) true

    -- A mark after the two words of a generator.
    two : (k : ℕ) → get_or words k false ≡ (eqb (gfm_at m g) k || (eqb (gsum_at m g) k || get_or used k false))
    two k =
        set-mark (set used (gsum_at m g) true) (gfm_at m g) k (omega (arith, length-set used (gsum_at m g) true, whole, u.gfms g h))
        ∙ ap (λ (x : Bool). eqb (gfm_at m g) k || x) (set-mark used (gsum_at m g) k (omega (arith, whole, u.gsums g h)))

    word-mark : (w : ℕ) → w < dacs_used_at → get_or (uses_marked m used g) w false ≡ (names_word m w g || get_or used w false)
    unfolding uses_marked
    word-mark w l = go (eqb (run_mode_at Of1978 m g) write_dac) ∙ two w ∙ shuffled (eqb (gfm_at m g) w) (eqb (gsum_at m g) w) (get_or used w false)
      where
        go : (x : Bool) → get_or (cond x (set words (dacs_used_at + dac_number_at Of1978 m g) true) words) w false ≡ get_or words w false
        go true = get_or-set_other words (dacs_used_at + dac_number_at Of1978 m g) w true false (λ q. omega arith)
        go false = refl

        shuffled : (x y z : Bool) → (x || (y || z)) ≡ ((y || x) || z)
        shuffled true true z = refl
        shuffled true false z = refl
        shuffled false true z = refl
        shuffled false false z = refl

    dac-mark : (d : ℕ) → d < dacs → get_or (uses_marked m used g) (dacs_used_at + d) false ≡ (feeds_dac m d g || get_or used (dacs_used_at + d) false)
    unfolding uses_marked
    dac-mark d l = go (eqb (run_mode_at Of1978 m g) write_dac)
      where
        past : get_or words (dacs_used_at + d) false ≡ get_or used (dacs_used_at + d) false
        past =
            two (dacs_used_at + d)
            ∙ rw (ne_eqb (gfm_at m g) (dacs_used_at + d) (λ q. omega (arith, u.gfms g h)), ne_eqb (gsum_at m g) (dacs_used_at + d) (λ q. omega (arith, u.gsums g h)))

        long : length words ≡ marks_length
        long = length-set (set used (gsum_at m g) true) (gfm_at m g) true ∙ length-set used (gsum_at m g) true ∙ whole

        place : eqb (dacs_used_at + dac_number_at Of1978 m g) (dacs_used_at + d) ≡ eqb (dac_number_at Of1978 m g) d
        place = same (eqb (dac_number_at Of1978 m g) d) refl
          where
            same : (x : Bool) → eqb (dac_number_at Of1978 m g) d ≡ x → eqb (dacs_used_at + dac_number_at Of1978 m g) (dacs_used_at + d) ≡ x
            same true e = eq-eqb (dacs_used_at + dac_number_at Of1978 m g) (dacs_used_at + d) (ap (λ (x : ℕ). dacs_used_at + x) (eqb-true (dac_number_at Of1978 m g) d e))
            same false e = ne_eqb (dacs_used_at + dac_number_at Of1978 m g) (dacs_used_at + d) (λ q. eqb-false (dac_number_at Of1978 m g) d e (omega arith))

        go : (x : Bool) → get_or (cond x (set words (dacs_used_at + dac_number_at Of1978 m g) true) words) (dacs_used_at + d) false ≡ ((x && eqb (dac_number_at Of1978 m g) d) || get_or used (dacs_used_at + d) false)
        go true =
            set-mark words (dacs_used_at + dac_number_at Of1978 m g) (dacs_used_at + d) (omega (arith, long))
            ∙ rw (place, past)
        go false = past

  -- The marks of the generators below n, and of all below T.
  words-to : (n : ℕ) → n ≤ 256 → (w : ℕ) → w < dacs_used_at → get_or (marked_to m n) w false ≡ any_below (names_word m w) n
  unfolding marked_to
  words-to zero l w h = no-marks marks_length w
  words-to (suc n) l w h =
      word-mark (marked_to m n) (marks-length n) n (omega arith) w h
      ∙ ap (λ (x : Bool). names_word m w n || x) (words-to n (omega arith) w h)
      ∙ sym (any_next (names_word m w) n)

  dacs-to : (n : ℕ) → n ≤ 256 → (d : ℕ) → d < dacs → get_or (marked_to m n) (dacs_used_at + d) false ≡ any_below (feeds_dac m d) n
  unfolding marked_to
  dacs-to zero l d h = no-marks marks_length (dacs_used_at + d)
  dacs-to (suc n) l d h =
      dac-mark (marked_to m n) (marks-length n) n (omega arith) d h
      ∙ ap (λ (x : Bool). feeds_dac m d n || x) (dacs-to n (omega arith) d h)
      ∙ sym (any_next (feeds_dac m d) n)

  pub word-marks : (w : ℕ) → w < dacs_used_at → get_or (marks_of m) w false ≡ uses_word m w
  unfolding uses_word
  word-marks w h = words-to (ticks_of m) u.ticks w h

  pub dac-marks : (d : ℕ) → d < dacs → get_or (marks_of m) (dacs_used_at + d) false ≡ uses_dac m d
  unfolding uses_dac
  dac-marks d h = dacs-to (ticks_of m) u.ticks d h
