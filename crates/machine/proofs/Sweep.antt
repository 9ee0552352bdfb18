-- Question 2 is what the code's sweep by columns answers.
-- Assumes nothing.
use mathlib.Core.Path.{◌≡◌, refl, sym, ap, ◌∙◌}
use mathlib.Core.Bool.{Bool, true, false, ◌&&◌, and_comm, and_assoc, and-true, and-false}
use mathlib.Core.List.{List, [], ◌∷◌}
use Prim.Native.Nat.{ℕ}
use native.Mathlib.Omega.{arith}
use borrow.Author.Tests.{ne_eqb}
use lib.Dec.{ltb, leb-zero, lit<}
use lib.ListN.{get_or}
use Rattle.base_lists.specs.Lists.{all_below}
use Rattle.base_lists.proofs.Below.{below-same}
use Rattle.layout.specs.Layout.{update_ticks_at}
use Rattle.layout_texts.specs.declared.Text.{Text}
use Rattle.layout_texts.specs.declared.Text.TheVariants.{Of1978, Old}
use Rattle.machine_sweep.specs.AsCoded.{every_word}
use Rattle.machine_sweep.proofs.Words.{word-from}
use Rattle.machine_sweep.proofs.EveryColumn.{every_column, limit_tests, word_and}
use Rattle.machine.specs.Questions.{bits, good_gmode, good_address, good_mmode, test, delay_mode, generator_registers, modifier_registers, delay_registers, regions, test_at, word_passes, valid}
use Rattle.machine.specs.AsCoded.{limits_of, modes_field, function_field, delay_field, modes_built, functions_built, generators_within, modifiers_within, controls_within, delays_within, ticks_counted}
use Rattle.machine.proofs.Words.{gmode-is, old-gmode-is, address-and, mmode-is, delay-mode-is}
use Rattle.machine.proofs.Limits.{region-swept}
use Rattle.machine.proofs.Regions.{words_of, region, every_region, regions-columns}

-- The regions' words together are those before the update ticks, which are the machine's last word.
pub regions-cover : (text : Text) → words_of (regions text) ≡ update_ticks_at
unfolding regions words_of
regions-cover text = refl

by-region : (text : Text) (m : List ℕ) → all_below (word_passes text m) update_ticks_at ≡ all_below (λ i. test_at (regions text) i (get_or m i 0)) update_ticks_at
unfolding word_passes
by-region text m =
    below-same (word_passes text m) (λ i. test_at (regions text) i (get_or m i 0)) update_ticks_at
    (λ i h. rw (ne_eqb i update_ticks_at (λ e. omega arith)))

pub valid-columns : (text : Text) (m : List ℕ) → valid text m ≡ (every_region (regions text) m 0 && ticks_counted m)
unfolding valid word_passes
valid-columns text m =
    and_comm (ticks_counted m) (all_below (word_passes text m) update_ticks_at)
    ∙ ap (λ (b : Bool). b && ticks_counted m)
    (by-region text m ∙ ap (all_below (λ i. test_at (regions text) i (get_or m i 0))) (sym (regions-cover text)) ∙ regions-columns (regions text) m)

-- A region's widths and its further tests are its registers' tests.
generators-are : (text : Text) (m : List ℕ) (n : ℕ)
    → (every_column (limit_tests (limits_of (generator_registers text))) m 0 11 0 n && every_word (modes_field text) m 0 11 10 n)
    ≡ every_column (region (regions text) 0).tests m 0 11 0 n
unfolding regions limit_tests
generators-are Of1978 m n = simp (word_and (bits 10) (modes_field Of1978) (good_gmode Of1978) gmode-is, and_assoc, and-true)
generators-are Old m n = simp (word_and (bits 8) (modes_field Old) (good_gmode Old) old-gmode-is, and_assoc, and-true)

-- Two further tests are asked after the widths and stand beside their own.
apart : (a b c d e f g h x y z : Bool)
    → (a && (b && (c && (d && (e && (f && (g && (h && (x && (y && z)))))))))) ≡ (a && (b && (c && (d && (e && (x && (f && (y && (g && (h && z))))))))))
apart a b c d e f g h true true z = refl
apart a b c d e f g h true false z = simp and-false
apart a b c d e f g h false y z = simp and-false

with-field : (field good : ℕ → Bool) → ((x : ℕ) → good x ≡ (bits 9 x && field x)) → (m : List ℕ) (n : ℕ)
    → (every_column (limit_tests (limits_of (modifier_registers Of1978))) m 2816 8 0 n && every_word (λ x. ltb x 192) m 2816 8 4 n && every_word (λ x. ltb x 192) m 2816 8 5 n && every_word field m 2816 8 7 n)
    ≡ every_column (bits 30 ∷ bits 30 ∷ bits 20 ∷ bits 20 ∷ good_address ∷ good_address ∷ bits 7 ∷ good ∷ []) m 2816 8 0 n
unfolding limit_tests
with-field field good is m n =
    simp (
      word_and (bits 8) (λ x. ltb x 192) good_address address-and,
      word_and (bits 9) field good is,
      and_assoc,
      and-true,
    )
    (apart (w 0 30) (w 1 30) (w 2 20) (w 3 20) (w 4 8) (w 5 8) (w 6 7) (w 7 9) (every_word (λ x. ltb x 192) m 2816 8 4 n) (every_word (λ x. ltb x 192) m 2816 8 5 n) (every_word field m 2816 8 7 n))
  where
    w : ℕ → ℕ → Bool
    w j k = every_word (bits k) m 2816 8 j n

modifiers-are : (text : Text) (m : List ℕ) (n : ℕ)
    → (every_column (limit_tests (limits_of (modifier_registers text))) m 2816 8 0 n && every_word (λ x. ltb x 192) m 2816 8 4 n && every_word (λ x. ltb x 192) m 2816 8 5 n && every_word (function_field text) m 2816 8 7 n)
    ≡ every_column (region (regions text) 1).tests m 2816 8 0 n
unfolding regions
modifiers-are Of1978 m n = with-field (function_field Of1978) (good_mmode Of1978) (mmode-is Of1978) m n
modifiers-are Old m n = with-field (function_field Old) (good_mmode Old) (mmode-is Old) m n

-- A further test is asked after the widths and stands beside its own.
beside : (a b c d e f g x : Bool) → (a && (b && (c && (d && (e && (f && (g && x))))))) ≡ (a && (b && (c && (d && (x && (e && (f && g)))))))
beside a b c d e f g true = simp and-true
beside a b c d e f g false = simp and-false

delays-are : (text : Text) (m : List ℕ) (n : ℕ)
    → (every_column (limit_tests (limits_of delay_registers)) m 4119 7 0 n && every_word delay_field m 4119 7 3 n) ≡ every_column (region (regions text) 5).tests m 4119 7 0 n
unfolding regions limit_tests
delays-are text m n =
    simp (word_and (bits 4) delay_field (test delay_mode) delay-mode-is, and_assoc, and-true)
    (beside (w 0 16) (w 1 16) (w 2 16) (w 3 4) (w 4 20) (w 5 20) (w 6 20) (every_word delay_field m 4119 7 3 n))
  where
    w : ℕ → ℕ → Bool
    w j k = every_word (bits k) m 4119 7 j n

generators-swept : (text : Text) (m : List ℕ) → generators_within text m ≡ every_column (region (regions text) 0).tests m 0 11 0 256
unfolding generators_within modes_built
generators-swept text m =
    rw (
      region-swept (generator_registers text) m 0 44 8 256 (lit< tt) (lit< tt) (λ i. omega arith) refl,
      word-from (modes_field text) m 0 11 10 256,
    )
    (generators-are text m 256)

modifiers-swept : (text : Text) (m : List ℕ) → modifiers_within text m ≡ every_column (region (regions text) 1).tests m 2816 8 0 128
unfolding modifiers_within functions_built
modifiers-swept text m =
    rw (
      region-swept (modifier_registers text) m 2816 16 8 128 (lit< tt) (lit< tt) (λ i. omega arith) refl,
      word-from (λ x. ltb x 192) m 2816 8 4 128,
      word-from (λ x. ltb x 192) m 2816 8 5 128,
      word-from (function_field text) m 2816 8 7 128,
    )
    (modifiers-are text m 128)

delays-swept : (text : Text) (m : List ℕ) → delays_within m ≡ every_column (region (regions text) 5).tests m 4119 7 0 32
unfolding delays_within
delays-swept text m =
    rw (region-swept delay_registers m 4119 28 1 32 (lit< tt) (lit< tt) (λ i. omega arith) refl, word-from delay_field m 4119 7 3 32)
    (delays-are text m 32)

controls-are : (text : Text) (m : List ℕ) → controls_within m ≡ every_column (region (regions text) 4).tests m 4112 7 0 1
unfolding regions every_word
controls-are text m = simp (leb-zero, and_assoc, and-true)

six : (a b c d e f : Bool) → (a && (b && (c && true && (d && true && (e && (f && true)))))) ≡ (a && b && c && d && e && f)
six a b c d e f = simp (and_assoc, and-true)

-- The sweep's answer.
pub valid-swept : (text : Text) (m : List ℕ)
    → valid text m ≡ (generators_within text m && modifiers_within text m && every_word (bits 20) m 3840 1 0 256 && every_word (bits 20) m 4096 1 0 16 && controls_within m && delays_within m && ticks_counted m)
unfolding regions
valid-swept text m =
    valid-columns text m
    ∙ ap (λ (b : Bool). b && ticks_counted m) (six (every_column (region (regions text) 0).tests m 0 11 0 256) (every_column (region (regions text) 1).tests m 2816 8 0 128)
    (every_word (bits 20) m 3840 1 0 256) (every_word (bits 20) m 4096 1 0 16) (every_column (region (regions text) 4).tests m 4112 7 0 1)
    (every_column (region (regions text) 5).tests m 4119 7 0 32))
    ∙ rw (generators-swept text m, modifiers-swept text m, controls-are text m, delays-swept text m)
