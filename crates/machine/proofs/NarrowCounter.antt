-- A machine that passed question 2 while the counter had 20 bits passes it: a number of 20 bits has 32, and no other word's test is another.
-- Assumes nothing.
use mathlib.Core.Path.{◌≡◌, refl, sym, ap, ◌∙◌}
use mathlib.Core.Bool.{Bool, true, false}
use mathlib.Core.List.{List}
use Prim.Native.Nat.{ℕ, ◌^◌, ◌<◌}
use native.Mathlib.Omega.{arith}
use borrow.Author.Tests.{ltb-true, lt-ltb, eqb-true}
use lib.Dec.{eqb, lit<}
use lib.ListN.{get_or, set}
use Rattle.base_lists.proofs.Below.{below_at, below-from}
use Rattle.layout.specs.Layout.{machine_length, counter_at}
use Rattle.layout.specs.Widths.{counter_bits}
use Rattle.layout_texts.specs.declared.Text.{Text}
use Rattle.machine.specs.Questions.{regions, test_at, word_passes, valid}
use Rattle.machine.specs.NarrowCounter.{narrow_counter_bits, narrow_passes, narrow_valid}
use Rattle.machine.proofs.ValidMachine.{single-above, valid-set}

-- The counter's test, older and now, and that of any other word.
narrow-counter : (text : Text) (m : List ℕ) → narrow_passes text m counter_at ≡ true → get_or m counter_at 0 < 2 ^ narrow_counter_bits
unfolding narrow_passes
narrow-counter text m p = ltb-true (get_or m counter_at 0) (2 ^ narrow_counter_bits) p

counter-test : (text : Text) (n : ℕ) → n < 2 ^ counter_bits → test_at (regions text) counter_at n ≡ true
unfolding regions test_at
counter-test text n l = lt-ltb n (2 ^ counter_bits) l

counter-passes : (text : Text) (m : List ℕ) → get_or m counter_at 0 < 2 ^ counter_bits → word_passes text m counter_at ≡ true
unfolding word_passes
counter-passes text m l = counter-test text (get_or m counter_at 0) l

other-passes : (text : Text) (m : List ℕ) (i : ℕ) → eqb i counter_at ≡ false → narrow_passes text m i ≡ word_passes text m i
unfolding narrow_passes
other-passes text m i q = rw q

narrow-passes : (text : Text) (m : List ℕ) (i : ℕ) → narrow_passes text m i ≡ true → word_passes text m i ≡ true
narrow-passes text m i p = go (eqb i counter_at) refl where
  go : (b : Bool) → eqb i counter_at ≡ b → word_passes text m i ≡ true
  go true q =
      let at = eqb-true i counter_at q in
      ap (word_passes text m) at ∙ counter-passes text m (omega (arith, narrow-counter text m (ap (narrow_passes text m) (sym at) ∙ p)))
  go false q = sym (other-passes text m i q) ∙ p

pub narrow-valid : (text : Text) (m : List ℕ) → narrow_valid text m ≡ true → valid text m ≡ true
unfolding narrow_valid valid
narrow-valid text m e = below-from (word_passes text m) machine_length (λ i h. narrow-passes text m i (below_at (narrow_passes text m) machine_length e i h))

-- Every number of 32 bits may be the counter's.
pub any-counter : (text : Text) (m : List ℕ) → valid text m ≡ true → (n : ℕ) → n < 2 ^ counter_bits → valid text (set m counter_at n) ≡ true
any-counter text m e n l = valid-set text m e counter_at n (single-above (lit< tt) (lit< tt)) (counter-test text n l)
