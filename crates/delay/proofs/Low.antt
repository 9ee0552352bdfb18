-- A loaded unit is within its widths, and so is what a turn leaves.
-- Assumes nothing.
use mathlib.Core.Path.{◌≡◌, refl}
use mathlib.Core.Bool.{Bool, true, false}
use mathlib.Core.List.{List}
use Prim.Native.Nat.{ℕ, ◌^◌, ◌<◌}
use native.Mathlib.Nat.{mod-lt}
use native.Mathlib.Omega.{arith}
use borrow.Author.Tests.{ltb-true, ltb-false, eqb-true, eqb-false}
use lib.Dec.{eqb, ltb, lit<}
use lib.ListN.{length, get_or, set, length-set, get_or-eq_default}
use lib.Pow.{pow_pos}
use lib.Seq.{get_or-set_same, get_or-set_other}
use Rattle.base_lists.proofs.Choices.{of_test}
use Rattle.layout.specs.Machine.{Memory}
use Rattle.delay.specs.declared.Delay.{Delay}
use Rattle.delay.specs.Delay.{loaded, Ranged, due, slot, stepped, address, line_turn, table_turn, delay_turn_of}
use Rattle.delay.proofs.Turn.{every-turn}

-- A unit that was loaded is within its widths, and the word that is due from it too.
pub loaded-ranged : (m : List ℕ) → Ranged (loaded m)
unfolding loaded
loaded-ranged m =
    record {
      x-low = mod-lt _ (pow_pos 16);
      y-low = mod-lt _ (pow_pos 16);
      z-low = mod-lt _ (pow_pos 16);
      p-low = mod-lt _ (pow_pos 4);
      first-low = mod-lt _ (pow_pos 20);
      second-low = mod-lt _ (pow_pos 20);
      third-low = mod-lt _ (pow_pos 20);
    }

pub due-low : (m : List ℕ) → due (loaded m) < 2 ^ 20
due-low m = (loaded-ranged m).first-low

-- Every word of delay memory is within its width; past its end a word is 0.
abbrev pub WordsLow : Memory → Type 0
WordsLow memory = (i : ℕ) → i < length memory → get_or memory i 0 < 2 ^ 20

pub word_low : (memory : Memory) → WordsLow memory → (i : ℕ) → get_or memory i 0 < 2 ^ 20
word_low memory h i = go (ltb i (length memory)) refl
  where
    go : (b : Bool) → ltb i (length memory) ≡ b → get_or memory i 0 < 2 ^ 20
    go true e = h i (ltb-true i (length memory) e)
    go false e = rw (get_or-eq_default memory 0 {n = i} (ltb-false i (length memory) e)) (lit< tt)

pub put_low : (memory : Memory) (at w : ℕ) → WordsLow memory → w < 2 ^ 20 → WordsLow (set memory at w)
put_low memory at w h low i l = go (eqb i at) refl
  where
    inside : i < length memory
    inside = rw (length-set memory at w) at l

    go : (b : Bool) → eqb i at ≡ b → get_or (set memory at w) i 0 < 2 ^ 20
    go true e = rw (← (eqb-true i at e), get_or-set_same memory i w 0 inside) low
    go false e = rw (get_or-set_other memory at i w 0 (eqb-false i at e)) (h i inside)

module _ (d : Delay) (memory : Memory) (w : ℕ) where
  -- A turn with a word within its width leaves such words in delay memory.
  pub memory-low : WordsLow memory → w < 2 ^ 20 → WordsLow (delay_turn_of d memory w).memory
  unfolding line_turn table_turn
  memory-low h low = every-turn d memory w (λ a. WordsLow a.memory) (put_low memory (slot d) w h low) h

  stepped-low : Ranged d → stepped d < 2 ^ 16
  stepped-low r = of_test (λ y. y < 2 ^ 16) (ltb d.y d.z) (λ e. omega (arith, ltb-true d.y d.z e, r.z-low)) (λ _. lit< tt)

  -- And a unit within its widths.
  pub turn-ranged : Ranged d → WordsLow memory → Ranged (delay_turn_of d memory w).unit
  unfolding line_turn table_turn
  turn-ranged r h =
      every-turn d memory w (λ a. Ranged a.unit)
      record {
        x-low = r.x-low;
        y-low = stepped-low r;
        z-low = r.z-low;
        p-low = r.p-low;
        first-low = r.second-low;
        second-low = word_low memory h (slot d);
        third-low = lit< tt;
      }
      record {
        x-low = r.x-low;
        y-low = r.y-low;
        z-low = r.z-low;
        p-low = r.p-low;
        first-low = r.second-low;
        second-low = r.third-low;
        third-low = word_low memory h (address d w);
      }
