-- A modifier's turn, and its delay unit's, by whether it invokes one.
-- Assumes nothing.
use mathlib.Core.Path.{◌≡◌, refl, sym}
use mathlib.Core.Bool.{true, false, true≢false}
use mathlib.Core.List.{List}
use Prim.Native.Nat.{ℕ}
use borrow.Author.Tests.{eqb-true}
use Rattle.layout.specs.Layout.{modifier_at}
use Rattle.layout.specs.Machine.{Machine, Memory, Sums}
use Rattle.layout_texts.specs.declared.Text.{Text}
use Rattle.layout_texts.specs.declared.Text.TheVariants.{Of1978, Old}
use Rattle.modifier.specs.declared.Modifier.{Modifier}
use Rattle.modifier.specs.Modifier.{function_of, stored}
use Rattle.modifier_turn.specs.Turn.{turn_of, reads_late}
use Rattle.modifier_delay.specs.Invoke.{invoke_delay}
use Rattle.pass_model.specs.Modifiers.{seen, given, modifier_turn, modifier_reads_late, invokes_delay, second_input, turn_seen, Held, delayed}
use Rattle.pass_views.specs.AsCoded.{turn_with_b}

-- Where it does, it reads A late, and its turn is that of 00111.
invoking-late : (text : Text) (u : Modifier) → invokes_delay text u ≡ true → modifier_reads_late text (function_of u) ≡ true
unfolding reads_late
invoking-late Of1978 u i = rw (eqb-true (function_of u) 0b00111 i)
invoking-late Old u i = absurd (true≢false (sym i))

invoking-turn : (text : Text) (u : Modifier) (a b : ℕ) → invokes_delay text u ≡ true → modifier_turn text u a b ≡ invoke_delay u a b
unfolding turn_of
invoking-turn Of1978 u a b i = rw (eqb-true (function_of u) 0b00111 i)
invoking-turn Old u a b i = absurd (true≢false (sym i))

module _ (text : Text) (t : ℕ) (words : Machine) (s : Sums) (early late : List ℕ) (u : Modifier) where
  -- One that invokes a unit reads A late, and the word that the unit gives.
  pub turn-invoking : invokes_delay text u ≡ true → turn_seen text t words s early late u ≡ invoke_delay u (seen s late u.min) (given t words u)
  unfolding turn_seen second_input
  turn-invoking i = rw (i, invoking-late text u i, invoking-turn text u (seen s late u.min) (given t words u) i)

  -- One that invokes none has B beside A.
  turn-plain : invokes_delay text u ≡ false → turn_seen text t words s early late u ≡ turn_with_b text s early late u
  unfolding turn_seen turn_with_b second_input
  turn-plain i = rw i

  -- Then no unit has a turn.
  not-invoked : (h : Held) (w : ℕ) → invokes_delay text u ≡ false → h ≡ delayed text t h u w
  unfolding delayed
  not-invoked h w i = rw i

  pub plain-taken : (memory : Memory) (k : ℕ) → invokes_delay text u ≡ false → {value : ℕ} {words₁ : Machine} → (value ≡ (turn_with_b text s early late u).s) × (words₁ ≡ stored words (modifier_at k) (turn_with_b text s early late u).unit)
      → (value ≡ (turn_seen text t words s early late u).s)
      × (record { words = words₁; memory = memory } ≡ delayed text t (record { words = stored words (modifier_at k) (turn_seen text t words s early late u).unit; memory = memory }) u (turn_seen text t words s early late u).unit.l1)
  plain-taken memory k i e = rw (e.0, e.1, turn-plain i) (refl, not-invoked _ _ i)
