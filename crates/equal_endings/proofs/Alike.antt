-- The generators of a text follow all settings that are the same below T.
-- Assumes nothing.
use mathlib.Core.Path.{◌≡◌, sym, ◌∙◌}
use Prim.Native.Nat.{ℕ, ◌<◌}
use native.Mathlib.Omega.{arith}
use Rattle.layout.specs.Machine.{Machine}
use Rattle.pass_model.specs.Generators.{Generators}
use Rattle.compare_agreement.specs.Agreement.{Settings}
use Rattle.equal_endings.specs.AsCoded.{TurnFollows, Follows}

-- The same settings of the generators below T.
pub record Alike (s u : Settings) : Type 0 where
  pub ticks : s.ticks ≡ u.ticks
  pub distance : s.distance ≡ u.distance
  pub waits : (g : ℕ) → g < s.ticks → s.waits g ≡ u.waits g
  pub triggering : (g : ℕ) → g < s.ticks → s.triggering g ≡ u.triggering g
  pub feeds : (d g : ℕ) → g < s.ticks → s.feeds d g ≡ u.feeds d g
  pub writes : (g : ℕ) → g < s.ticks → s.writes g ≡ u.writes g
  pub source : (g : ℕ) → g < s.ticks → s.source g ≡ u.source g
  pub on_word : (w g : ℕ) → g < s.ticks → s.on_word w g ≡ u.on_word w g
  pub replacing : (g : ℕ) → g < s.ticks → s.replacing g ≡ u.replacing g
  pub adding : (g : ℕ) → g < s.ticks → s.adding g ≡ u.adding g

module _ (of : Generators) (s u : Settings) (m : Machine) (a : Alike s u) where
  turn-alike : (g : ℕ) → g < s.ticks → TurnFollows of u m g → TurnFollows of s m g
  turn-alike g h t =
      record {
        feeds = λ b d. t.feeds b d ∙ sym (a.feeds d g h);
        writes = λ b. t.writes b ∙ sym (a.writes g h);
        word = λ b w. t.word b w ∙ sym (a.on_word w g h);
        replaces = λ b. t.replaces b ∙ sym (a.replacing g h);
        adds = λ b. t.adds b ∙ sym (a.adding g h);
        p = t.p;
        sends = t.sends;
        triggers = t.triggers;
        unit = λ e. t.unit (sym (a.waits g h) ∙ e);
        triggering = λ e. a.triggering g h ∙ t.triggering e;
        p-low = t.p-low;
        alone = λ e. a.adding g h ∙ t.alone (sym (a.replacing g h) ∙ e);
      }

  pub follows-alike : Follows of u m → Follows of s m
  follows-alike f =
      record {
        own = f.own;
        dac-low = f.dac-low;
        distance = f.distance ∙ sym a.distance;
        whole = f.whole;
        few = rw a.ticks f.few;
        this-low = f.this-low;
        turns = λ g h. turn-alike g h (f.turns g (below g h));
        source = λ x y i j e. f.source x y (below x i) (below y j) (sym (a.source x i) ∙ e ∙ a.source y j);
      }
    where
      below : (g : ℕ) → g < s.ticks → g < u.ticks
      below g h = omega (arith, a.ticks)
