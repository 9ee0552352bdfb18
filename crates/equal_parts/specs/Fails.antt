-- Where each of the four points fails (document 01, "Two orders agree when"; document 02, Q-8): at a generator, a DAC, a place in the list of written data or a sum word.
-- Assumes nothing.
use Rattle.std.specs.Prelude.{ℕ, ◌+◌, ◌<◌, true, List, map, ◌≢◌, ◌≡◌, length, get_or}
use Rattle.layout.specs.Layout.{dacs, quadrant_words}
use Rattle.layout.specs.Machine.{Order}
use Rattle.base_sequences.specs.Sequences.{keep, last_of, before}
use Rattle.compare_agreement.specs.Agreement.{Settings, replaces_word, SameWord}

-- The writing generators, in order, as a list of their sources: GFM, or in the older text the generator itself.
abbrev pub written_sources : Settings → Order → List ℕ
written_sources s o = map s.source (keep s.writes o)

-- Generator p below T waits, its lower neighbour can trigger, and it stands on another side of it in one order than in the other.
pub record NeighbourFails (s : Settings) (o₁ o₂ : Order) (p : ℕ) : Type 0 where
  pub below : p < s.ticks
  pub neighbour : ℕ
  pub lower : s.distance + neighbour ≡ p
  pub waits : s.waits p ≡ true
  pub triggers : s.triggering neighbour ≡ true
  pub sides : before neighbour p o₁ ≢ before neighbour p o₂

-- DAC p is fed, by a generator below T, and is fed last through another source.
pub record FeederFails (s : Settings) (o₁ o₂ : Order) (p : ℕ) : Type 0 where
  pub below : p < dacs
  pub feeder : ℕ
  pub feeder-below : feeder < s.ticks
  pub feeds : s.feeds p feeder ≡ true
  pub sources : s.source (last_of (s.feeds p) o₁) ≢ s.source (last_of (s.feeds p) o₂)

-- Place p of the list of written data, which is as long in both orders of one machine, has another source.
pub record WriterFails (s : Settings) (o₁ o₂ : Order) (p : ℕ) : Type 0 where
  pub below : p < length (written_sources s o₁)
  pub sources : get_or (written_sources s o₁) p 0 ≢ get_or (written_sources s o₂) p 0

-- Sum word p has a 0111 below T, but not the same last one, at the same place among all 0111s, and the same set of adding generators on that word after it.
pub record WordFails (s : Settings) (o₁ o₂ : Order) (p : ℕ) : Type 0 where
  pub below : p < quadrant_words
  pub reader : ℕ
  pub reader-below : reader < s.ticks
  pub replaces : replaces_word s p reader ≡ true
  pub differs : SameWord s p o₁ o₂ → ⊥

-- Point q, of the four in their sequence, fails at place p.
pub data Fails (s : Settings) (o₁ o₂ : Order) (q p : ℕ) : Type 0 where
  first : q ≡ 1 → NeighbourFails s o₁ o₂ p → Fails s o₁ o₂ q p
  second : q ≡ 2 → FeederFails s o₁ o₂ p → Fails s o₁ o₂ q p
  third : q ≡ 3 → WriterFails s o₁ o₂ p → Fails s o₁ o₂ q p
  fourth : q ≡ 4 → WordFails s o₁ o₂ p → Fails s o₁ o₂ q p
