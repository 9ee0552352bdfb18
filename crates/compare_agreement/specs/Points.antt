-- The four points as numbers: each gives the lowest generator, DAC, place in the written list or sum word at which it fails,
-- or their number where it fails nowhere; and the first of them that fails.
-- Assumes nothing.
use Rattle.std.specs.Prelude.{ℕ, ◌-◌, Bool, true, cond, not, ◌&&◌, map, eqb, get_or}
use Rattle.std.specs.Bool.{beq}
use Rattle.base_lists.specs.Lists.{all_below, count_below}
use Rattle.base_sequences.specs.Sequences.{keep, some, last_of, before, first_failing}
use Rattle.layout.specs.Layout.{generators, dacs, quadrant_words}
use Rattle.layout.specs.Machine.{Order}
use Rattle.compare_agreement.specs.Agreement.{Settings, awaits, replaces_word, adds_to_word, last_replacing, place_replacing, after_replacing}

-- The first of the four points that fails: its number, 1 to 4, the lowest place at which it fails, and for the fourth the generator that is to sound
-- so that a pass shows it. All are 0 where none fails.
pub record Failing : Type 0 where
  pub point : ℕ
  pub place : ℕ
  pub sounding : ℕ

module _ (s : Settings) (o₁ o₂ : Order) where
  -- The first point at generator g: if it waits and its lower neighbour can trigger, it stands on the same side of it in both.
  abbrev pub neighbour_same : ℕ → Bool
  neighbour_same g =
      cond (awaits s g) (beq (before (g - s.distance) g o₁) (before (g - s.distance) g o₂)) true

  -- The second at DAC d: if it is fed, it is fed last through the same source.
  abbrev pub feeder_same : ℕ → Bool
  feeder_same d = cond (some (s.feeds d) o₁) (eqb (s.source (last_of (s.feeds d) o₁)) (s.source (last_of (s.feeds d) o₂))) true

  -- The third at place i of the written list: the same source.
  abbrev pub writer_same : ℕ → Bool
  writer_same i = eqb (get_or (map s.source (keep s.writes o₁)) i 0) (get_or (map s.source (keep s.writes o₂)) i 0)

  -- Of the fourth: if g adds to word w, it stands on the same side of the word's last 0111 in both.
  abbrev pub adder_same : ℕ → ℕ → Bool
  adder_same w g = cond (adds_to_word s w g) (beq (after_replacing s w g o₁) (after_replacing s w g o₂)) true

  -- The fourth at word w: if it has a 0111, the same last one, at the same place among all 0111s, and the same adding generators after it.
  abbrev pub word_same : ℕ → Bool
  word_same w =
      cond (some (replaces_word s w) o₁)
      (eqb (last_replacing s w o₁) (last_replacing s w o₂)
      && eqb (place_replacing s w o₁) (place_replacing s w o₂)
      && all_below (adder_same w) s.ticks)
      true

  -- How many generators write data: the length of the written list.
  abbrev pub writers_of : ℕ
  writers_of = count_below s.writes s.ticks

  -- Where each point fails first.
  unfoldable pub neighbour_point : ℕ
  neighbour_point = first_failing neighbour_same s.ticks

  unfoldable pub feeder_point : ℕ
  feeder_point = first_failing feeder_same dacs

  unfoldable pub writer_point : ℕ
  writer_point = first_failing writer_same writers_of

  unfoldable pub word_point : ℕ
  word_point = first_failing word_same quadrant_words

  -- None of the four points fails.
  unfoldable pub agrees : Bool
  agrees = eqb neighbour_point s.ticks && eqb feeder_point dacs && eqb writer_point writers_of && eqb word_point quadrant_words

  -- The generator that is to sound so that word w shows that the fourth point fails there: the last 0111 in the first order, if there is another in the second;
  -- 256, no generator's number, if that one's place among all 0111s is another; else the lowest adding one that stands on another side of it.
  unfoldable pub sounding_at : ℕ → ℕ
  sounding_at w =
      cond (not (eqb (last_replacing s w o₁) (last_replacing s w o₂))) (last_replacing s w o₁)
      (cond (not (eqb (place_replacing s w o₁) (place_replacing s w o₂))) generators
      (first_failing (adder_same w) s.ticks))

  -- The fourth point where the others hold, and the first of the four that fails.
  unfoldable pub failing_word : Failing
  failing_word =
      cond (not (eqb word_point quadrant_words)) (record { point = 4; place = word_point; sounding = sounding_at word_point })
      (record { point = 0; place = 0; sounding = 0 })

  unfoldable pub first_point : Failing
  first_point =
      cond (not (eqb neighbour_point s.ticks)) (record { point = 1; place = neighbour_point; sounding = 0 })
      (cond (not (eqb feeder_point dacs)) (record { point = 2; place = feeder_point; sounding = 0 })
      (cond (not (eqb writer_point writers_of)) (record { point = 3; place = writer_point; sounding = 0 })
      failing_word))
