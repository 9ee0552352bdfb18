-- What the comparison of two orders asks of the generators of a text on a machine: what each brings is as the settings say.
-- What the generators of a pass leave, said of the machine as the pass began, of its settings and of the order: each generator is taken once, and what it brings does not depend on the others but for what it is told.
-- Assumes nothing.
use Rattle.std.specs.Prelude.{ℕ, ◌+◌, ◌^◌, ◌≤◌, ◌<◌, ◌-◌, ◌%◌, Bool, true, false, ◌&&◌, cond, [], map, ◌≡◌, eqb, leb, length, get_or}
use Rattle.layout.specs.Layout.{machine_length, generator_words, generator_at, quadrant_at, dac_at}
use Rattle.layout.specs.Widths.{word_bits}
use Rattle.layout.specs.Machine.{Machine, Sums, Order, Items, Places}
use Rattle.pass_sums.specs.Sums.{generator_this, generator_last, modifier_last, sums_of, sum_at}
use Rattle.pass_model.specs.Generators.{Contribution, Generators, Taken, begun, taken_by}
use Rattle.compare_agreement.specs.Agreement.{Settings, replaces_word, adds_to_word, last_replacing, place_replacing, after_replacing}
use Rattle.std.proofs.lemmas.List.Edits.{sets}
use Rattle.pass_laws.specs.AsCoded.{RegistersOf}
use Rattle.base_sequences.specs.Sequences.{keep, some, before, latest, total}

-- What the turn of generator g brings on a machine as a pass begins; and of what it brings P, what it sends and whether it triggers.
abbrev pub turn_at : Generators → Machine → ℕ → Bool → Contribution
turn_at of m g triggered_below = of.turn m (sums_of m) g triggered_below

abbrev pub p_at : Generators → Machine → ℕ → ℕ
p_at of m g = (turn_at of m g false).p

abbrev pub sends_at : Generators → Machine → ℕ → ℕ
sends_at of m g = (turn_at of m g false).sends

abbrev pub triggers_at : Generators → Machine → ℕ → Bool
triggers_at of m g = (turn_at of m g false).triggers

-- The words of generator g are the same in two machines.
pub record SameWords (l m : Machine) (g : ℕ) : Type 0 where
  pub each : (j : ℕ) → j < generator_words → get_or l (generator_at g + j) 0 ≡ get_or m (generator_at g + j) 0

-- Both last quadrants are the same in two sum memories.
pub record SameLast (s t : Sums) : Type 0 where
  pub generators : get_or s generator_last [] ≡ get_or t generator_last []
  pub modifiers : get_or s modifier_last [] ≡ get_or t modifier_last []

-- What generator g brings is as the settings say, and what it is told acts on its registers alone, where it waits.
pub record TurnFollows (of : Generators) (s : Settings) (m : Machine) (g : ℕ) : Type 0 where
  pub feeds : (triggered_below : Bool) (d : ℕ) → ((turn_at of m g triggered_below).feeds && eqb (turn_at of m g triggered_below).dac d) ≡ s.feeds d g
  pub writes : (triggered_below : Bool) → (turn_at of m g triggered_below).writes ≡ s.writes g
  pub word : (triggered_below : Bool) (w : ℕ) → eqb (turn_at of m g triggered_below).word w ≡ s.on_word w g
  pub replaces : (triggered_below : Bool) → (turn_at of m g triggered_below).replaces ≡ s.replacing g
  pub adds : (triggered_below : Bool) → (turn_at of m g triggered_below).adds ≡ s.adding g
  pub p : (triggered_below : Bool) → (turn_at of m g triggered_below).p ≡ p_at of m g
  pub sends : (triggered_below : Bool) → (turn_at of m g triggered_below).sends ≡ sends_at of m g
  pub triggers : (triggered_below : Bool) → (turn_at of m g triggered_below).triggers ≡ triggers_at of m g
  pub unit : s.waits g ≡ false → (triggered_below : Bool) → (turn_at of m g triggered_below).unit ≡ (turn_at of m g false).unit
  pub triggering : triggers_at of m g ≡ true → s.triggering g ≡ true
  pub p-low : p_at of m g < 2 ^ word_bits
  pub alone : s.replacing g ≡ true → s.adding g ≡ false

-- The generators of a text follow settings on a machine: a turn depends on its generator's own words and the last quadrants, it is as the settings say,
-- and generators with one source send alike.
pub record Follows (of : Generators) (s : Settings) (m : Machine) : Type 0 where
  pub own : (l n : Machine) (t u : Sums) (g : ℕ) (triggered_below : Bool) → SameWords l n g → SameLast t u → of.turn l t g triggered_below ≡ of.turn n u g triggered_below
  pub dac-low : (l : Machine) (t : Sums) (g : ℕ) (triggered_below : Bool) → (of.turn l t g triggered_below).dac < 16
  pub distance : of.distance ≡ s.distance
  pub whole : length m ≡ machine_length
  pub few : s.ticks ≤ 256
  pub this-low : (w : ℕ) → w < 64 → get_or m (quadrant_at generator_this + w) 0 < 2 ^ word_bits
  pub turns : (g : ℕ) → g < s.ticks → TurnFollows of s m g
  pub source : (a b : ℕ) → a < s.ticks → b < s.ticks → s.source a ≡ s.source b → sends_at of m a ≡ sends_at of m b

module _ (of : Generators) (m : Machine) where
  -- Whether generator g is told in a pass by an order: its lower neighbour triggers and stands before it.
  unfoldable pub triggered_below_in : Order → ℕ → Bool
  triggered_below_in order g = leb of.distance g && (triggers_at of m (g - of.distance) && before (g - of.distance) g order)

  -- What the generators of an order leave.
  abbrev pub taken_in : Items → Places → Order → Taken
  taken_in items places order = taken_by of items (begun m (sums_of m) places) order

  module _ (s : Settings) where
    -- Generator-this word w after them: what its last replacing one brought plus the adding ones after it; or, with none, what was there plus all adding ones.
    unfoldable pub word_after : Items → Order → ℕ → ℕ
    word_after items order w =
        cond (some (replaces_word s w) order)
        ((p_at of m (last_replacing s w order) + get_or items (place_replacing s w order) 0 % 2 ^ word_bits
        + total (λ g. cond (adds_to_word s w g && after_replacing s w g order) (p_at of m g) 0) order)
        % 2 ^ word_bits)
        ((sum_at (sums_of m) w + total (λ g. cond (adds_to_word s w g) (p_at of m g) 0) order) % 2 ^ word_bits)

    -- All that they leave where they change something.
    pub record StageEnds (items : Items) (places : Places) (order : Order) (t : Taken) : Type 0 where
      pub own : (g : ℕ) → g < s.ticks → RegistersOf t.words g (turn_at of m g (triggered_below_in order g)).unit
      pub dac : (d : ℕ) → d < 16 → get_or t.words (dac_at d) 0 ≡ latest (s.feeds d) (sends_at of m) order (get_or m (dac_at d) 0)
      pub sum : (w : ℕ) → w < 64 → get_or (get_or t.sums generator_this []) w 0 ≡ word_after items order w
      pub sent : t.places ≡ sets places 0 (map (sends_at of m) (keep s.writes order))
      pub reads : t.reads ≡ length (keep s.replacing order)
      pub writes : t.writes ≡ length (keep s.writes order)

-- Two stages leave the same.
pub record SameTaken (t u : Taken) : Type 0 where
  pub words : t.words ≡ u.words
  pub sums : t.sums ≡ u.sums
  pub places : t.places ≡ u.places
  pub reads : t.reads ≡ u.reads
  pub writes : t.writes ≡ u.writes
