-- The generators of a pass, taken in an order (document 01, "A generator" and "A pass, and two orders of it").
-- Assumes nothing.
use Rattle.std.specs.Prelude.{ℕ, suc, ◌-◌, ◌%◌, ◌^◌, Bool, true, false, cond, ◌&&◌, List, [], ◌∷◌, eqb, leb, get_or, set, drop, replicate}
use Rattle.base_words.specs.Words.{sum}
use Rattle.layout_modes.specs.Modes.{adds, replaces, write_data, write_dac}
use Rattle.generator.specs.declared.Generator.{Generator}
use Rattle.generator.specs.Generator.{loaded, stored, run_mode, p_of, triggers, after}
use Rattle.generator_old.specs.OldGenerator.{switched_mode, switched, e_of, old_p, old_after}
use Rattle.layout.specs.Layout.{generator_at, dac_at}
use Rattle.layout.specs.Machine.{Machine, Order, Items, Places, Sums}
use Rattle.layout_texts.specs.declared.Text.{Text}
use Rattle.layout_texts.specs.declared.Text.TheVariants.{Of1978, Old}
use Rattle.layout_texts.specs.Texts.{distance_of}
use Rattle.pass_sums.specs.Sums.{sum_at, put_sum, f_at}

-- What a turn brings: the generator afterwards, whether it triggers, P, whether P is added into a generator-this word or replaces it together with a
-- read item, and which word; what the generator sends, whether to a DAC and which, and whether as a written item.
pub record Contribution : Type 0 where
  pub unit : Generator
  pub triggers : Bool
  pub p : ℕ
  pub adds : Bool
  pub replaces : Bool
  pub word : ℕ
  pub sends : ℕ
  pub feeds : Bool
  pub dac : ℕ
  pub writes : Bool

-- The generators of a text: what the turn of generator g brings, by the machine's words, sum memory and whether it is told that its lower neighbour
-- triggered; and how far below it that neighbour stands.
pub record Generators : Type 0 where
  pub turn : Machine → Sums → ℕ → Bool → Contribution
  pub distance : ℕ

-- Generator g of a machine's words.
unfoldable pub generator_of : Machine → ℕ → Generator
generator_of words g = loaded (drop (generator_at g) words)

-- The turn of generator g of the 1978 text. F is the word at GFM. Step 5: 0011 sends F as a written item, 0010 to the DAC named by the low 4 bits of GO.
-- Step 9: P is added into word GSUM where the run mode adds, and in 0111 replaces it.
unfoldable pub turn1978 : Machine → Sums → ℕ → Bool → Contribution
turn1978 words sums g triggered_below =
    let u = generator_of words g in
    let f = f_at sums u.gfm in
    record {
      unit = after u f triggered_below;
      triggers = triggers u;
      p = p_of u f;
      adds = adds (run_mode u);
      replaces = replaces (run_mode u);
      word = u.gsum;
      sends = f;
      feeds = eqb (run_mode u) write_dac;
      dac = u.go % 2 ^ 4;
      writes = eqb (run_mode u) write_data;
    }

-- The turn of generator g of the older text. Step 5: 111 sends E, its own angle, as a written item where GN is negative, else to the DAC named by the low 4 bits of GN.
unfoldable pub turn_old : Machine → Sums → ℕ → Bool → Contribution
turn_old words sums g triggered_below =
    let u = generator_of words g in
    let f = f_at sums u.gfm in
    record {
      unit = old_after u f triggered_below;
      triggers = triggers (switched u);
      p = old_p u f;
      adds = adds (switched_mode u);
      replaces = replaces (switched_mode u);
      word = u.gsum;
      sends = e_of u f;
      feeds = eqb (switched_mode u) write_dac;
      dac = u.gn % 2 ^ 4;
      writes = eqb (switched_mode u) write_data;
    }

-- The turn of generator g by a text.
abbrev pub generator_turn : Text → Machine → Sums → ℕ → Bool → Contribution
generator_turn Of1978 = turn1978
generator_turn Old = turn_old

-- The generators of a text.
abbrev pub generators_of : Text → Generators
generators_of text = record { turn = generator_turn text; distance = distance_of text }

-- A pass under way: the machine's words, sum memory, whether each generator was taken and triggered, the places for written items, and how many items were read and written.
pub record State : Type 0 where
  pub words : Machine
  pub sums : Sums
  pub triggered : List Bool
  pub places : Places
  pub reads : ℕ
  pub writes : ℕ

-- Whether the lower neighbour of g was taken before and triggered. The lowest generators have none.
unfoldable pub triggered_below : ℕ → List Bool → ℕ → Bool
triggered_below distance triggered g = leb distance g && get_or triggered (g - distance) false

-- What is sent to a DAC is put there.
unfoldable pub fed : Machine → Contribution → Machine
fed words b = cond b.feeds (set words (dac_at b.dac) b.sends) words

-- P plus the read item, of which the low 20 bits count, replaces the word; or P is added into it.
unfoldable pub summed : Sums → Contribution → ℕ → Sums
summed s b item =
    cond b.replaces (put_sum s b.word (sum 20 b.p (item % 2 ^ 20)))
    (cond b.adds (put_sum s b.word (sum 20 (sum_at s b.word) b.p))
    s)

-- What generator g brings, taken from a state.
abbrev pub contribution_of : Generators → State → ℕ → Contribution
contribution_of of s g = of.turn s.words s.sums g (triggered_below of.distance s.triggered g)

-- Generator g is taken. It reads the next of some items.
unfoldable pub step : Generators → Items → State → ℕ → State
step of items s g =
    let b = contribution_of of s g in
    record {
      words = fed (stored s.words (generator_at g) b.unit) b;
      sums = summed s.sums b (get_or items s.reads 0);
      triggered = cond b.triggers (set s.triggered g true) s.triggered;
      places = cond b.writes (set s.places s.writes b.sends) s.places;
      reads = cond b.replaces (suc s.reads) s.reads;
      writes = cond b.writes (suc s.writes) s.writes;
    }

-- The generators of an order are taken one after the other.
unfoldable pub steps : Generators → Items → State → Order → State
steps of items s [] = s
steps of items s (g ∷ order) = steps of items (step of items s g) order

-- A pass begins: nothing has triggered, been read or written.
unfoldable pub begun : Machine → Sums → Places → State
begun words sums places =
    record { words = words; sums = sums; triggered = replicate 256 false; places = places; reads = 0; writes = 0 }

-- What the generators leave: all of the state but who triggered, which acts in no later stage.
pub record Taken : Type 0 where
  pub words : Machine
  pub sums : Sums
  pub places : Places
  pub reads : ℕ
  pub writes : ℕ

unfoldable pub taken_by : Generators → Items → State → Order → Taken
taken_by of items s order =
    let t = steps of items s order in
    record { words = t.words; sums = t.sums; places = t.places; reads = t.reads; writes = t.writes }
