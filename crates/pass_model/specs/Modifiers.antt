-- The modifiers of a pass, taken by number (document 01, "A modifier" and "A pass, and two orders of it").
-- Assumes nothing.
use Rattle.std.specs.Prelude.{ℕ, zero, suc, ◌+◌, ◌-◌, ◌/◌, ◌%◌, Bool, false, cond, ◌&&◌, List, [], ◌∷◌, ◌++◌, eqb, get_or, set, take, drop}
use Rattle.base_words.specs.Words.{sum}
use Rattle.modifier.specs.declared.Modifier.{Modifier}
use Rattle.modifier.specs.declared.Turned.{Turned}
use Rattle.modifier.specs.Modifier.{loaded, stored, function_of}
use Rattle.modifier_turn.specs.Turn.{turn_of, reads_late}
use Rattle.modifier_old.specs.OldTurn.{old_turn_of, old_reads_late}
use Rattle.modifier_delay.specs.Invoke.{invoking, unit_of}
use Rattle.delay.specs.Delay.{runs, due, stored as stored_delay, delay_turn_of as delay_turn}
use Rattle.delay_questions.specs.Questions.{delay_of}
use Rattle.layout.specs.Layout.{modifier_at, delay_at}
use Rattle.layout.specs.Machine.{Machine, Memory, Sums}
use Rattle.layout_texts.specs.declared.Text.{Text}
use Rattle.layout_texts.specs.declared.Text.TheVariants.{Of1978, Old}
use Rattle.pass_sums.specs.Sums.{generator_last, modifier_this, modifier_last, word_at}

-- What a modifier writes into modifier-this: S, at MSUM.
pub record Write : Type 0 where
  pub msum : ℕ
  pub s : ℕ

-- A write on the modifier-this quadrant: added into word MSUM mod 64, or replacing it if MSUM's top bit is 1.
unfoldable pub with_write : List ℕ → Write → List ℕ
with_write q w =
    let i = w.msum % 64 in
    set q i (cond (eqb (w.msum / 64) 0) (sum 20 (word_at q i) w.s) w.s)

-- With writes, one after the other.
unfoldable pub with_writes : List ℕ → List Write → List ℕ
with_writes q [] = q
with_writes q (w ∷ ws) = with_writes (with_write q w) ws

-- How far below its reader the last modifier stands whose write is seen: in a late read, and in an early one.
abbrev pub late_lag : ℕ
late_lag = 1

abbrev pub early_lag : ℕ
early_lag = 4

-- What modifier m sees of modifier-this, q as the stage began, by the writes of modifiers 0 to m-1: those up to m-1, and those up to m-4.
unfoldable pub late_view : List ℕ → ℕ → List Write → List ℕ
late_view q m writes = with_writes q (take (m + 1 - late_lag) writes)

unfoldable pub early_view : List ℕ → ℕ → List Write → List ℕ
early_view q m writes = with_writes q (take (m + 1 - early_lag) writes)

-- The word that MIN or MRM names: top bits 00 generator-last, 01 modifier-last, 10 modifier-this as the modifier sees it.
unfoldable pub seen : Sums → List ℕ → ℕ → ℕ
seen s view address =
    cond (eqb (address / 64) 0b00) (word_at (get_or s generator_last []) (address % 64))
    (cond (eqb (address / 64) 0b01) (word_at (get_or s modifier_last []) (address % 64))
    (word_at view (address % 64)))

-- What the delay unit that a modifier names gives it in a pass of T processing ticks: the word that is due, and 0 from a unit that acts as inactive.
unfoldable pub given : ℕ → Machine → Modifier → ℕ
given t words u =
    let d = delay_of words (unit_of u) in
    cond (runs t (unit_of u) d) (due d) 0

-- A modifier's turn by a text, with its A and the word beside it; whether a function reads A late; whether a modifier invokes a delay unit: in the older text none does.
abbrev pub modifier_turn : Text → Modifier → ℕ → ℕ → Turned
modifier_turn Of1978 = turn_of
modifier_turn Old = old_turn_of

abbrev pub modifier_reads_late : Text → ℕ → Bool
modifier_reads_late Of1978 = reads_late
modifier_reads_late Old = old_reads_late

abbrev pub invokes_delay : Text → Modifier → Bool
invokes_delay Of1978 = invoking
invokes_delay Old = λ u. false

-- The word that a modifier's turn takes beside A: B, which sees the early view; where it invokes a delay unit and B isn't read, the word that the unit gives.
unfoldable pub second_input : Text → ℕ → Machine → Sums → List ℕ → Modifier → ℕ
second_input text t words s early u = cond (invokes_delay text u) (given t words u) (seen s early u.mrm)

-- A modifier's turn: A sees the late view or the early one by the function.
unfoldable pub turn_seen : Text → ℕ → Machine → Sums → List ℕ → List ℕ → Modifier → Turned
turn_seen text t words s early late u = modifier_turn text u (seen s (cond (modifier_reads_late text (function_of u)) late early) u.min) (second_input text t words s early u)

-- Modifier m of a machine's words.
unfoldable pub modifier_of : Machine → ℕ → Modifier
modifier_of words m = loaded (drop (modifier_at m) words)

-- A machine's words and delay memory.
pub record Held : Type 0 where
  pub words : Machine
  pub memory : Memory

-- The turn of the delay unit that a modifier names, with a word from it: none unless the modifier invokes it and it doesn't act as inactive.
unfoldable pub delayed : Text → ℕ → Held → Modifier → ℕ → Held
delayed text t h u w =
    let d = delay_of h.words (unit_of u) in
    let a = delay_turn d h.memory w in
    cond (invokes_delay text u && runs t (unit_of u) d) (record { words = stored_delay h.words (delay_at (unit_of u)) a.unit; memory = a.memory }) h

-- The stage under way: the machine's words and delay memory, and the writes so far.
pub record Stage : Type 0 where
  pub held : Held
  pub writes : List Write

-- Modifier m is taken, in a pass of T processing ticks: its own turn, then that of its delay unit with the word that goes to it, L1 afterwards.
unfoldable pub modify : Text → ℕ → Sums → Stage → ℕ → Stage
modify text t s v m =
    let q = get_or s modifier_this [] in
    let words = v.held.words in
    let u = modifier_of words m in
    let turn = turn_seen text t words s (early_view q m v.writes) (late_view q m v.writes) u in
    record {
      held = delayed text t (record { words = stored words (modifier_at m) turn.unit; memory = v.held.memory }) u turn.unit.l1;
      writes = v.writes ++ (record { msum = u.msum; s = turn.s } ∷ []);
    }

-- Modifiers 0 to n-1 are taken, on a machine's words, delay memory and sum memory.
unfoldable pub modified : Text → ℕ → Held → Sums → ℕ → Stage
modified text t h s zero = record { held = h; writes = [] }
modified text t h s (suc n) = modify text t s (modified text t h s n) n

-- What the stage leaves: the machine's words and delay memory, and modifier-this.
pub record Modified : Type 0 where
  pub held : Held
  pub this : List ℕ

unfoldable pub modified_by : Text → ℕ → Held → Sums → ℕ → Modified
modified_by text t h s n =
    let v = modified text t h s n in
    record { held = v.held; this = with_writes (get_or s modifier_this []) v.writes }
