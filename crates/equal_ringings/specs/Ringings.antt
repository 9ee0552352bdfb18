-- Whole ringings by two orders (document 02, Q-14): passes one after the other by one order in all of them.
-- Assumes nothing.
use Rattle.std.specs.Prelude.{ℕ, ◌<◌, List, [], ◌∷◌, ◌≢◌, ◌≡◌}
use Rattle.layout_modes.specs.Modes.{wait, running_c}
use Rattle.layout.specs.Machine.{Machine, Order, Memory, ticks_of}
use Rattle.layout_texts.specs.Texts.{run_mode_at}
use Rattle.layout_texts.specs.declared.Text.{Text}
use Rattle.pass_laws.specs.Good.{Good}
use Rattle.pass_laws.specs.Passes.{PassData, call_of, rung_by}
use Rattle.equal_orders.specs.Equal.{SameSettings, Enough}

-- What each pass brings is enough for a machine. The order and the delay memory have no say in it.
pub data EnoughEach (text : Text) (m : Machine) : List PassData → Type 0 where
  none : EnoughEach text m []
  more : {d : PassData} {ds : List PassData} → Enough text m (call_of [] [] d) → EnoughEach text m ds → EnoughEach text m (d ∷ ds)

-- No generator below T is in 1001 or 1101; in the older text, in one that is switched as these.
abbrev pub NoneWaits : Text → Machine → Type 0
NoneWaits text m = (g : ℕ) → g < ticks_of m → (run_mode_at text m g ≢ wait) × (run_mode_at text m g ≢ running_c)

-- Two orders are equal throughout: from every machine with these settings that passes questions 1 and 2, over every delay memory, every list of passes
-- that bring enough leaves the same machine, the same delay memory and the same written data of each pass, whichever of the two is used in all of them.
abbrev pub EqualThroughout : Text → Machine → Order → Order → Type 0
EqualThroughout text m o₁ o₂ =
    (n : Machine) → Good text n → SameSettings text m n → (memory : Memory) (ds : List PassData) → EnoughEach text n ds → rung_by text o₁ n memory ds ≡ rung_by text o₂ n memory ds
