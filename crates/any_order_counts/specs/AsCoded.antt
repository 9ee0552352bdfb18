-- The generators counted, one put in or taken out at a time, whatever the words are. From a machine's own words this gives the own ones of the machine
-- as it then is (the claim `change-own`), so readers need only `kept_of`. Assumes nothing.
use Rattle.std.specs.Prelude.{ℕ, zero, suc, ◌+◌, ◌<◌, ◌≤◌, Bool, true, cond, ◌&&◌, ltb}
use Rattle.base_lists.specs.Lists.{zeros}
use Rattle.layout.specs.Layout.{generators, quadrant_words}
use Rattle.layout.specs.Machine.{Machine, Reaches, ticks_of, gsum_at, gfm_at}
use Rattle.layout_texts.specs.Texts.{run_mode_at}
use Rattle.layout_texts.specs.declared.Text.TheVariants.{Of1978}
use Rattle.layout_modes.specs.Modes.{replaces}
use Rattle.compare_agreement.specs.Agreement.{settings_of, awaits}
use Rattle.any_order_model.specs.OrderFree.{sources}
use Rattle.any_order_sums.specs.Places.{Kept, all_readers_at, awaiting_at, kept_length}
use Rattle.any_order_sums.specs.AsCoded.{moved_if, kind_moved}
use Rattle.any_order_counts.specs.Kept.{place_in}

-- A machine whose generators can be counted; one that passes questions 1 and 2 is.
pub record Countable (m : Machine) : Type 0 where
  pub reaches : Reaches m
  pub ticks : ticks_of m ≤ generators
  pub gsums : (g : ℕ) → g < generators → gsum_at m g < quadrant_words
  pub gfms : (g : ℕ) → g < generators → gfm_at m g < sources

-- Whether generator g has an upper neighbour below t that waits for it.
abbrev pub awaited : Machine → ℕ → ℕ → Bool
awaited m t g = ltb (g + 1) t && awaits (settings_of Of1978 m) (g + 1)

-- Generator g is put in or taken out at its kind's place, among all 0111s if it is one, and with the pair below it.
abbrev pub role_moved : Bool → Machine → Kept → ℕ → Kept
role_moved up m k g =
    let kind = kind_moved up k (place_in m g) in
    let read = moved_if (replaces (run_mode_at Of1978 m g)) up kind all_readers_at in
    moved_if (awaits (settings_of Of1978 m) g) up read awaiting_at

-- Of the t first ones also with the pair above it.
unfoldable pub generator_moved : Bool → Machine → ℕ → Kept → ℕ → Kept
generator_moved up m t k g = moved_if (awaited m t g) up (role_moved up m k g) awaiting_at

-- The same where it is below T; one from T on counts for nothing.
unfoldable pub counted_moved : Bool → Machine → Kept → ℕ → Kept
counted_moved up m k g = cond (ltb g (ticks_of m)) (generator_moved up m (ticks_of m) k g) k

-- The n generators from a number on are put in or taken out, one after the other.
unfoldable pub roles_moved : Bool → Machine → Kept → ℕ → ℕ → Kept
roles_moved up m k from zero = k
roles_moved up m k from (suc n) = role_moved up m (roles_moved up m k from n) (from + n)

-- The generators below n are put in.
abbrev pub counted_to : Machine → ℕ → Kept
counted_to m n = roles_moved true m (zeros kept_length) 0 n
