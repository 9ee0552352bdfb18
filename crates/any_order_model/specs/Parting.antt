-- Where not every order leaves the same: two generators whose sequence tells, and two orders that differ only in it.
-- Assumes nothing.
use Rattle.std.specs.Prelude.{ℕ, ◌+◌, Bool, not, ◌&&◌, ◌||◌, [], ◌∷◌, ◌++◌, eqb, ltb}
use Rattle.layout.specs.Layout.{dacs, quadrant_words}
use Rattle.layout.specs.Machine.{Order}
use Rattle.base_sequences.specs.Sequences.{by_number, keep, first_failing}
use Rattle.compare_agreement.specs.Agreement.{Settings, awaits, replaces_word, adds_to_word}

-- Some number below n passes a test.
abbrev pub some_below : (ℕ → Bool) → ℕ → Bool
some_below p n = ltb (first_failing (λ k. not (p k)) n) n

module _ (s : Settings) where
  -- h waits for g, its lower neighbour, which can trigger.
  abbrev pub waits_for : ℕ → ℕ → Bool
  waits_for g h = awaits s h && eqb (s.distance + g) h

  -- They feed one DAC, or write data, from two sources.
  abbrev pub send_apart : ℕ → ℕ → Bool
  send_apart g h = not (eqb (s.source g) (s.source h)) && (some_below (λ d. s.feeds d g && s.feeds d h) dacs || (s.writes g && s.writes h))

  -- They are two 0111s.
  abbrev pub both_replace : ℕ → ℕ → Bool
  both_replace g h = not (eqb g h) && s.replacing g && s.replacing h

  -- g replaces a word to which h adds.
  abbrev pub replaces_under : ℕ → ℕ → Bool
  replaces_under g h = some_below (λ w. replaces_word s w g && adds_to_word s w h) quadrant_words

  -- The sequence of g and h tells.
  unfoldable pub tells : ℕ → ℕ → Bool
  tells g h = waits_for g h || send_apart g h || both_replace g h || replaces_under g h

  -- The lowest generator whose sequence with h tells, and the lowest h that has one; T where there is none.
  unfoldable pub partner_of : ℕ → ℕ
  partner_of h = first_failing (λ g. not (tells g h)) s.ticks

  unfoldable pub later_of : ℕ
  later_of = first_failing (λ h. not (ltb (partner_of h) s.ticks)) s.ticks

-- The order by number, but with g and then h at its end.
unfoldable pub ending_with : ℕ → ℕ → ℕ → Order
ending_with t g h = keep (λ k. not (eqb k g || eqb k h)) (by_number t) ++ (g ∷ h ∷ [])

-- Two orders.
pub record Orders : Type 0 where
  pub first : Order
  pub second : Order

-- Two orders that part where not every order leaves the same: they end with the two generators, in one sequence and in the other.
unfoldable pub parting_orders : Settings → Orders
parting_orders s =
    let h = later_of s in
    let g = partner_of s h in
    record { first = ending_with s.ticks g h; second = ending_with s.ticks h g }
