-- What is kept beside a machine (document 02, Q-13): the counts of its generators below T that the rule of Q-2 needs, sums of these counts, and the rule's answer.
-- Assumes nothing.
use Rattle.std.specs.Prelude.{ℕ, ◌-◌, cond, ◌&&◌, eqb, leb, ltb}
use Rattle.base_lists.specs.Lists.{count_below, tabulate}
use Rattle.layout.specs.Layout.{dacs, quadrant_words}
use Rattle.layout.specs.Machine.{Machine, ticks_of, gsum_at, gfm_at}
use Rattle.layout_texts.specs.Texts.{run_mode_at, dac_number_at}
use Rattle.layout_texts.specs.declared.Text.TheVariants.{Of1978}
use Rattle.layout_modes.specs.Modes.{write_data, write_dac, adds, replaces}
use Rattle.compare_agreement.specs.Agreement.{settings_of}
use Rattle.any_order_model.specs.OrderFree.{Counts, counts_in, sources, order_free}
use Rattle.any_order_sums.specs.Places.{Kept, readers_at, adders_at, writers_at, feeders_at, others_at, all_readers_at, awaiting_at, fed_at, written_at, parted_at, shared_at, kept_length}

-- The place of generator g's kind.
unfoldable pub place_in : Machine → ℕ → ℕ
place_in m g =
    cond (replaces (run_mode_at Of1978 m g)) (readers_at (gsum_at m g))
    (cond (adds (run_mode_at Of1978 m g)) (adders_at (gsum_at m g))
    (cond (eqb (run_mode_at Of1978 m g) write_data) (writers_at (gfm_at m g))
    (cond (eqb (run_mode_at Of1978 m g) write_dac) (feeders_at (dac_number_at Of1978 m g) (gfm_at m g))
    others_at)))

-- How many generators below T are of the kind at place i.
abbrev pub kind_count : Machine → ℕ → ℕ
kind_count m i = count_below (λ g. eqb (place_in m g) i) (ticks_of m)

-- From how many sources those counted by source come.
abbrev pub sources_of : (ℕ → ℕ) → ℕ
sources_of f = count_below (λ v. ltb 0 (f v)) sources

-- The sums of counts: the DACs that are fed from more than one source; the sum words with a 0111 and an adding generator.
abbrev pub dacs_parted : Counts → ℕ
dacs_parted c = count_below (λ d. ltb 1 (sources_of (c.feeders d))) dacs

abbrev pub words_shared : Counts → ℕ
words_shared c = count_below (λ w. ltb 0 (c.readers_on w) && ltb 0 (c.adders_on w)) quadrant_words

-- The word at place i of what is kept of a machine.
unfoldable pub kept_word : Machine → ℕ → ℕ
kept_word m i =
    let c = counts_in (settings_of Of1978 m) in
    cond (leb i others_at) (kind_count m i)
    (cond (eqb i all_readers_at) c.readers
    (cond (eqb i awaiting_at) c.awaiting
    (cond (ltb i written_at) (sources_of (c.feeders (i - fed_at 0)))
    (cond (eqb i written_at) (sources_of c.writers)
    (cond (eqb i parted_at) (dacs_parted c)
    (cond (eqb i shared_at) (words_shared c)
    (cond (order_free c) 1 0)))))))

-- What is kept of a machine: the machine's own.
unfoldable pub kept_of : Machine → Kept
kept_of m = tabulate (kept_word m) 0 kept_length
