-- What the trace of an order holds of it: after each entry of what the entries so far leave, so at the end of the whole order.
-- Assumes nothing.
use mathlib.Core.Path.{◌≡◌, refl, sym, ap, ◌∙◌}
use mathlib.Core.Bool.{Bool, true, false, cond, ◌&&◌, and_comm}
use mathlib.Core.List.{List, map}
use Prim.Native.Nat.{ℕ, zero, suc, ◌+◌, ◌≤◌, ◌<◌}
use native.Mathlib.Omega.{arith}
use native.Mathlib.Numerals.{add-one}
use borrow.Author.Tests.{eqb-true, eqb-false}
use lib.Dec.{eqb}
use lib.ListN.{length, get_or, set, drop, length-set}
use lib.Seq.{drop-cons, get_or-set_same, get_or-set_other}
use Rattle.base_lists.specs.Lists.{count_below}
use Rattle.base_lists.proofs.Zeros.{zeros-length, zeros-at}
use Rattle.layout.specs.Layout.{generators, quadrant_words, dacs}
use Rattle.layout.specs.Machine.{Machine, Order, ticks_of, gsum_at}
use Rattle.layout_texts.specs.Texts.{run_mode_at, dac_number_at}
use Rattle.layout_texts.specs.declared.Text.{Text}
use Rattle.layout_texts.specs.Texts.{source_at}
use Rattle.layout_texts.proofs.Dacs.{dac-low}
use Rattle.layout_modes.specs.Modes.{read_data, write_data, write_dac}
use Rattle.layout_modes.proofs.RunModes.{replaces-is}
use Rattle.base_sequences.specs.Sequences.{keep, place_of, latest}
use Rattle.base_sequences.proofs.Places.{place_inside}
use Rattle.base_sequences.proofs.Orders.{length-keep}
use Rattle.base_sequences.proofs.Loops.{kept_next, kept-past, kept-end}
use Rattle.pass_order.specs.Order.{IsOrder}
use Rattle.compare_agreement.specs.Agreement.{settings_of, replaces_word}
use Rattle.compare_traces.specs.declared.Replaced.{Replaced}
use Rattle.compare_traces.specs.declared.Trace.{Trace}
use Rattle.compare_traces.specs.AsCoded.{Traceable, untraced, replaced_by, trace_step, trace_from, trace_of}
use Rattle.compare_traces.proofs.Steps.{traced-all}
use Rattle.compare_traces.proofs.Arrays.{set-where, length-set-where, map-inside, latest-next, latest-end, kept-place, placed-next}

-- A word's 0111s, as the code asks for them.
replaces-word : (text : Text) (m : Machine) (w g : ℕ) → replaces_word (settings_of text m) w g ≡ (eqb (run_mode_at text m g) read_data && eqb (gsum_at m g) w)
replaces-word text m w g = rw (replaces-is (run_mode_at text m g)) (and_comm (eqb (gsum_at m g) w) (eqb (run_mode_at text m g) read_data))

-- The place of a generator among the 0111s of an order.
abbrev pub place_among : (text : Text) → Machine → Order → ℕ → ℕ
place_among text m order g = place_of g (keep (settings_of text m).replacing order)

-- What a trace holds of the first i entries of an order, with what is left.
record Walked (text : Text) (m : Machine) (order : Order) (i : ℕ) (t : Trace) : Type 0 where
  pub place-length : length t.place ≡ generators
  pub fed-length : length t.fed ≡ dacs
  pub written-length : length t.written ≡ generators
  pub last-length : length t.replaced.last ≡ quadrant_words
  pub among-length : length t.replaced.among ≡ quadrant_words
  pub writes-low : t.counts.writes ≤ i
  pub places : (g : ℕ) → place_of g order < i → get_or t.place g 0 ≡ place_of g order
  pub feeders : (d : ℕ) → d < dacs
      → latest ((settings_of text m).feeds d) (settings_of text m).source (drop i order) (get_or t.fed d 0) ≡ latest ((settings_of text m).feeds d) (settings_of text m).source order 0
  pub kept-writers : keep (settings_of text m).writes (drop i order) ≡ drop t.counts.writes (keep (settings_of text m).writes order)
  pub writers-most : t.counts.writes ≤ length (keep (settings_of text m).writes order)
  pub sources : (k : ℕ) → k < t.counts.writes → get_or t.written k 0 ≡ get_or (map (settings_of text m).source (keep (settings_of text m).writes order)) k 0
  pub kept-readers : keep (settings_of text m).replacing (drop i order) ≡ drop t.counts.reads (keep (settings_of text m).replacing order)
  pub lasts : (w : ℕ) → w < quadrant_words
      → latest (replaces_word (settings_of text m) w) suc (drop i order) (get_or t.replaced.last w 0) ≡ latest (replaces_word (settings_of text m) w) suc order 0
  pub among : (w : ℕ) → w < quadrant_words
      → latest (replaces_word (settings_of text m) w) (place_among text m order) (drop i order) (get_or t.replaced.among w 0)
      ≡ latest (replaces_word (settings_of text m) w) (place_among text m order) order 0

-- None yet.
walked_none : (text : Text) (m : Machine) (order : Order) → Walked text m order 0 untraced
unfolding untraced
walked_none text m order =
    record {
      place-length = zeros-length generators;
      fed-length = zeros-length dacs;
      written-length = zeros-length generators;
      last-length = zeros-length quadrant_words;
      among-length = zeros-length quadrant_words;
      writes-low = omega arith;
      places = λ g h. absurd (omega arith);
      feeders = λ d h. rw (zeros-at dacs d h);
      kept-writers = refl;
      writers-most = omega arith;
      sources = λ k h. absurd (omega arith);
      kept-readers = refl;
      lasts = λ w h. rw (zeros-at quadrant_words w h);
      among = λ w h. rw (zeros-at quadrant_words w h);
    }

-- One entry more.
module _ (text : Text) (m : Machine) (order : Order) (i : ℕ) (ready : Traceable m) (o : IsOrder (ticks_of m) order) (inside : i < length order) where
  low : get_or order i 0 < generators
  low = omega (arith, o.below i inside, ready.ticks)

  -- One more entry that passes a test, where n of them stand before it.
  next-kept : (p : ℕ → Bool) (n : ℕ) → keep p (drop i order) ≡ drop n (keep p order)
      → keep p (drop (i + 1) order) ≡ drop (cond (p (get_or order i 0)) (n + 1) n) (keep p order)
  next-kept p n e = go (p (get_or order i 0)) refl
    where
      go : (b : Bool) → p (get_or order i 0) ≡ b → keep p (drop (i + 1) order) ≡ drop (cond b (n + 1) n) (keep p order)
      go true q = rw (add-one n) (kept_next p order i n e inside q).left
      go false q = kept-past p order i n e inside q

  next-most : (p : ℕ → Bool) (n : ℕ) → keep p (drop i order) ≡ drop n (keep p order) → n ≤ length (keep p order)
      → cond (p (get_or order i 0)) (n + 1) n ≤ length (keep p order)
  next-most p n e l = go (p (get_or order i 0)) refl
    where
      go : (b : Bool) → p (get_or order i 0) ≡ b → cond b (n + 1) n ≤ length (keep p order)
      go true q = omega (arith, (kept_next p order i n e inside q).inside)
      go false q = l

  next_low : (b : Bool) (n : ℕ) → n ≤ i → cond b (n + 1) n ≤ i + 1
  next_low true n l = omega arith
  next_low false n l = omega arith

  next-sources : (p : ℕ → Bool) (f : ℕ → ℕ) (n : ℕ) (held : List ℕ) → keep p (drop i order) ≡ drop n (keep p order) → n < length held
      → ((k : ℕ) → k < n → get_or held k 0 ≡ get_or (map f (keep p order)) k 0)
      → (k : ℕ) → k < cond (p (get_or order i 0)) (n + 1) n
      → get_or (cond (p (get_or order i 0)) (set held n (f (get_or order i 0))) held) k 0 ≡ get_or (map f (keep p order)) k 0
  next-sources p f n held e l s k h = go (p (get_or order i 0)) refl h
    where
      here : p (get_or order i 0) ≡ true → get_or (map f (keep p order)) n 0 ≡ f (get_or order i 0)
      here q =
          let x = kept_next p order i n e inside q in
          map-inside f (keep p order) n x.inside ∙ ap f x.here

      go : (b : Bool) → p (get_or order i 0) ≡ b → k < cond b (n + 1) n
          → get_or (cond b (set held n (f (get_or order i 0))) held) k 0 ≡ get_or (map f (keep p order)) k 0
      go true q h = by_place (eqb k n) refl
        where
          by_place : (c : Bool) → eqb k n ≡ c → get_or (set held n (f (get_or order i 0))) k 0 ≡ get_or (map f (keep p order)) k 0
          by_place true d = rw (eqb-true k n d, get_or-set_same held n (f (get_or order i 0)) 0 l) (sym (here q))
          by_place false d =
              rw (get_or-set_other held n k (f (get_or order i 0)) 0 (eqb-false k n d)) (s k (omega (arith, eqb-false k n d)))
      go false q h = s k h

  next-latest : (p : ℕ → Bool) (f : ℕ → ℕ) {u : ℕ} (v : ℕ) → u ≡ cond (p (get_or order i 0)) (f (get_or order i 0)) v
      → latest p f (drop i order) v ≡ latest p f order 0 → latest p f (drop (i + 1) order) u ≡ latest p f order 0
  next-latest p f v e l = rw e (latest-next p f order i v inside ∙ l)

  -- The arrays of the last 0111s, each by itself.
  last-by : (b : Bool) (g n : ℕ) (r : Replaced) → (cond b (replaced_by m g n r) r).last ≡ cond b (set r.last (gsum_at m g) (g + 1)) r.last
  last-by true g n r = refl
  last-by false g n r = refl

  among-by : (b : Bool) (g n : ℕ) (r : Replaced) → (cond b (replaced_by m g n r) r).among ≡ cond b (set r.among (gsum_at m g) n) r.among
  among-by true g n r = refl
  among-by false g n r = refl

  module _ (t : Trace) (w : Walked text m order i t) where
    -- The generator, the trace with it, and whether it reads data.
    abbrev g : ℕ
    g = get_or order i 0

    abbrev u : Trace
    u = trace_step text m i (get_or order i 0) t

    abbrev reads : Bool
    reads = eqb (run_mode_at text m (get_or order i 0)) read_data

    last-is : u.replaced.last ≡ cond reads (set t.replaced.last (gsum_at m g) (g + 1)) t.replaced.last
    unfolding trace_step
    last-is = last-by reads g t.counts.reads t.replaced

    among-is : u.replaced.among ≡ cond reads (set t.replaced.among (gsum_at m g) t.counts.reads) t.replaced.among
    unfolding trace_step
    among-is = among-by reads g t.counts.reads t.replaced

    next_last : (k : ℕ) → get_or u.replaced.last k 0 ≡ cond (replaces_word (settings_of text m) k g) (suc g) (get_or t.replaced.last k 0)
    next_last k =
        rw (last-is, replaces-word text m k g, ← (add-one g))
        (set-where reads t.replaced.last (gsum_at m g) (g + 1) k (rw w.last-length (ready.gsums g low)))

    next-among : (k : ℕ) → get_or u.replaced.among k 0 ≡ cond (replaces_word (settings_of text m) k g) (place_among text m order g) (get_or t.replaced.among k 0)
    next-among k =
        rw (among-is, replaces-word text m k g)
        (set-where reads t.replaced.among (gsum_at m g) t.counts.reads k (rw w.among-length (ready.gsums g low))
        ∙ go reads refl)
      where
        go : (b : Bool) → reads ≡ b
            → cond (b && eqb (gsum_at m g) k) t.counts.reads (get_or t.replaced.among k 0)
            ≡ cond (b && eqb (gsum_at m g) k) (place_among text m order g) (get_or t.replaced.among k 0)
        go true q =
            rw (kept-place (ticks_of m) order o i inside (settings_of text m).replacing t.counts.reads w.kept-readers
            (replaces-is (run_mode_at text m g) ∙ q))
        go false q = refl

    walked_next : Walked text m order (i + 1) (trace_step text m i (get_or order i 0) t)
    unfolding trace_step
    walked_next =
        record {
          place-length = length-set t.place g i ∙ w.place-length;
          fed-length = length-set-where (eqb (run_mode_at text m g) write_dac) t.fed (dac_number_at text m g) (source_at text m g) ∙ w.fed-length;
          written-length = length-set-where (eqb (run_mode_at text m g) write_data) t.written t.counts.writes (source_at text m g) ∙ w.written-length;
          last-length = rw last-is (length-set-where reads t.replaced.last (gsum_at m g) (g + 1) ∙ w.last-length);
          among-length = rw among-is (length-set-where reads t.replaced.among (gsum_at m g) t.counts.reads ∙ w.among-length);
          writes-low = next_low (eqb (run_mode_at text m g) write_data) t.counts.writes w.writes-low;
          places = placed-next (ticks_of m) order o i inside t.place (rw w.place-length low) w.places;
          feeders = λ d h. next-latest ((settings_of text m).feeds d) (settings_of text m).source (get_or t.fed d 0)
              (set-where (eqb (run_mode_at text m g) write_dac) t.fed (dac_number_at text m g) (source_at text m g) d (rw w.fed-length dac))
              (w.feeders d h);
          kept-writers = next-kept (settings_of text m).writes t.counts.writes w.kept-writers;
          writers-most = next-most (settings_of text m).writes t.counts.writes w.kept-writers w.writers-most;
          sources = next-sources (settings_of text m).writes (settings_of text m).source t.counts.writes t.written w.kept-writers fits w.sources;
          kept-readers = rw (← (replaces-is (run_mode_at text m g))) (next-kept (settings_of text m).replacing t.counts.reads w.kept-readers);
          lasts = λ k h. next-latest (replaces_word (settings_of text m) k) suc (get_or t.replaced.last k 0) (next_last k) (w.lasts k h);
          among = λ k h. next-latest (replaces_word (settings_of text m) k) (place_among text m order) (get_or t.replaced.among k 0) (next-among k) (w.among k h);
        }
      where
        dac : dac_number_at text m g < dacs
        dac = dac-low text m g

        fits : t.counts.writes < length t.written
        fits = omega (arith, w.written-length, w.writes-low, o.entries, ready.ticks)

-- All entries from place i on.
module _ (text : Text) (m : Machine) (order : Order) (ready : Traceable m) (o : IsOrder (ticks_of m) order) where
  walked_from : (k i : ℕ) (t : Trace) → k + i ≡ length order → Walked text m order i t → Walked text m order (length order) (trace_from text m i (drop i order) t)
  unfolding trace_from
  walked_from zero i t e w =
      let end : length order ≡ i = omega arith in
      rw (traced-all text m order i t (omega arith), end) w
  walked_from (suc k) i t e w =
      let inside : i < length order = omega arith in
      rw (drop-cons order i 0 inside)
      (walked_from k (suc i) (trace_step text m i (get_or order i 0) t) (omega arith) (rw (add-one i) at (walked_next text m order i ready o inside t w)))

-- What a trace of an order holds: places, last feeders, sources of the written data and how many they are, last 0111s and their places among all.
pub record Holds (text : Text) (m : Machine) (order : Order) (t : Trace) : Type 0 where
  pub place : (g : ℕ) → g < ticks_of m → get_or t.place g 0 ≡ place_of g order
  pub feeder : (d : ℕ) → d < dacs → get_or t.fed d 0 ≡ latest ((settings_of text m).feeds d) (settings_of text m).source order 0
  pub writers : t.counts.writes ≡ count_below (settings_of text m).writes (ticks_of m)
  pub source : (i : ℕ) → i < t.counts.writes → get_or t.written i 0 ≡ get_or (map (settings_of text m).source (keep (settings_of text m).writes order)) i 0
  pub last : (w : ℕ) → w < quadrant_words → get_or t.replaced.last w 0 ≡ latest (replaces_word (settings_of text m) w) suc order 0
  pub among : (w : ℕ) → w < quadrant_words → get_or t.replaced.among w 0 ≡ latest (replaces_word (settings_of text m) w) (place_among text m order) order 0

holds-all : (text : Text) (m : Machine) (order : Order) (t : Trace) → IsOrder (ticks_of m) order → Walked text m order (length order) t → Holds text m order t
holds-all text m order t o w =
    record {
      place = λ g h. w.places g (place_inside g order (omega (arith, o.once g h)));
      feeder = λ d h. sym (latest-end ((settings_of text m).feeds d) (settings_of text m).source order (length order) (get_or t.fed d 0) end) ∙ w.feeders d h;
      writers = all ∙ length-keep (ticks_of m) order o.once o.below (settings_of text m).writes;
      source = w.sources;
      last = λ k h. sym (latest-end (replaces_word (settings_of text m) k) suc order (length order) (get_or t.replaced.last k 0) end) ∙ w.lasts k h;
      among = λ k h.
          sym (latest-end (replaces_word (settings_of text m) k) (place_among text m order) order (length order) (get_or t.replaced.among k 0) end) ∙ w.among k h;
    }
  where
    end : length order ≤ length order
    end = omega arith

    all : t.counts.writes ≡ length (keep (settings_of text m).writes order)
    all = omega (arith, w.writers-most, kept-end (settings_of text m).writes order (length order) t.counts.writes w.kept-writers end)

pub trace-holds : (text : Text) (m : Machine) (order : Order) → Traceable m → IsOrder (ticks_of m) order → Holds text m order (trace_of text m order)
unfolding trace_of
trace-holds text m order ready o = holds-all text m order _ o (walked_from text m order ready o (length order) 0 untraced (omega arith) (walked_none text m order))
