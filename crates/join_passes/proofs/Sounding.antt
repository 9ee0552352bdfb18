-- What the generators of a bell bring in a machine that plays it is what they bring alone, and so is what they leave: registers, sum words and DACs.
-- Assumes nothing.
use mathlib.Core.Path.{◌≡◌, refl, sym, ap, ap₂, ◌∙◌}
use mathlib.Core.Logic.{◌≢◌}
use mathlib.Core.Bool.{Bool, true, false, cond, ◌&&◌, and-false}
use mathlib.Core.List.{List, []}
use Prim.Native.Nat.{ℕ, zero, suc, ◌+◌, ◌-◌, ◌/◌, ◌%◌, ◌^◌, ◌≤◌, ◌<◌}
use native.Mathlib.Omega.{arith}
use native.Mathlib.Nat.{add-zero, zero-add}
use borrow.Author.Tests.{eqb-true, ne_eqb, le-leb, ltb-true, ltb-false}
use lib.Dec.{eqb, ltb, lit<}
use lib.ListN.{get_or, drop}
use lib.Seq.{get_or-drop}
use Rattle.base_lists.specs.Lists.{tabulate, is_one_of}
use Rattle.layout.specs.Layout.{generator_at, quadrant_at, dac_at, quadrant_words, dacs, GSUM, GFM, GMODE}
use Rattle.layout.specs.Machine.{Machine, ticks_of, gsum_at, gfm_at}
use Rattle.layout_texts.specs.Texts.{run_mode_at, dac_number_at}
use Rattle.layout_texts.specs.declared.Text.TheVariants.{Of1978}
use Rattle.layout_modes.specs.Modes.{wait, write_dac, adds, replaces, read_data}
use Rattle.machine.proofs.ValidMachine.{valid-controls}
use Rattle.generator.specs.Generator.{loaded}
use Rattle.pass_sums.specs.Sums.{generator_this, generator_last, word_at, sum_at, f_at, sums_of}
use Rattle.pass_sums.proofs.Memory.{quadrant-word, sums-quadrant}
use Rattle.pass_model.specs.Generators.{Contribution, generator_of, turn1978, generators_of}
use Rattle.pass_laws.specs.Good.{Good}
use Rattle.pass_laws.specs.AsCoded.{RegistersOf}
use Rattle.pass_laws.proofs.Orders.{by-number-order}
use Rattle.base_sequences.specs.Sequences.{by_number, before, place_of, some, latest, total}
use Rattle.base_sequences.proofs.ByNumber.{by-number-length, by-number-at, by-number-once}
use Rattle.base_sequences.proofs.Places.{place-of-entry, before-from}
use Rattle.base_sequences.proofs.Orders.{none_from}
use Rattle.compare_agreement.specs.Agreement.{settings_of, replaces_word, adds_to_word}
use Rattle.equal_endings.specs.AsCoded.{turn_at, p_at, sends_at, triggered_below_in, taken_in, word_after, StageEnds}
use Rattle.equal_endings.proofs.Ends.{stage-ends}
use Rattle.equal_contents.proofs.Settings.{follows-settings}
use Rattle.join_model.specs.Join.{uses_word, uses_dac}
use Rattle.join_model.specs.AsCoded.{SelfContained, Other, Stands}
use Rattle.join_model.specs.Plays.{Plays}
use Rattle.join_model.proofs.Used.{uses-input}
use Rattle.join_passes.proofs.Stretches.{total-more, latest-more, inside}

-- A generator that has the words of another is loaded as that one.
loaded-same : (l m : Machine) (i k : ℕ) → ((r : ℕ) → r < 11 → get_or l (generator_at i + r) 0 ≡ get_or m (generator_at k + r) 0) → generator_of l i ≡ generator_of m k
unfolding generator_of loaded
loaded-same l m i k e =
    let at : (r : ℕ) → r < 11 → get_or (drop (generator_at i) l) r 0 ≡ get_or (drop (generator_at k) m) r 0
    = λ r h. rw (get_or-drop (generator_at i) l r 0, get_or-drop (generator_at k) m r 0) (e r h) in
    rw (
      at 0 (lit< tt),
      at 1 (lit< tt),
      at 2 (lit< tt),
      at 3 (lit< tt),
      at 4 (lit< tt),
      at 5 (lit< tt),
      at 6 (lit< tt),
      at 7 (lit< tt),
      at 8 (lit< tt),
      at 9 (lit< tt),
      at 10 (lit< tt),
    )

-- GFM of a loaded generator, where it names generator-last.
gfm-loaded : (m : Machine) (g : ℕ) → gfm_at m g < quadrant_words → (generator_of m g).gfm ≡ gfm_at m g
unfolding generator_of loaded
gfm-loaded m g h = ap (λ (x : ℕ). x % 2 ^ 7) (get_or-drop (generator_at g) m GFM 0) ∙ omega arith

-- F where GFM names a word of generator-last.
f-is : (m : Machine) (w : ℕ) → w < quadrant_words → f_at (sums_of m) w ≡ get_or m (quadrant_at generator_last + w) 0 % 2 ^ 20
unfolding f_at word_at
f-is m w h =
    let first : w / 64 ≡ 0 = omega arith in
    let whole : w % 64 ≡ w = omega arith in
    rw (first, whole, sums-quadrant m generator_last (omega arith), quadrant-word m generator_last w h)

-- By number each generator stands before the next.
place_is : (t k : ℕ) → k < t → place_of k (by_number t) ≡ k
place_is t k h =
    rw (by-number-at t k h) at (place-of-entry (by_number t) k (omega (arith, by-number-length t)) (rw (by-number-at t k h) (omega (arith, by-number-once t k h))))

number-before : (t k : ℕ) → suc k < t → before k (suc k) (by_number t) ≡ true
number-before t k h = before-from k (suc k) (by_number t) (rw (place_is t k (omega arith), place_is t (suc k) h) (omega arith))

-- No 0111 is there.
not-replacing : (b : Bool) (r : ℕ) → r ≢ read_data → (b && replaces r) ≡ false
unfolding replaces is_one_of
not-replacing b r n = rw (ne_eqb r read_data n) (and-false b)

none-replaces : (m : Machine) → SelfContained m → (w : ℕ) → some (replaces_word (settings_of Of1978 m) w) (by_number (ticks_of m)) ≡ false
none-replaces m l w =
    none_from (ticks_of m) (by_number (ticks_of m)) (by-number-order (ticks_of m)).once (by-number-order (ticks_of m)).below (replaces_word (settings_of Of1978 m) w)
    (λ k h. not-replacing (eqb (gsum_at m k) w) (run_mode_at Of1978 m k) (l.no_reader k h))

-- What a generator adds to a word.
abbrev added_by : Machine → ℕ → ℕ → ℕ
added_by m w g = cond (adds_to_word (settings_of Of1978 m) w g) (p_at (generators_of Of1978) m g) 0

-- No 0111 is there, so a word is what was there and what is added.
word-is : (m : Machine) → SelfContained m → (w : ℕ)
    → word_after (generators_of Of1978) m (settings_of Of1978 m) [] (by_number (ticks_of m)) w ≡ (sum_at (sums_of m) w + total (added_by m w) (by_number (ticks_of m))) % 2 ^ 20
unfolding word_after
word-is m l w = rw (none-replaces m l w)

-- What stands in a this word as a pass begins.
begun-word : (m : Machine) → (w : ℕ) → w < 64 → sum_at (sums_of m) w ≡ get_or m (quadrant_at generator_this + w) 0 % 2 ^ 20
unfolding sum_at word_at
begun-word m w h = rw (sums-quadrant m 0 (omega arith), quadrant-word m 0 w h)

-- The lowest generator is told nothing.
never-told : (m : Machine) (order : List ℕ) → triggered_below_in (generators_of Of1978) m order 0 ≡ false
unfolding triggered_below_in
never-told m order = refl

module _ (a j : Machine) (at : ℕ) (ga : Good Of1978 a) (gj : Good Of1978 j) (own : SelfContained a) (s : Stands a j at) (p : Plays a a 0 j at) where
  few-a : ticks_of a ≤ 256
  few-a = (valid-controls Of1978 a ga.is-valid).t_high

  few-j : ticks_of j ≤ 256
  few-j = (valid-controls Of1978 j gj.is-valid).t_high

  some-a : 1 ≤ ticks_of a
  some-a = (valid-controls Of1978 a ga.is-valid).t_low

  -- The words of a generator of the bell.
  pub generator-same : (g k : ℕ) → g < ticks_of a → k < 11 → get_or j (generator_at (at + g) + k) 0 ≡ get_or a (generator_at g + k) 0
  generator-same g k h l = p.generator g k h l ∙ ap (λ (i : ℕ). get_or a (generator_at i + k) 0) (zero-add g)

  mode-same : (g : ℕ) → g < ticks_of a → run_mode_at Of1978 j (at + g) ≡ run_mode_at Of1978 a g
  mode-same g h = ap (λ (x : ℕ). x / 2 ^ 6) (generator-same g GMODE h (lit< tt))

  sum_same : (g : ℕ) → g < ticks_of a → gsum_at j (at + g) ≡ gsum_at a g
  sum_same g h = generator-same g GSUM h (lit< tt)

  input-same : (g : ℕ) → g < ticks_of a → gfm_at j (at + g) ≡ gfm_at a g
  input-same g h = generator-same g GFM h (lit< tt)

  dac-same : (g : ℕ) → g < ticks_of a → dac_number_at Of1978 j (at + g) ≡ dac_number_at Of1978 a g
  dac-same g h =
      ap (λ (x : ℕ). x % 2 ^ 4)
      (ap (λ (i : ℕ). get_or j i 0) (sym (add-zero (generator_at (at + g)))) ∙ generator-same g 0 h (lit< tt) ∙ ap (λ (i : ℕ). get_or a i 0) (add-zero (generator_at g)))

  -- Its F.
  f-same : (w : ℕ) → w < quadrant_words → uses_word a w ≡ true → f_at (sums_of j) w ≡ f_at (sums_of a) w
  f-same w h u = f-is j w h ∙ ap (λ (x : ℕ). x % 2 ^ 20) (p.last w h u) ∙ sym (f-is a w h)

  own-f : (g : ℕ) → g < ticks_of a → f_at (sums_of j) (generator_of a g).gfm ≡ f_at (sums_of a) (generator_of a g).gfm
  own-f g h =
      rw (gfm-loaded a g (own.inputs g h)) (f-same (gfm_at a g) (own.inputs g h) (uses-input a g h (gfm_at a g) refl))

  turn-same : (g : ℕ) → g < ticks_of a → (triggered_below : Bool) → turn1978 j (sums_of j) (at + g) triggered_below ≡ turn1978 a (sums_of a) g triggered_below
  unfolding turn1978
  turn-same g h triggered_below =
      rw (loaded-same j a (at + g) g (λ r l. generator-same g r h l), own-f g h)

  -- What it is told is the same, or acts on nothing: at the seam it doesn't wait.
  told-next : (g : ℕ) → suc g < ticks_of a → triggered_below_in (generators_of Of1978) j (by_number (ticks_of j)) (at + suc g) ≡ triggered_below_in (generators_of Of1978) a (by_number (ticks_of a)) (suc g)
  unfolding triggered_below_in
  told-next g h =
      let e : at + suc g - 1 ≡ at + g = omega arith in
      let n : at + suc g ≡ suc (at + g) = omega arith in
      let d : suc g - 1 ≡ g = omega arith in
      rw (
        e,
        d,
        n,
        le-leb 1 (suc (at + g)) (omega arith),
        le-leb 1 (suc g) (omega arith),
        number-before (ticks_of j) (at + g) (omega (arith, s.room)),
        number-before (ticks_of a) g h,
        ap (λ (b : Contribution). b.triggers) (turn-same g (omega arith) false),
      )

  first-unit : (turn_at (generators_of Of1978) j (at + 0) (triggered_below_in (generators_of Of1978) j (by_number (ticks_of j)) (at + 0))).unit ≡ (turn_at (generators_of Of1978) j (at + 0) false).unit
  first-unit = go (ltb 0 at) refl
    where
      go : (b : Bool) → ltb 0 at ≡ b → (turn_at (generators_of Of1978) j (at + 0) (triggered_below_in (generators_of Of1978) j (by_number (ticks_of j)) (at + 0))).unit ≡ (turn_at (generators_of Of1978) j (at + 0) false).unit
      go true e =
          let h = ltb-true 0 at e in
          let k : at + 0 ≡ at = omega arith in
          ((follows-settings Of1978 j gj).turns (at + 0) (omega (arith, s.room, some-a))).unit
          (rw k (ne_eqb (run_mode_at Of1978 j at) wait (s.seam h).0)) (triggered_below_in (generators_of Of1978) j (by_number (ticks_of j)) (at + 0))
      go false e =
          let k : at + 0 ≡ 0 = omega (arith, ltb-false 0 at e) in
          ap (λ (triggered_below : Bool). (turn_at (generators_of Of1978) j (at + 0) triggered_below).unit) (ap (triggered_below_in (generators_of Of1978) j (by_number (ticks_of j))) k ∙ never-told j (by_number (ticks_of j)))

  unit-same : (g : ℕ) → g < ticks_of a
      → (turn_at (generators_of Of1978) j (at + g) (triggered_below_in (generators_of Of1978) j (by_number (ticks_of j)) (at + g))).unit ≡ (turn_at (generators_of Of1978) a g (triggered_below_in (generators_of Of1978) a (by_number (ticks_of a)) g)).unit
  unit-same zero h =
      first-unit
      ∙ ap (λ (b : Contribution). b.unit) (turn-same 0 h false)
      ∙ ap (λ (triggered_below : Bool). (turn_at (generators_of Of1978) a 0 triggered_below).unit) (sym (never-told a (by_number (ticks_of a))))
  unit-same (suc g) h =
      ap (λ (triggered_below : Bool). (turn_at (generators_of Of1978) j (at + suc g) triggered_below).unit) (told-next g h)
      ∙ ap (λ (b : Contribution). b.unit) (turn-same (suc g) h (triggered_below_in (generators_of Of1978) a (by_number (ticks_of a)) (suc g)))

  -- What the generators leave.
  ends-a : StageEnds (generators_of Of1978) a (settings_of Of1978 a) [] [] (by_number (ticks_of a)) (taken_in (generators_of Of1978) a [] [] (by_number (ticks_of a)))
  ends-a = stage-ends (generators_of Of1978) (settings_of Of1978 a) a (follows-settings Of1978 a ga) [] [] (by_number (ticks_of a)) (by-number-order (ticks_of a))

  ends-j : StageEnds (generators_of Of1978) j (settings_of Of1978 j) [] [] (by_number (ticks_of j)) (taken_in (generators_of Of1978) j [] [] (by_number (ticks_of j)))
  ends-j = stage-ends (generators_of Of1978) (settings_of Of1978 j) j (follows-settings Of1978 j gj) [] [] (by_number (ticks_of j)) (by-number-order (ticks_of j))

  added-same : (w g : ℕ) → g < ticks_of a → added_by j w (at + g) ≡ added_by a w g
  added-same w g h =
      rw (sum_same g h, mode-same g h)
      (ap (λ (x : ℕ). cond (eqb (gsum_at a g) w && adds (run_mode_at Of1978 a g)) x 0) (ap (λ (b : Contribution). b.p) (turn-same g h false)))

  added-other : (w h : ℕ) → w < quadrant_words → uses_word a w ≡ true → h < ticks_of j → Other a at h → added_by j w h ≡ 0
  added-other w h k u l n = rw (ne_eqb (gsum_at j h) w (s.words h w l n k u))

  total-same : (w : ℕ) → w < quadrant_words → uses_word a w ≡ true → total (added_by j w) (by_number (ticks_of j)) ≡ total (added_by a w) (by_number (ticks_of a))
  unfolding total by_number tabulate
  total-same w k u =
      inside (λ n. total (added_by j w) (by_number n)) (λ n. total (added_by a w) (by_number n)) (λ n x. x + added_by j w n) (λ n x. x + added_by a w n) at (ticks_of a) refl
      (total-more (added_by j w)) (total-more (added_by a w)) (λ k h x. ap (λ (y : ℕ). x + y) (added-same w k h)) (ticks_of j) s.room
      (λ h l n x. ap (λ (y : ℕ). x + y) (added-other w h k u l n) ∙ add-zero x)

  pub sums_same : SelfContained j → (w : ℕ) → w < quadrant_words → uses_word a w ≡ true
      → get_or (get_or (taken_in (generators_of Of1978) j [] [] (by_number (ticks_of j))).sums generator_this []) w 0 ≡ get_or (get_or (taken_in (generators_of Of1978) a [] [] (by_number (ticks_of a))).sums generator_this []) w 0
  sums_same own-j w low u =
      let begun : sum_at (sums_of j) w ≡ sum_at (sums_of a) w = begun-word j w low ∙ ap (λ (x : ℕ). x % 2 ^ 20) (p.this w low u) ∙ sym (begun-word a w low) in
      ends-j.sum w low
      ∙ word-is j own-j w
      ∙ ap₂ (λ (x y : ℕ). (x + y) % 2 ^ 20) begun (total-same w low u)
      ∙ sym (word-is a own w)
      ∙ sym (ends-a.sum w low)

  -- Who feeds a DAC, and what it sends.
  feeds-same : (d g : ℕ) → g < ticks_of a → (settings_of Of1978 j).feeds d (at + g) ≡ (settings_of Of1978 a).feeds d g
  feeds-same d g h = rw (mode-same g h, dac-same g h)

  feeds-other : (d h : ℕ) → d < dacs → uses_dac a d ≡ true → h < ticks_of j → Other a at h → (settings_of Of1978 j).feeds d h ≡ false
  feeds-other d h k u l n = go (eqb (run_mode_at Of1978 j h) write_dac) refl
    where
      go : (b : Bool) → eqb (run_mode_at Of1978 j h) write_dac ≡ b → (b && eqb (dac_number_at Of1978 j h) d) ≡ false
      go true e = ne_eqb (dac_number_at Of1978 j h) d (s.feeders h d l n k u (eqb-true (run_mode_at Of1978 j h) write_dac e))
      go false e = refl

  first-dac : (d : ℕ) → d < dacs → uses_dac a d ≡ true
      → latest ((settings_of Of1978 j).feeds d) (sends_at (generators_of Of1978) j) (by_number 0) (get_or j (dac_at d) 0) ≡ latest ((settings_of Of1978 a).feeds d) (sends_at (generators_of Of1978) a) (by_number 0) (get_or a (dac_at d) 0)
  unfolding latest some by_number tabulate
  first-dac d k u = p.dac d k u

  pub dacs-same : (d : ℕ) → d < dacs → uses_dac a d ≡ true
      → get_or (taken_in (generators_of Of1978) j [] [] (by_number (ticks_of j))).words (dac_at d) 0 ≡ get_or (taken_in (generators_of Of1978) a [] [] (by_number (ticks_of a))).words (dac_at d) 0
  dacs-same d low u =
      ends-j.dac d low
      ∙ inside (λ n. latest ((settings_of Of1978 j).feeds d) (sends_at (generators_of Of1978) j) (by_number n) (get_or j (dac_at d) 0)) (λ n. latest ((settings_of Of1978 a).feeds d) (sends_at (generators_of Of1978) a) (by_number n) (get_or a (dac_at d) 0))
      (λ n x. cond ((settings_of Of1978 j).feeds d n) (sends_at (generators_of Of1978) j n) x) (λ n x. cond ((settings_of Of1978 a).feeds d n) (sends_at (generators_of Of1978) a n) x) at (ticks_of a) (first-dac d low u)
      (latest-more ((settings_of Of1978 j).feeds d) (sends_at (generators_of Of1978) j) (get_or j (dac_at d) 0)) (latest-more ((settings_of Of1978 a).feeds d) (sends_at (generators_of Of1978) a) (get_or a (dac_at d) 0))
      (λ k h x. rw (feeds-same d k h) (ap (λ (y : ℕ). cond ((settings_of Of1978 a).feeds d k) y x) (ap (λ (b : Contribution). b.sends) (turn-same k h false))))
      (ticks_of j) s.room (λ h l n x. rw (feeds-other d h low u l n))
      ∙ sym (ends-a.dac d low)

  -- The registers that a turn changes.
  pub registers-same : (g : ℕ) → g < ticks_of a
      → RegistersOf (taken_in (generators_of Of1978) j [] [] (by_number (ticks_of j))).words (at + g) (turn_at (generators_of Of1978) a g (triggered_below_in (generators_of Of1978) a (by_number (ticks_of a)) g)).unit
      × RegistersOf (taken_in (generators_of Of1978) a [] [] (by_number (ticks_of a))).words g (turn_at (generators_of Of1978) a g (triggered_below_in (generators_of Of1978) a (by_number (ticks_of a)) g)).unit
  registers-same g h = (rw (unit-same g h) at (ends-j.own (at + g) (omega (arith, s.room))), ends-a.own g h)
