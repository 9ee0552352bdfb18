-- The words of the joined machine, place by place, and that it passes questions 1 and 2.
-- Assumes nothing.
use mathlib.Core.Path.{◌≡◌, refl, sym, ap, ◌∙◌}
use mathlib.Core.Logic.{◌≢◌}
use mathlib.Core.Bool.{Bool, true, false, cond, ◌&&◌}
use Prim.Native.Nat.{ℕ, ◌+◌, ◌-◌, ◌*◌, ◌/◌, ◌%◌, ◌^◌, ◌≤◌, ◌<◌}
use native.Mathlib.Omega.{arith}
use borrow.Author.Tests.{eqb-true, eqb-false, ne_eqb, le-leb, lt-leb, lt-ltb, le-ltb, leb-true, ltb-true}
use lib.Dec.{eqb, leb, ltb, lit<, lit≤}
use lib.ListN.{length, get_or}
use Rattle.base_lists.proofs.Below.{and_first, and_second}
use Rattle.base_lists.proofs.Tables.{tabulate-at, tabulate-length}
use Rattle.layout.specs.Layout.{machine_length, generator_at, modifier_at, quadrant_at, dac_at, t_at, n_at, update_ticks_at, MMODE}
use Rattle.layout.specs.Machine.{Machine, ticks_of, update_ticks_of, function_at}
use Rattle.layout_texts.specs.declared.Text.TheVariants.{Of1978}
use Rattle.machine.specs.Questions.{regions, test_at}
use Rattle.machine.proofs.Regions.{region, start, unit-test}
use Rattle.machine.proofs.ValidMachine.{valid-at, valid-from, valid-controls}
use Rattle.pass_sums.specs.Sums.{generator_this, generator_last}
use Rattle.pass_laws.specs.Good.{Good}
use Rattle.join_model.specs.Join.{uses_word, uses_dac, among, brought_over, first_word, joined_word, joined}

-- The tests among n places.
pub among_in : (at n i : ℕ) → at ≤ i → i < at + n → among at n i ≡ true
among_in at n i a b = rw (le-leb at i a, lt-ltb i (at + n) b)

pub among-before : (at n i : ℕ) → i < at → among at n i ≡ false
among-before at n i a = rw (lt-leb at i a)

pub among-behind : (at n i : ℕ) → at + n ≤ i → among at n i ≡ false
among-behind at n i a = go (leb at i)
  where
    go : (x : Bool) → (x && ltb i (at + n)) ≡ false
    go true = le-ltb i (at + n) a
    go false = refl

-- Every generator is tested alike.
shift-test : (u v k x : ℕ) → u < 256 → v < 256 → k < 11 → test_at (regions Of1978) (generator_at u + k) x ≡ test_at (regions Of1978) (generator_at v + k) x
unfolding regions
shift-test u v k x hu hv hk =
    let eu : generator_at u + k ≡ start (regions Of1978) 0 + (length (region (regions Of1978) 0).tests * u + k) = omega arith in
    let ev : generator_at v + k ≡ start (regions Of1978) 0 + (length (region (regions Of1978) 0).tests * v + k) = omega arith in
    ap (λ (i : ℕ). test_at (regions Of1978) i x) eu ∙ unit-test (regions Of1978) 0 u k x hu hk ∙ sym (unit-test (regions Of1978) 0 v k x hv hk) ∙ sym (ap (λ (i : ℕ). test_at (regions Of1978) i x) ev)

-- T passes its test from 1 to 256.
ticks-test : (n : ℕ) → 1 ≤ n → n ≤ 256 → test_at (regions Of1978) t_at n ≡ true
unfolding regions test_at
ticks-test n low high = rw (le-leb 1 n low, le-leb n 256 high)

module _ (a b : Machine) (sum : ticks_of a + ticks_of b ≤ 256) where
  joined_length : length (joined a b) ≡ machine_length
  unfolding joined
  joined_length = tabulate-length (joined_word a b) 0 machine_length

  at_place : (i : ℕ) → i < machine_length → get_or (joined a b) i 0 ≡ joined_word a b i
  unfolding joined
  at_place i h = tabulate-at (joined_word a b) machine_length i 0 h

  -- The second's generators.
  second_word : (r : ℕ) → r < generator_at (ticks_of b) → get_or (joined a b) (generator_at (ticks_of a) + r) 0 ≡ get_or b r 0
  unfolding joined_word
  second_word r h =
      let e : generator_at (ticks_of a) + r - generator_at (ticks_of a) ≡ r = omega arith in
      at_place (generator_at (ticks_of a) + r) (omega arith)
      ∙ rw (among_in (generator_at (ticks_of a)) (generator_at (ticks_of b)) (generator_at (ticks_of a) + r) (omega arith) (omega arith), e)

  -- A place outside of them.
  outside-word : (i : ℕ) → i < machine_length → among (generator_at (ticks_of a)) (generator_at (ticks_of b)) i ≡ false
      → get_or (joined a b) i 0 ≡ cond (brought_over b i) (get_or b i 0) (first_word a b i)
  unfolding joined_word
  outside-word i h e = at_place i h ∙ rw e

  -- The first's word, where it is neither T nor the update ticks.
  first-own : (i : ℕ) → i ≢ t_at → i ≢ update_ticks_at → first_word a b i ≡ get_or a i 0
  unfolding first_word
  first-own i t u = rw (ne_eqb i t_at t, ne_eqb i update_ticks_at u)

  -- What isn't brought over and is neither T nor the update ticks is the first's.
  first-word : (i : ℕ) → i < machine_length → among (generator_at (ticks_of a)) (generator_at (ticks_of b)) i ≡ false → brought_over b i ≡ false → i ≢ t_at → i ≢ update_ticks_at
      → get_or (joined a b) i 0 ≡ get_or a i 0
  first-word i h e f t u = outside-word i h e ∙ rw (f, first-own i t u)

  -- Below sum memory nothing comes over but generators.
  pub low-stays : (i : ℕ) → i < 3840 → brought_over b i ≡ false
  unfolding brought_over
  low-stays i h = rw (among-before 3840 64 i h, among-before 3904 64 i (omega arith), among-before 4096 16 i (omega arith))

  pub high-stays : (i : ℕ) → 4112 ≤ i → brought_over b i ≡ false
  unfolding brought_over
  high-stays i h = rw (among-behind 3840 64 i (omega arith), among-behind 3904 64 i (omega arith), among-behind 4096 16 i (omega arith))

  past-generators : (i : ℕ) → 2816 ≤ i → among (generator_at (ticks_of a)) (generator_at (ticks_of b)) i ≡ false
  past-generators i h = among-behind (generator_at (ticks_of a)) (generator_at (ticks_of b)) i (omega arith)

  pub ticks-joined : ticks_of (joined a b) ≡ ticks_of a + ticks_of b
  unfolding first_word
  ticks-joined = outside-word t_at (lit< tt) (past-generators t_at (lit≤ tt)) ∙ rw (high-stays t_at (lit≤ tt))

  n-joined : get_or (joined a b) n_at 0 ≡ get_or a n_at 0
  n-joined = first-word n_at (lit< tt) (past-generators n_at (lit≤ tt)) (high-stays n_at (lit≤ tt)) (eqb-false n_at t_at refl) (eqb-false n_at update_ticks_at refl)

  count-joined : get_or (joined a b) update_ticks_at 0 ≡ update_ticks_of (joined a b)
  unfolding first_word
  count-joined =
      outside-word update_ticks_at (lit< tt) (past-generators update_ticks_at (lit≤ tt)) ∙ rw (high-stays update_ticks_at (lit≤ tt), ticks-joined, n-joined)

  -- Generators of the first, and of the second.
  pub first-generator : (g k : ℕ) → g < ticks_of a → k < 11 → get_or (joined a b) (generator_at g + k) 0 ≡ get_or a (generator_at g + k) 0
  first-generator g k h l =
      first-word (generator_at g + k) (omega arith) (among-before (generator_at (ticks_of a)) (generator_at (ticks_of b)) (generator_at g + k) (omega arith))
      (low-stays (generator_at g + k) (omega arith)) (λ e. omega arith) (λ e. omega arith)

  pub second-generator : (g k : ℕ) → g < ticks_of b → k < 11 → get_or (joined a b) (generator_at (ticks_of a + g) + k) 0 ≡ get_or b (generator_at g + k) 0
  second-generator g k h l =
      let e : generator_at (ticks_of a + g) + k ≡ generator_at (ticks_of a) + (generator_at g + k) = omega arith in
      ap (λ (i : ℕ). get_or (joined a b) i 0) e ∙ second_word (generator_at g + k) (omega arith)

  pub modifier-word : (k : ℕ) → k < 128 → function_at (joined a b) k ≡ function_at a k
  modifier-word k h =
      ap (λ (x : ℕ). x / 2 ^ 4)
      (first-word (modifier_at k + MMODE) (omega arith) (past-generators (modifier_at k + MMODE) (omega arith)) (low-stays (modifier_at k + MMODE) (omega arith)) (λ e. omega arith) (λ e. omega arith))

  -- Sum words and DACs by who uses them.
  pub this-word : (w : ℕ) → w < 64 → get_or (joined a b) (quadrant_at generator_this + w) 0 ≡ cond (uses_word b w) (get_or b (quadrant_at generator_this + w) 0) (get_or a (quadrant_at generator_this + w) 0)
  unfolding brought_over
  this-word w h =
      let e : 3840 + w - 3840 ≡ w = omega arith in
      outside-word (3840 + w) (omega arith) (past-generators (3840 + w) (omega arith))
      ∙ rw (among_in 3840 64 (3840 + w) (omega arith) (omega arith), e, first-own (3840 + w) (λ z. omega arith) (λ z. omega arith))

  pub last_word : (w : ℕ) → w < 64 → get_or (joined a b) (quadrant_at generator_last + w) 0 ≡ cond (uses_word b w) (get_or b (quadrant_at generator_last + w) 0) (get_or a (quadrant_at generator_last + w) 0)
  unfolding brought_over
  last_word w h =
      let e : 3904 + w - 3904 ≡ w = omega arith in
      outside-word (3904 + w) (omega arith) (past-generators (3904 + w) (omega arith))
      ∙ rw (
        among-behind 3840 64 (3904 + w) (omega arith),
        among_in 3904 64 (3904 + w) (omega arith) (omega arith),
        e,
        first-own (3904 + w) (λ z. omega arith) (λ z. omega arith),
      )

  pub dac-word : (d : ℕ) → d < 16 → get_or (joined a b) (dac_at d) 0 ≡ cond (uses_dac b d) (get_or b (dac_at d) 0) (get_or a (dac_at d) 0)
  unfolding brought_over
  dac-word d h =
      let e : 4096 + d - 4096 ≡ d = omega arith in
      outside-word (4096 + d) (omega arith) (past-generators (4096 + d) (omega arith))
      ∙ rw (
        among-behind 3840 64 (4096 + d) (omega arith),
        among-behind 3904 64 (4096 + d) (omega arith),
        among_in 4096 16 (4096 + d) (omega arith) (omega arith),
        e,
        first-own (4096 + d) (λ z. omega arith) (λ z. omega arith),
      )

  -- It is a good machine.
  module _ (ga : Good Of1978 a) (gb : Good Of1978 b) where
    word-passes : (i : ℕ) → i < update_ticks_at → test_at (regions Of1978) i (get_or (joined a b) i 0) ≡ true
    word-passes i h = go (among (generator_at (ticks_of a)) (generator_at (ticks_of b)) i) refl (brought_over b i) refl (eqb i t_at) refl
      where
        go : (x : Bool) → among (generator_at (ticks_of a)) (generator_at (ticks_of b)) i ≡ x → (y : Bool) → brought_over b i ≡ y → (z : Bool) → eqb i t_at ≡ z
            → test_at (regions Of1978) i (get_or (joined a b) i 0) ≡ true
        go true ex y ey z ez =
            let low = leb-true (generator_at (ticks_of a)) i (and_first (leb (generator_at (ticks_of a)) i) (ltb i (generator_at (ticks_of a) + generator_at (ticks_of b))) ex) in
            let high = ltb-true i (generator_at (ticks_of a) + generator_at (ticks_of b)) (and_second (leb (generator_at (ticks_of a)) i) (ltb i (generator_at (ticks_of a) + generator_at (ticks_of b))) ex) in
            let r = i - generator_at (ticks_of a) in
            let g = r / 11 in
            let k = r % 11 in
            let at : i ≡ generator_at (ticks_of a) + r = omega arith in
            let there : i ≡ generator_at (ticks_of a + g) + k = omega arith in
            let here : r ≡ generator_at g + k = omega arith in
            ap (λ (n : ℕ). test_at (regions Of1978) i n) (ap (λ (n : ℕ). get_or (joined a b) n 0) at ∙ second_word r (omega arith))
            ∙ ap (λ (n : ℕ). test_at (regions Of1978) n (get_or b r 0)) there
            ∙ shift-test (ticks_of a + g) g k (get_or b r 0) (omega arith) (omega arith) (omega arith)
            ∙ sym (ap (λ (n : ℕ). test_at (regions Of1978) n (get_or b r 0)) here)
            ∙ valid-at Of1978 b gb.is-valid r (omega arith)
        go false ex true ey z ez = rw (outside-word i (omega arith) ex, ey) (valid-at Of1978 b gb.is-valid i h)
        go false ex false ey true ez =
            rw (eqb-true i t_at ez) (ap (test_at (regions Of1978) t_at) ticks-joined ∙ ticks-test (ticks_of a + ticks_of b) (omega (arith, (valid-controls Of1978 a ga.is-valid).t_low)) sum)
        go false ex false ey false ez =
            rw (first-word i (omega arith) ex ey (eqb-false i t_at ez) (λ e. omega arith)) (valid-at Of1978 a ga.is-valid i h)

    pub joined-good : Good Of1978 (joined a b)
    joined-good = record { whole = joined_length; is-valid = valid-from Of1978 (joined a b) word-passes count-joined }
