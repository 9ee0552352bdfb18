-- What a valid machine's words are: from question 2 to each register's width and range, and back.
-- Assumes nothing.
use mathlib.Core.Path.{◌≡◌, refl, sym, ◌∙◌}
use mathlib.Core.Bool.{Bool, true, false}
use mathlib.Core.List.{List}
use Prim.Native.Nat.{ℕ, ◌+◌, ◌*◌, ◌/◌, ◌^◌, ◌≤◌, ◌<◌}
use native.Mathlib.Omega.{arith}
use mathlib.Core.Logic.{◌≢◌}
use borrow.Author.Tests.{ltb-true, leb-true, eqb-true, eqb-false, eq-eqb, ne_eqb, ltb-false}
use lib.Dec.{eqb, leb, ltb, lit<}
use lib.ListN.{length, get_or, set, length-set}
use lib.Seq.{get_or-set_same, get_or-set_other, set_out}
use Rattle.base_lists.proofs.Below.{and_first, and_second, below_at, below-from}
use Rattle.layout_codes.specs.BuiltCodes.{built_mode}
use Rattle.layout.specs.Layout.{machine_length, generator_at, modifier_at, quadrant_at, dac_at, dx_at, t_at, n_at, counter_at, lingering_at, linger_pass_at, overrun_at, delay_at, update_ticks_at}
use Rattle.layout.specs.Widths.{counter_bits}
use Rattle.machine.specs.Questions.{bits, between, good_gmode, good_mmode, test, delay_mode, regions, test_at, word_passes, valid}
use Rattle.machine.proofs.Words.{address_below, gmode-low, mmode-low}
use Rattle.machine.proofs.Regions.{region, start, unit-test}
use Rattle.layout.specs.Machine.{Reaches, update_ticks_of, with_update_ticks}
use Rattle.layout_texts.specs.declared.Text.{Text}
use Rattle.layout.proofs.Reach.{same-reach}
use Rattle.layout.proofs.UpdateTicks.{counted-other, counted-own}

-- A run of the machine's length reaches past each group of words.
pub reaches : (m : List ℕ) → length m ≡ machine_length → Reaches m
reaches m l = record { all = omega arith }

-- From question 2 to the test of each word by its region and to the update ticks, and back.
pub valid-at : (text : Text) (m : List ℕ) → valid text m ≡ true → (i : ℕ) → i < update_ticks_at → test_at (regions text) i (get_or m i 0) ≡ true
unfolding valid word_passes
valid-at text m e i h = rw (ne_eqb i update_ticks_at (λ q. omega arith)) at (below_at (word_passes text m) machine_length e i (omega arith))

pub valid-ticks : (text : Text) (m : List ℕ) → valid text m ≡ true → get_or m update_ticks_at 0 ≡ update_ticks_of m
unfolding valid word_passes
valid-ticks text m e = eqb-true (get_or m update_ticks_at 0) (update_ticks_of m) (below_at (word_passes text m) machine_length e update_ticks_at (lit< tt))

pub valid-from : (text : Text) (m : List ℕ) → ((i : ℕ) → i < update_ticks_at → test_at (regions text) i (get_or m i 0) ≡ true) → get_or m update_ticks_at 0 ≡ update_ticks_of m → valid text m ≡ true
unfolding valid word_passes
valid-from text m f t = below-from (word_passes text m) machine_length (λ i h. word i h (eqb i update_ticks_at) refl) where
  word : (i : ℕ) → i < machine_length → (b : Bool) → eqb i update_ticks_at ≡ b → word_passes text m i ≡ true
  word i h true q = rw (eqb-true i update_ticks_at q) (eq-eqb (get_or m update_ticks_at 0) (update_ticks_of m) t)
  word i h false q = let n = eqb-false i update_ticks_at q in rw q (f i (omega (arith, n)))

-- A word put where its region's test passes, among words that pass theirs.
word_set : (text : Text) (m : List ℕ) → valid text m ≡ true → (i v : ℕ) → i < length m → test_at (regions text) i v ≡ true
    → (k : ℕ) → k < update_ticks_at → test_at (regions text) k (get_or (set m i v) k 0) ≡ true
word_set text m e i v l p k n = at (eqb k i) refl where
  at : (b : Bool) → eqb k i ≡ b → test_at (regions text) k (get_or (set m i v) k 0) ≡ true
  at true q = rw (eqb-true k i q, get_or-set_same m i v 0 l) p
  at false q = rw (get_or-set_other m i k v 0 (eqb-false k i q)) (valid-at text m e k n)

-- The place of a word that is tested by itself and that no other word's test looks at: before the update ticks, and neither T nor N.
pub record Single (i : ℕ) : Type 0 where
  pub inside : i < update_ticks_at
  pub not_t : i ≢ t_at
  pub not-n : i ≢ n_at

pub single-below : {i : ℕ} → i < t_at → Single i
single-below h = record { inside = omega arith; not_t = λ e. omega arith; not-n = λ e. omega arith }

pub single-above : {i : ℕ} → n_at < i → i < update_ticks_at → Single i
single-above h l = record { inside = l; not_t = λ e. omega arith; not-n = λ e. omega arith }

-- Such a word keeps a machine valid where it passes its test.
pub valid-set : (text : Text) (m : List ℕ) → valid text m ≡ true → (i v : ℕ) → Single i → test_at (regions text) i v ≡ true → valid text (set m i v) ≡ true
valid-set text m e i v s p = inside (ltb i (length m)) refl where
  before : update_ticks_at ≢ i
  before q = let h = s.inside in omega arith

  ticks : get_or (set m i v) update_ticks_at 0 ≡ update_ticks_of (set m i v)
  ticks =
      rw (
        get_or-set_other m i update_ticks_at v 0 before,
        get_or-set_other m i t_at v 0 (λ q. s.not_t (sym q)),
        get_or-set_other m i n_at v 0 (λ q. s.not-n (sym q)),
      )
      (valid-ticks text m e)

  inside : (b : Bool) → ltb i (length m) ≡ b → valid text (set m i v) ≡ true
  inside true q = valid-from text (set m i v) (word_set text m e i v (ltb-true i (length m) q) p) ticks
  inside false q = rw (set_out m i v (ltb-false i (length m) q)) e

-- Any word does, T and N too, where the update ticks are worked out again.
pub valid-with-ticks : (text : Text) (m : List ℕ) → valid text m ≡ true → Reaches m → (i v : ℕ) → i < update_ticks_at → test_at (regions text) i v ≡ true → valid text (with_update_ticks (set m i v)) ≡ true
valid-with-ticks text m e r i v h p =
    valid-from text (with_update_ticks (set m i v))
    (λ k n. rw (counted-other (set m i v) k (λ q. omega arith)) (word_set text m e i v (omega (arith, r.all)) p k n))
    (counted-own (set m i v) (same-reach (length-set m i v) r))

-- Word j of unit u of region k passes the region's test j.
pub valid-unit : (text : Text) (m : List ℕ) → valid text m ≡ true → (k u j i : ℕ) → u < (region (regions text) k).units → j < length (region (regions text) k).tests
    → i ≡ start (regions text) k + (length (region (regions text) k).tests * u + j) → i < update_ticks_at → get_or (region (regions text) k).tests j (λ y. false) (get_or m i 0) ≡ true
valid-unit text m e k u j i h l q n = sym (unit-test (regions text) k u j (get_or m i 0) h l) ∙ rw (← q) (valid-at text m e i n)

-- A generator's registers.
pub record ValidGenerator (text : Text) (m : List ℕ) (g : ℕ) : Type 0 where
  pub go : get_or m (generator_at g) 0 < 2 ^ 20
  pub gj : get_or m (generator_at g + 1) 0 < 2 ^ 28
  pub gk : get_or m (generator_at g + 2) 0 < 2 ^ 20
  pub gn : get_or m (generator_at g + 3) 0 < 2 ^ 11
  pub gm : get_or m (generator_at g + 4) 0 < 2 ^ 4
  pub gp : get_or m (generator_at g + 5) 0 < 2 ^ 20
  pub gq : get_or m (generator_at g + 6) 0 < 2 ^ 24
  pub gl : get_or m (generator_at g + 7) 0 < 2 ^ 12
  pub gsum : get_or m (generator_at g + 8) 0 < 2 ^ 6
  pub gfm : get_or m (generator_at g + 9) 0 < 2 ^ 7
  pub gmode : get_or m (generator_at g + 10) 0 < 2 ^ 10
  pub good : good_gmode text (get_or m (generator_at g + 10) 0) ≡ true

pub valid-generator : (text : Text) (m : List ℕ) → valid text m ≡ true → (g : ℕ) → g < 256 → ValidGenerator text m g
unfolding regions
valid-generator text m e g h =
    let good : good_gmode text (get_or m (generator_at g + 10) 0) ≡ true = valid-unit text m e 0 g 10 (generator_at g + 10) h (lit< tt) (omega arith) (omega arith) in
    record {
      go = ltb-true _ _ (valid-unit text m e 0 g 0 (generator_at g) h (lit< tt) (omega arith) (omega arith));
      gj = ltb-true _ _ (valid-unit text m e 0 g 1 (generator_at g + 1) h (lit< tt) (omega arith) (omega arith));
      gk = ltb-true _ _ (valid-unit text m e 0 g 2 (generator_at g + 2) h (lit< tt) (omega arith) (omega arith));
      gn = ltb-true _ _ (valid-unit text m e 0 g 3 (generator_at g + 3) h (lit< tt) (omega arith) (omega arith));
      gm = ltb-true _ _ (valid-unit text m e 0 g 4 (generator_at g + 4) h (lit< tt) (omega arith) (omega arith));
      gp = ltb-true _ _ (valid-unit text m e 0 g 5 (generator_at g + 5) h (lit< tt) (omega arith) (omega arith));
      gq = ltb-true _ _ (valid-unit text m e 0 g 6 (generator_at g + 6) h (lit< tt) (omega arith) (omega arith));
      gl = ltb-true _ _ (valid-unit text m e 0 g 7 (generator_at g + 7) h (lit< tt) (omega arith) (omega arith));
      gsum = ltb-true _ _ (valid-unit text m e 0 g 8 (generator_at g + 8) h (lit< tt) (omega arith) (omega arith));
      gfm = ltb-true _ _ (valid-unit text m e 0 g 9 (generator_at g + 9) h (lit< tt) (omega arith) (omega arith));
      gmode = gmode-low text _ good;
      good = good;
    }

-- A modifier's registers.
pub record ValidModifier (text : Text) (m : List ℕ) (k : ℕ) : Type 0 where
  pub m0 : get_or m (modifier_at k) 0 < 2 ^ 30
  pub m1 : get_or m (modifier_at k + 1) 0 < 2 ^ 30
  pub l0 : get_or m (modifier_at k + 2) 0 < 2 ^ 20
  pub l1 : get_or m (modifier_at k + 3) 0 < 2 ^ 20
  pub min : get_or m (modifier_at k + 4) 0 < 2 ^ 8
  pub min_top : get_or m (modifier_at k + 4) 0 / 2 ^ 6 < 3
  pub mrm : get_or m (modifier_at k + 5) 0 < 2 ^ 8
  pub mrm_top : get_or m (modifier_at k + 5) 0 / 2 ^ 6 < 3
  pub msum : get_or m (modifier_at k + 6) 0 < 2 ^ 7
  pub mmode : get_or m (modifier_at k + 7) 0 < 2 ^ 9
  pub good : good_mmode text (get_or m (modifier_at k + 7) 0) ≡ true

pub valid-modifier : (text : Text) (m : List ℕ) → valid text m ≡ true → (k : ℕ) → k < 128 → ValidModifier text m k
unfolding regions
valid-modifier text m e k h =
    let good : good_mmode text (get_or m (modifier_at k + 7) 0) ≡ true = valid-unit text m e 1 k 7 (modifier_at k + 7) h (lit< tt) (omega arith) (omega arith) in
    let a : get_or m (modifier_at k + 4) 0 < 192 = address_below _ (valid-unit text m e 1 k 4 (modifier_at k + 4) h (lit< tt) (omega arith) (omega arith)) in
    let b : get_or m (modifier_at k + 5) 0 < 192 = address_below _ (valid-unit text m e 1 k 5 (modifier_at k + 5) h (lit< tt) (omega arith) (omega arith)) in
    record {
      m0 = ltb-true _ _ (valid-unit text m e 1 k 0 (modifier_at k) h (lit< tt) (omega arith) (omega arith));
      m1 = ltb-true _ _ (valid-unit text m e 1 k 1 (modifier_at k + 1) h (lit< tt) (omega arith) (omega arith));
      l0 = ltb-true _ _ (valid-unit text m e 1 k 2 (modifier_at k + 2) h (lit< tt) (omega arith) (omega arith));
      l1 = ltb-true _ _ (valid-unit text m e 1 k 3 (modifier_at k + 3) h (lit< tt) (omega arith) (omega arith));
      min = omega arith;
      min_top = omega arith;
      mrm = omega arith;
      mrm_top = omega arith;
      msum = ltb-true _ _ (valid-unit text m e 1 k 6 (modifier_at k + 6) h (lit< tt) (omega arith) (omega arith));
      mmode = mmode-low text _ good;
      good = good;
    }

-- The words of sum memory and the DAC words.
pub valid-sum : (text : Text) (m : List ℕ) → valid text m ≡ true → (q i : ℕ) → q < 4 → i < 64 → get_or m (quadrant_at q + i) 0 < 2 ^ 20
unfolding regions
valid-sum text m e q i h l = ltb-true _ _ (valid-unit text m e 2 (64 * q + i) 0 (quadrant_at q + i) (omega arith) (lit< tt) (omega arith) (omega arith))

pub valid-dac : (text : Text) (m : List ℕ) → valid text m ≡ true → (d : ℕ) → d < 16 → get_or m (dac_at d) 0 < 2 ^ 20
unfolding regions
valid-dac text m e d h = ltb-true _ _ (valid-unit text m e 3 d 0 (dac_at d) h (lit< tt) (omega arith) (omega arith))

-- DX, T, N, the counter, lingering, the Linger pass and overrun.
pub record ValidControls (m : List ℕ) : Type 0 where
  pub dx : get_or m dx_at 0 < 2 ^ 20
  pub t_low : 1 ≤ get_or m t_at 0
  pub t_high : get_or m t_at 0 ≤ 256
  pub n_low : 2 ≤ get_or m n_at 0
  pub n_high : get_or m n_at 0 ≤ 1025
  pub counter : get_or m counter_at 0 < 2 ^ counter_bits
  pub lingering : get_or m lingering_at 0 ≤ 1
  pub linger_pass : get_or m linger_pass_at 0 < 2 ^ 20
  pub overrun : get_or m overrun_at 0 ≤ 1

from-between : (a b x : ℕ) → between a b x ≡ true → (a ≤ x) × (x ≤ b)
from-between a b x e = (leb-true a x (and_first (leb a x) (leb x b) e), leb-true x b (and_second (leb a x) (leb x b) e))

pub valid-controls : (text : Text) (m : List ℕ) → valid text m ≡ true → ValidControls m
unfolding regions test_at
valid-controls text m e =
    let t = from-between 1 256 (get_or m t_at 0) (valid-at text m e t_at (lit< tt)) in
    let n = from-between 2 1025 (get_or m n_at 0) (valid-at text m e n_at (lit< tt)) in
    record {
      dx = ltb-true _ _ (valid-at text m e dx_at (lit< tt));
      t_low = t.0;
      t_high = t.1;
      n_low = n.0;
      n_high = n.1;
      counter = ltb-true _ _ (valid-at text m e counter_at (lit< tt));
      lingering = (from-between 0 1 (get_or m lingering_at 0) (valid-at text m e lingering_at (lit< tt))).1;
      linger_pass = ltb-true _ _ (valid-at text m e linger_pass_at (lit< tt));
      overrun = (from-between 0 1 (get_or m overrun_at 0) (valid-at text m e overrun_at (lit< tt))).1;
    }

-- A delay unit's registers, and the three words on their way.
pub record ValidDelay (m : List ℕ) (u : ℕ) : Type 0 where
  pub x : get_or m (delay_at u) 0 < 2 ^ 16
  pub y : get_or m (delay_at u + 1) 0 < 2 ^ 16
  pub z : get_or m (delay_at u + 2) 0 < 2 ^ 16
  pub p : get_or m (delay_at u + 3) 0 < 2 ^ 4
  pub mode : built_mode (get_or m (delay_at u + 3) 0) ≡ true
  pub first : get_or m (delay_at u + 4) 0 < 2 ^ 20
  pub second : get_or m (delay_at u + 5) 0 < 2 ^ 20
  pub third : get_or m (delay_at u + 6) 0 < 2 ^ 20

pub valid-delay : (text : Text) (m : List ℕ) → valid text m ≡ true → (u : ℕ) → u < 32 → ValidDelay m u
unfolding regions
valid-delay text m e u h =
    let mode = get_or m (delay_at u + 3) 0 in
    let good : test delay_mode mode ≡ true = valid-unit text m e 5 u 3 (delay_at u + 3) h (lit< tt) (omega arith) (omega arith) in
    record {
      x = ltb-true _ _ (valid-unit text m e 5 u 0 (delay_at u) h (lit< tt) (omega arith) (omega arith));
      y = ltb-true _ _ (valid-unit text m e 5 u 1 (delay_at u + 1) h (lit< tt) (omega arith) (omega arith));
      z = ltb-true _ _ (valid-unit text m e 5 u 2 (delay_at u + 2) h (lit< tt) (omega arith) (omega arith));
      p = ltb-true _ _ (and_first (bits 4 mode) (built_mode mode) good);
      mode = and_second (bits 4 mode) (built_mode mode) good;
      first = ltb-true _ _ (valid-unit text m e 5 u 4 (delay_at u + 4) h (lit< tt) (omega arith) (omega arith));
      second = ltb-true _ _ (valid-unit text m e 5 u 5 (delay_at u + 5) h (lit< tt) (omega arith) (omega arith));
      third = ltb-true _ _ (valid-unit text m e 5 u 6 (delay_at u + 6) h (lit< tt) (omega arith) (omega arith));
    }
