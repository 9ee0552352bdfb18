-- The loads of an accepted command keep a machine valid: each word that is put passes the test of its register.
-- Assumes nothing.
use mathlib.Core.Path.{◌≡◌, refl, ◌∙◌, ap}
use mathlib.Core.Bool.{Bool, true, false, cond}
use mathlib.Core.List.{List}
use Prim.Native.Nat.{ℕ, ◌+◌, ◌-◌, ◌*◌, ◌/◌, ◌%◌, ◌^◌, ◌≤◌, ◌<◌}
use native.Mathlib.Omega.{arith}
use borrow.Author.Tests.{lt-ltb}
use lib.Dec.{eqb, lit<, lit≤}
use lib.ListN.{length, get_or, set}
use Rattle.base_words.specs.Words.{extended, signed}
use Rattle.base_words.proofs.Residues.{low-lt}
use Rattle.base_lists.proofs.Below.{and_second, and_both}
use Rattle.base_lists.proofs.Choices.{of-cond, of_test}
use Rattle.layout.specs.Layout.{generator_at, modifier_at, dx_at, n_at, delay_at, delay_x, delay_y, delay_z, delay_p, GO, GJ, GK, GN, GM, GP, GQ, GL, GSUM, GFM, GMODE, M0, M1, L0, L1, MIN, MRM, MSUM, MMODE}
use Rattle.layout.specs.Widths.{gj_bits, gn_bits, gm_bits, gq_bits, gl_bits, gsum_bits, gfm_bits, coefficient_bits, msum_bits, mmode_bits, word_bits, delay_bits, delay_mode_bits}
use Rattle.layout_texts.specs.declared.Text.TheVariants.{Of1978}
use Rattle.layout_codes.specs.BuiltCodes.{built_function, built_mode}
use Rattle.machine.specs.Questions.{bits, good_mmode, regions, test_at, valid}
use Rattle.machine.proofs.Regions.{region, start, unit-test}
use Rattle.machine.proofs.Words.{mmode-function}
use Rattle.machine.proofs.ValidMachine.{Single, single-below, single-above, valid-set, valid-modifier, valid-controls}
use Rattle.command_fields.specs.Fields.{field, flag, data_of, code3, code4, code5, generator_number, modifier_number}
use Rattle.command_load.specs.Loads.{loaded_unless, cleared_if, loaded_data, loaded_right, loaded_left, loaded_adjusted, loaded_two, loaded_then_cleared}
use Rattle.command_generator.specs.GeneratorLoads.{generator_word, loaded_gq, loaded_gj, loaded_gp, loaded_gn, loaded_gl, loaded_gk, loaded_gmode, loaded_go, after_generator_load}
use Rattle.command_modifier.specs.ModifierLoads.{modifier_word, loaded_mm, loaded_ml, mmode_by, loaded_mmode, loaded_mrm, after_modifier_load}
use Rattle.command_delay.specs.DelayLoads.{uu_of, delay_data, delay_mode_data, delay_number, delay_word, loaded_dly}
use Rattle.command_laws.proofs.Accepted.{Accepted, gmode-accepted, mmode-accepted, mrm-accepted, min-accepted, dly-accepted}

-- A valid machine.
abbrev pub Valid : List ℕ → Type 0
Valid m = valid Of1978 m ≡ true

-- Putting v at place i keeps a machine valid.
abbrev Keeps : ℕ → ℕ → Type 0
Keeps i v = (m : List ℕ) → Valid m → Valid (set m i v)

-- The word v passes the test of word j of a unit of region k.
abbrev Passes : ℕ → ℕ → ℕ → Type 0
Passes k j v = get_or (region (regions Of1978) k).tests j (λ y. false) v ≡ true

-- Word j of unit u of region k.
unit-keeps : (k u j i v : ℕ) → u < (region (regions Of1978) k).units → j < length (region (regions Of1978) k).tests
    → i ≡ start (regions Of1978) k + (length (region (regions Of1978) k).tests * u + j) → Single i → Passes k j v → Keeps i v
unit-keeps k u j i v h l q n p m e = valid-set Of1978 m e i v n (ap (λ (at : ℕ). test_at (regions Of1978) at v) q ∙ unit-test (regions Of1978) k u j v h l ∙ p)

-- A word of a generator, of a modifier, DX, a word from the counter on, and of a delay unit.
pub generator-keeps : (g j v : ℕ) → g < 256 → j < 11 → Passes 0 j v → Keeps (generator_at g + j) v
unfolding regions
generator-keeps g j v h l p = unit-keeps 0 g j (generator_at g + j) v h l (omega arith) (single-below (omega arith)) p

modifier-keeps : (k j v : ℕ) → k < 128 → j < 8 → Passes 1 j v → Keeps (modifier_at k + j) v
unfolding regions
modifier-keeps k j v h l p = unit-keeps 1 k j (modifier_at k + j) v h l (omega arith) (single-below (omega arith)) p

control-keeps : (i v : ℕ) → dx_at ≤ i → i < delay_at 0 → Single i → Passes 4 (i - dx_at) v → Keeps i v
unfolding regions
control-keeps i v h l s p = unit-keeps 4 0 (i - dx_at) i v (lit< tt) (omega arith) (omega arith) s p

pub dx-keeps : (v : ℕ) → Passes 4 0 v → Keeps dx_at v
unfolding regions
dx-keeps v p = control-keeps dx_at v (lit≤ tt) (lit< tt) (single-below (lit< tt)) p

pub later-keeps : (i v : ℕ) → n_at < i → i < delay_at 0 → Passes 4 (i - dx_at) v → Keeps i v
later-keeps i v h l p = control-keeps i v (omega arith) l (single-above h (omega arith)) p

delay-keeps : (u j v : ℕ) → u < 32 → j < 7 → Passes 5 j v → Keeps (delay_at u + j) v
unfolding regions
delay-keeps u j v h l p = unit-keeps 5 u j (delay_at u + j) v h l (omega arith) (single-above (omega arith) (omega arith)) p

module _ (c : ℕ) where
  -- The addressed generator, the addressed modifier and the addressed delay unit.
  own-keeps : (j v : ℕ) → j < 11 → Passes 0 j v → Keeps (generator_word c j) v
  own-keeps j v = generator-keeps (generator_number c) j v (omega arith)

  its-keeps : (j v : ℕ) → j < 8 → Passes 1 j v → Keeps (modifier_word c j) v
  its-keeps j v = modifier-keeps (modifier_number c) j v (omega arith)

  addressed-keeps : (j v : ℕ) → j < 7 → Passes 5 j v → Keeps (delay_word c j) v
  addressed-keeps j v = delay-keeps (delay_number c) j v (omega arith)

  -- The data and a field are within their widths.
  data-passes : bits word_bits (data_of c) ≡ true
  data-passes = lt-ltb (data_of c) (2 ^ word_bits) (omega arith)

  -- The shapes of a load.
  unless-valid : (b : Bool) (m : List ℕ) → Valid m → (i v : ℕ) → (b ≡ false → Keeps i v) → Valid (loaded_unless b m i v)
  unfolding loaded_unless
  unless-valid b m e i v p = of_test Valid b (λ q. e) (λ q. p q m e)

  cleared-valid : (b : Bool) (m : List ℕ) → Valid m → (i : ℕ) → Keeps i 0 → Valid (cleared_if b m i)
  unfolding cleared_if
  cleared-valid b m e i p = of-cond Valid b (p m e) e

  data-valid : (m : List ℕ) → Valid m → (i : ℕ) → Keeps i (data_of c) → Valid (loaded_data m c i)
  unfolding loaded_data
  data-valid m e i p = p m e

  adjusted-valid : (m : List ℕ) → Valid m → (i w : ℕ) → ((v : ℕ) → v < 2 ^ w → Keeps i v)
      → data_of c * 2 ^ (w - word_bits) + get_or m dx_at 0 / 2 ^ (40 - w) < 2 ^ w → Valid (loaded_adjusted m c i w)
  unfolding loaded_adjusted loaded_left loaded_right extended regions
  adjusted-valid m e i w p l =
      of-cond Valid (flag 27 c) (dx-keeps 0 refl (set m i _) (p _ l m e)) (p _ (low-lt w (signed word_bits (data_of c))) m e)

  two-valid : (m : List ℕ) → Valid m → (i v j w : ℕ) → (flag 4 c ≡ false → Keeps i v) → (flag 5 c ≡ false → Keeps j w) → Valid (loaded_two m c i v j w)
  unfolding loaded_two
  two-valid m e i v j w p q = unless-valid (flag 5 c) _ (unless-valid (flag 4 c) m e i v p) j w q

  then-cleared-valid : (m : List ℕ) → Valid m → (i v j w k : ℕ) → (flag 4 c ≡ false → Keeps i v) → (flag 5 c ≡ false → Keeps j w) → Keeps k 0
      → Valid (loaded_then_cleared m c i v j w k)
  unfolding loaded_then_cleared
  then-cleared-valid m e i v j w k p q r = cleared-valid (flag 6 c) _ (two-valid m e i v j w p q) k r

  module _ (m : List ℕ) (e : Valid m) where
    -- Generators.
    gq-valid : Valid (loaded_gq m c)
    unfolding loaded_gq regions
    gq-valid =
        let dx = (valid-controls Of1978 m e).dx in
        adjusted-valid m e (generator_word c GQ) gq_bits (λ v l. own-keeps GQ v (lit< tt) (lt-ltb v (2 ^ gq_bits) l)) (omega arith)

    gj-valid : Valid (loaded_gj m c)
    unfolding loaded_gj regions
    gj-valid =
        let dx = (valid-controls Of1978 m e).dx in
        adjusted-valid m e (generator_word c GJ) gj_bits (λ v l. own-keeps GJ v (lit< tt) (lt-ltb v (2 ^ gj_bits) l)) (omega arith)

    gp-valid : Valid (loaded_gp m c)
    unfolding loaded_gp regions
    gp-valid = data-valid m e (generator_word c GP) (own-keeps GP (data_of c) (lit< tt) data-passes)

    gn-valid : Valid (loaded_gn m c)
    unfolding loaded_gn regions
    gn-valid =
        two-valid m e (generator_word c GN) (field 9 19 c) (generator_word c GM) (field 20 23 c)
        (λ q. own-keeps GN (field 9 19 c) (lit< tt) (lt-ltb (field 9 19 c) (2 ^ gn_bits) (omega arith)))
        (λ q. own-keeps GM (field 20 23 c) (lit< tt) (lt-ltb (field 20 23 c) (2 ^ gm_bits) (omega arith)))

    gl-valid : Valid (loaded_gl m c)
    unfolding loaded_gl regions
    gl-valid =
        two-valid m e (generator_word c GL) (field 6 17 c) (generator_word c GSUM) (field 18 23 c)
        (λ q. own-keeps GL (field 6 17 c) (lit< tt) (lt-ltb (field 6 17 c) (2 ^ gl_bits) (omega arith)))
        (λ q. own-keeps GSUM (field 18 23 c) (lit< tt) (lt-ltb (field 18 23 c) (2 ^ gsum_bits) (omega arith)))

    gk-valid : Valid (loaded_gk m c)
    unfolding loaded_gk regions
    gk-valid = data-valid m e (generator_word c GK) (own-keeps GK (data_of c) (lit< tt) data-passes)

    gmode-valid : Accepted c → eqb (code4 c) 0b1010 ≡ true → Valid (loaded_gmode m c)
    unfolding loaded_gmode regions
    gmode-valid p t =
        then-cleared-valid m e (generator_word c GMODE) (field 7 16 c) (generator_word c GFM) (field 17 23 c) (generator_word c GK)
        (λ q. own-keeps GMODE (field 7 16 c) (lit< tt) (gmode-accepted c p t q))
        (λ q. own-keeps GFM (field 17 23 c) (lit< tt) (lt-ltb (field 17 23 c) (2 ^ gfm_bits) (omega arith)))
        (own-keeps GK 0 (lit< tt) refl)

    go-valid : Valid (loaded_go m c)
    unfolding loaded_go regions
    go-valid = data-valid m e (generator_word c GO) (own-keeps GO (data_of c) (lit< tt) data-passes)

    -- Modifiers.
    mm-valid : Valid (loaded_mm m c)
    unfolding loaded_mm regions
    mm-valid =
        let dx = (valid-controls Of1978 m e).dx in
        adjusted-valid m e (modifier_word c (cond (flag 28 c) M1 M0)) coefficient_bits
        (λ v l. let low = lt-ltb v (2 ^ coefficient_bits) l in of-cond (λ (j : ℕ). Keeps (modifier_word c j) v) (flag 28 c) (its-keeps M1 v (lit< tt) low) (its-keeps M0 v (lit< tt) low)) (omega arith)

    ml-valid : Valid (loaded_ml m c)
    unfolding loaded_ml regions
    ml-valid =
        data-valid m e (modifier_word c (cond (flag 28 c) L1 L0))
        (of-cond (λ (j : ℕ). Keeps (modifier_word c j) (data_of c)) (flag 28 c) (its-keeps L1 (data_of c) (lit< tt) data-passes) (its-keeps L0 (data_of c) (lit< tt) data-passes))

    mrm-valid : Accepted c → eqb (code5 c) 0b11111 ≡ true → Valid (loaded_mrm m c)
    unfolding loaded_mrm regions
    mrm-valid p t =
        then-cleared-valid m e (modifier_word c MRM) (field 8 15 c) (modifier_word c MIN) (field 16 23 c) (modifier_word c L1)
        (λ q. its-keeps MRM (field 8 15 c) (lit< tt) (mrm-accepted c p t q))
        (λ q. its-keeps MIN (field 16 23 c) (lit< tt) (min-accepted c p t q))
        (its-keeps L1 0 (lit< tt) refl)

    -- Delay units.
    pub delay-load-valid : Accepted c → eqb (code5 c) 0b00001 ≡ true → Valid (loaded_dly m c)
    unfolding loaded_dly regions
    delay-load-valid p t =
        let n = delay_data c in
        let mode = delay_mode_data c in
        let low = lt-ltb n (2 ^ delay_bits) (omega arith) in
        let x = addressed-keeps delay_x n (lit< tt) low m e in
        let z = addressed-keeps delay_z n (lit< tt) low m e in
        let mode-low = lt-ltb mode (2 ^ delay_mode_bits) (omega arith) in
        of-cond Valid (eqb (uu_of c) 0b00) (addressed-keeps delay_y 0 (lit< tt) refl _ x)
        (of-cond Valid (eqb (uu_of c) 0b01) (addressed-keeps delay_y (2 ^ delay_bits - 1 - n) (lit< tt) (lt-ltb (2 ^ delay_bits - 1 - n) (2 ^ delay_bits) (omega arith)) m e)
        (of_test Valid (eqb (uu_of c) 0b10)
        (λ q. addressed-keeps delay_p mode (lit< tt) (and_both (bits delay_mode_bits mode) (built_mode mode) mode-low (dly-accepted c p t q)) _ z)
        (λ q. e)))

-- A function of five bits that is built.
record Function (f : ℕ) : Type 0 where
  low : f < 2 ^ 5
  is-built : built_function f ≡ true

-- With four bits of scales it makes a good MMODE.
good-mmode : (f s : ℕ) → Function f → s < 2 ^ 4 → good_mmode Of1978 (f * 2 ^ 4 + s) ≡ true
good-mmode f s p l =
    let fl = p.low in
    let y = f * 2 ^ 4 + s in
    let top : y / 2 ^ 4 ≡ f = omega arith in
    and_both (bits mmode_bits y) (built_function (y / 2 ^ 4)) (lt-ltb y (2 ^ mmode_bits) (omega arith)) (ap built_function top ∙ p.is-built)

module _ (m : List ℕ) (e : Valid m) (c : ℕ) (p : Accepted c) where
  function-loaded : eqb (code5 c) 0b11110 ≡ true → Function (cond (flag 4 c) (get_or m (modifier_word c MMODE) 0 / 2 ^ 4) (field 8 12 c))
  function-loaded t = of_test Function (flag 4 c) (λ q. old) (λ q. new q) where
    old : Function (get_or m (modifier_word c MMODE) 0 / 2 ^ 4)
    old =
        let s = valid-modifier Of1978 m e (modifier_number c) (omega arith) in
        let l = s.mmode in
        record { low = omega arith; is-built = mmode-function _ s.good }

    new : flag 4 c ≡ false → Function (field 8 12 c)
    new q =
        let x = field 8 16 c in
        let top : field 8 12 c ≡ x / 2 ^ 4 = omega arith in
        record { low = omega arith; is-built = ap built_function top ∙ and_second (bits mmode_bits x) (built_function (x / 2 ^ 4)) (mmode-accepted c p t q) }

  mmode-valid : eqb (code5 c) 0b11110 ≡ true → Valid (loaded_mmode m c)
  unfolding loaded_mmode mmode_by regions
  mmode-valid t =
      let scales = of-cond (λ (s : ℕ). s < 2 ^ 4) (flag 7 c) {x = get_or m (modifier_word c MMODE) 0 % 2 ^ 4} {y = field 13 16 c} (omega arith) (omega arith) in
      let low = lt-ltb (field 17 23 c) (2 ^ msum_bits) (omega arith) in
      let mmode = its-keeps c MMODE _ (lit< tt) (good-mmode _ _ (function-loaded t) scales) m e in
      let msum = unless-valid c (flag 5 c) _ mmode (modifier_word c MSUM) (field 17 23 c) (λ q. its-keeps c MSUM (field 17 23 c) (lit< tt) low) in
      cleared-valid c (flag 6 c) _ msum (modifier_word c L0) (its-keeps c L0 0 (lit< tt) refl)

  -- All loads, in the sequence of their codes.
  pub generator-load-valid : Valid (after_generator_load m c)
  unfolding after_generator_load
  generator-load-valid =
      of-cond Valid (eqb (code3 c) 0b001) (gq-valid c m e)
      (of-cond Valid (eqb (code3 c) 0b010) (gj-valid c m e)
      (of-cond Valid (eqb (code4 c) 0b0110) (gp-valid c m e)
      (of-cond Valid (eqb (code4 c) 0b0111) (gn-valid c m e)
      (of-cond Valid (eqb (code4 c) 0b1000) (gl-valid c m e)
      (of-cond Valid (eqb (code4 c) 0b1001) (gk-valid c m e)
      (of_test Valid (eqb (code4 c) 0b1010) (λ t. gmode-valid c m e p t)
      (λ q. of-cond Valid (eqb (code4 c) 0b1011) (go-valid c m e) e)))))))

  pub modifier-load-valid : Valid (after_modifier_load m c)
  unfolding after_modifier_load
  modifier-load-valid =
      of-cond Valid (eqb (code3 c) 0b110) (mm-valid c m e)
      (of-cond Valid (eqb (code4 c) 0b1110) (ml-valid c m e)
      (of_test Valid (eqb (code5 c) 0b11110) (λ t. mmode-valid t)
      (λ q. of_test Valid (eqb (code5 c) 0b11111) (λ t. mrm-valid c m e p t) (λ q. e))))
