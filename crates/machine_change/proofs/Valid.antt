-- A change of a machine that passes question 2 is let through by its new word just where there is such a change and the changed machine passes.
-- Assumes nothing.
use mathlib.Core.Path.{◌≡◌, refl, sym, ◌∙◌}
use mathlib.Core.Logic.{◌≢◌}
use mathlib.Core.Bool.{Bool, true, false, cond, ◌&&◌, ◌||◌, true≢false}
use Prim.Native.Nat.{ℕ, ◌+◌, ◌-◌, ◌*◌, ◌/◌, ◌<◌, ◌≤◌}
use native.Mathlib.Omega.{arith}
use native.Mathlib.Nat.{zero-add}
use borrow.Author.Tests.{eqb-true, eqb-false, eq-eqb, ne_eqb, leb-true, leb-false, le-leb, lt-leb, ltb-true, lt-ltb}
use lib.Dec.{eqb, leb, ltb, lit<}
use lib.ListN.{length, get_or, set, length-set}
use lib.Seq.{get_or-set_same, get_or-set_other}
use Rattle.base_lists.proofs.Below.{both_ways, and_first, and_second, and_both}
use Rattle.layout.specs.Layout.{machine_length, generator_at, t_at, update_ticks_at, GO, GSUM, GFM, GMODE}
use Rattle.layout.specs.Machine.{Machine, ticks_of}
use Rattle.layout.proofs.UpdateTicks.{counted-length, counted-other}
use Rattle.layout_texts.specs.declared.Text.TheVariants.{Of1978}
use Rattle.machine.specs.Questions.{bits, between, good_gmode, regions, test_at, valid}
use Rattle.machine.proofs.Regions.{unit-test}
use Rattle.machine.proofs.ValidMachine.{Single, single-below, reaches, valid-at, valid-set, valid-with-ticks, valid-generator, valid-controls}
use Rattle.machine_change.specs.Change.{Change, gmode_change, gsum_change, gfm_change, dac_change, tick_more, tick_fewer, is_change, register_changed, with_ticks, changed_by, is_of}
use Rattle.machine_change.specs.AsCoded.{value_fits, let_through}

-- The test of a generator's register.
module _ (g : ℕ) (l : g < 256) (x : ℕ) where
  gmode-test : test_at (regions Of1978) (generator_at g + GMODE) x ≡ good_gmode Of1978 x
  unfolding regions
  gmode-test = rw (zero-add (11 * g + 10)) at (unit-test (regions Of1978) 0 g 10 x l (lit< tt))

  gsum-test : test_at (regions Of1978) (generator_at g + GSUM) x ≡ bits 6 x
  unfolding regions
  gsum-test = rw (zero-add (11 * g + 8)) at (unit-test (regions Of1978) 0 g 8 x l (lit< tt))

  gfm-test : test_at (regions Of1978) (generator_at g + GFM) x ≡ bits 7 x
  unfolding regions
  gfm-test = rw (zero-add (11 * g + 9)) at (unit-test (regions Of1978) 0 g 9 x l (lit< tt))

  go-test : test_at (regions Of1978) (generator_at g + GO) x ≡ bits 20 x
  unfolding regions
  go-test = rw (zero-add (11 * g + 0)) at (unit-test (regions Of1978) 0 g 0 x l (lit< tt))

ticks-test : (x : ℕ) → test_at (regions Of1978) t_at x ≡ between 1 256 x
unfolding regions test_at
ticks-test x = refl

module _ (m : Machine) (whole : length m ≡ machine_length) (good : valid Of1978 m ≡ true) where
  -- A machine with another word passes by that word.
  word-decides : (i v : ℕ) → Single i → i < length m → valid Of1978 (set m i v) ≡ test_at (regions Of1978) i v
  word-decides i v s l =
      both_ways (valid Of1978 (set m i v)) (test_at (regions Of1978) i v)
      (λ e. rw (get_or-set_same m i v 0 l) at (valid-at Of1978 (set m i v) e i s.inside))
      (λ e. valid-set Of1978 m good i v s e)

  ticks-decide : (t : ℕ) → valid Of1978 (with_ticks m t) ≡ between 1 256 t
  ticks-decide t =
      both_ways (valid Of1978 (with_ticks m t)) (test_at (regions Of1978) t_at t)
      (λ e. rw (counted-other (set m t_at t) t_at (eqb-false t_at update_ticks_at refl), get_or-set_same m t_at t 0 (omega arith)) at (valid-at Of1978 (with_ticks m t) e t_at (lit< tt)))
      (λ e. valid-with-ticks Of1978 m good (reaches m whole) t_at t (lit< tt) e)
      ∙ ticks-test t

  register-decides : (i v : ℕ) → i < 2816 → valid Of1978 (set m i v) ≡ test_at (regions Of1978) i v
  register-decides i v l = word-decides i v (single-below (omega arith)) (omega (arith, whole))

  -- One tick more or fewer.
  more-decides : between 1 256 (ticks_of m + 1) ≡ ltb (ticks_of m) 256
  more-decides =
      both_ways (between 1 256 (ticks_of m + 1)) (ltb (ticks_of m) 256)
      (λ e. lt-ltb (ticks_of m) 256 (omega (arith, leb-true (ticks_of m + 1) 256 (and_second (leb 1 (ticks_of m + 1)) (leb (ticks_of m + 1) 256) e))))
      (λ e.
      let h = ltb-true (ticks_of m) 256 e in
      and_both (leb 1 (ticks_of m + 1)) (leb (ticks_of m + 1) 256) (le-leb 1 (ticks_of m + 1) (omega arith)) (le-leb (ticks_of m + 1) 256 (omega arith)))

  fewer-decides : between 1 256 (ticks_of m - 1) ≡ ltb 1 (ticks_of m)
  fewer-decides =
      let high = (valid-controls Of1978 m good).t_high in
      both_ways (between 1 256 (ticks_of m - 1)) (ltb 1 (ticks_of m))
      (λ e. lt-ltb 1 (ticks_of m) (omega (arith, leb-true 1 (ticks_of m - 1) (and_first (leb 1 (ticks_of m - 1)) (leb (ticks_of m - 1) 256) e))))
      (λ e.
      let h = ltb-true 1 (ticks_of m) e in
      and_both (leb 1 (ticks_of m - 1)) (leb (ticks_of m - 1) 256) (le-leb 1 (ticks_of m - 1) (omega arith)) (le-leb (ticks_of m - 1) 256 (omega (arith, high))))

  -- A generator's word.
  dac-decides : (g v : ℕ) → g < 256 → ltb v 16 ≡ (ltb v 16 && valid Of1978 (set m (generator_at g + GO) (get_or m (generator_at g + GO) 0 / 16 * 16 + v)))
  dac-decides g v l = go (ltb v 16) refl
    where
      at : generator_at g + GO ≡ generator_at g
      at = omega arith

      go : (b : Bool) → ltb v 16 ≡ b → b ≡ (b && valid Of1978 (set m (generator_at g + GO) (get_or m (generator_at g + GO) 0 / 16 * 16 + v)))
      go true e =
          let low : get_or m (generator_at g + GO) 0 < 1048576 = rw at (valid-generator Of1978 m good g l).go in
          let h = ltb-true v 16 e in
          sym (
          register-decides (generator_at g + GO) (get_or m (generator_at g + GO) 0 / 16 * 16 + v) (omega arith)
          ∙ go-test g l (get_or m (generator_at g + GO) 0 / 16 * 16 + v)
          ∙ lt-ltb (get_or m (generator_at g + GO) 0 / 16 * 16 + v) 1048576 (omega (arith, low, h))
          )
      go false e = refl

  module _ (kind g v : ℕ) where
    abbrev c : Change
    c = record { kind = kind; generator = g; value = v }

    register-fits : g < 256 → kind ≤ 3 → value_fits kind v ≡ (cond (eqb kind dac_change) (ltb v 16) true && valid Of1978 (register_changed m c))
    unfolding value_fits register_changed
    register-fits l h = go (eqb kind gmode_change) refl (eqb kind gsum_change) refl (eqb kind gfm_change) refl
      where
        go : (a : Bool) → eqb kind gmode_change ≡ a → (b : Bool) → eqb kind gsum_change ≡ b → (d : Bool) → eqb kind gfm_change ≡ d
            → cond a (good_gmode Of1978 v) (cond b (bits 6 v) (cond d (bits 7 v) (ltb v 16)))
            ≡ (
            cond (eqb kind dac_change) (ltb v 16) true
            && valid Of1978
            (
            cond a (set m (generator_at g + GMODE) v)
            (cond b (set m (generator_at g + GSUM) v)
            (cond d (set m (generator_at g + GFM) v)
            (set m (generator_at g + GO) (get_or m (generator_at g + GO) 0 / 16 * 16 + v))))
            )
            )
        go true p b q d r =
            rw (ne_eqb kind dac_change (λ e. omega (arith, eqb-true kind gmode_change p, e)))
            (sym (register-decides (generator_at g + GMODE) v (omega arith) ∙ gmode-test g l v))
        go false p true q d r =
            rw (ne_eqb kind dac_change (λ e. omega (arith, eqb-true kind gsum_change q, e)))
            (sym (register-decides (generator_at g + GSUM) v (omega arith) ∙ gsum-test g l v))
        go false p false q true r =
            rw (ne_eqb kind dac_change (λ e. omega (arith, eqb-true kind gfm_change r, e)))
            (sym (register-decides (generator_at g + GFM) v (omega arith) ∙ gfm-test g l v))
        go false p false q false r =
            let k : kind ≡ dac_change = omega (arith, h, eqb-false kind gmode_change p, eqb-false kind gsum_change q, eqb-false kind gfm_change r) in
            rw (eq-eqb kind dac_change k) (dac-decides g v l)

    register-let : kind ≢ tick_more → kind ≢ tick_fewer
        → ((leb kind 3 && ltb g 256) && value_fits kind v)
        ≡ (cond (leb kind 3) (ltb g 256 && cond (eqb kind dac_change) (ltb v 16) true) (leb kind 5) && valid Of1978 (register_changed m c))
    register-let no_more no-fewer = go (leb kind 3) refl (ltb g 256) refl
      where
        go : (a : Bool) → leb kind 3 ≡ a → (b : Bool) → ltb g 256 ≡ b
            → ((a && b) && value_fits kind v) ≡ (cond a (b && cond (eqb kind dac_change) (ltb v 16) true) (leb kind 5) && valid Of1978 (register_changed m c))
        go true p true q = register-fits (ltb-true g 256 q) (leb-true kind 3 p)
        go true p false q = refl
        go false p b q = rw (lt-leb kind 5 (omega (arith, leb-false kind 3 p, no_more, no-fewer)))

    pub let-through-is : let_through m c ≡ (is_change c && valid Of1978 (changed_by m c))
    unfolding let_through is_change changed_by
    let-through-is = go (eqb kind tick_more) refl (eqb kind tick_fewer) refl
      where
        go : (a : Bool) → eqb kind tick_more ≡ a → (b : Bool) → eqb kind tick_fewer ≡ b
            → cond a (ltb (ticks_of m) 256) (cond b (ltb 1 (ticks_of m)) (leb kind 3 && ltb g 256 && value_fits kind v))
            ≡ (
            cond (leb kind 3) (ltb g 256 && cond (eqb kind dac_change) (ltb v 16) true) (leb kind 5)
            && valid Of1978 (cond a (with_ticks m (ticks_of m + 1)) (cond b (with_ticks m (ticks_of m - 1)) (register_changed m c)))
            )
        go true p b q = rw (eqb-true kind tick_more p) (sym (ticks-decide (ticks_of m + 1) ∙ more-decides))
        go false p true q = rw (eqb-true kind tick_fewer q) (sym (ticks-decide (ticks_of m - 1) ∙ fewer-decides))
        go false p false q = register-let (eqb-false kind tick_more p) (eqb-false kind tick_fewer q)

-- What a change leaves: the length, and every word that it isn't of.
module _ (m : Machine) (kind g v : ℕ) where
  abbrev d : Change
  d = record { kind = kind; generator = g; value = v }

  pub changed-length : length (changed_by m d) ≡ length m
  unfolding changed_by register_changed
  changed-length = go (eqb kind tick_more) (eqb kind tick_fewer) (eqb kind gmode_change) (eqb kind gsum_change) (eqb kind gfm_change)
    where
      go : (a b x y z : Bool) → length
          (cond a (with_ticks m (ticks_of m + 1))
          (cond b (with_ticks m (ticks_of m - 1))
          (cond x (set m (generator_at g + GMODE) v)
          (cond y (set m (generator_at g + GSUM) v)
          (cond z (set m (generator_at g + GFM) v)
          (set m (generator_at g + GO) (get_or m (generator_at g + GO) 0 / 16 * 16 + v))))))) ≡ length m
      go true b x y z = counted-length (set m t_at (ticks_of m + 1)) ∙ length-set m t_at (ticks_of m + 1)
      go false true x y z = counted-length (set m t_at (ticks_of m - 1)) ∙ length-set m t_at (ticks_of m - 1)
      go false false true y z = length-set m (generator_at g + GMODE) v
      go false false false true z = length-set m (generator_at g + GSUM) v
      go false false false false true = length-set m (generator_at g + GFM) v
      go false false false false false = length-set m (generator_at g + GO) (get_or m (generator_at g + GO) 0 / 16 * 16 + v)

  ticks-elsewhere : (t i : ℕ) → (eqb i t_at || eqb i update_ticks_at) ≡ false → get_or (with_ticks m t) i 0 ≡ get_or m i 0
  ticks-elsewhere t i e =
      let none = neither (eqb i t_at) (eqb i update_ticks_at) e in
      counted-other (set m t_at t) i (eqb-false i update_ticks_at none.1) ∙ get_or-set_other m t_at i t 0 (eqb-false i t_at none.0)
    where
      neither : (a b : Bool) → (a || b) ≡ false → (a ≡ false) × (b ≡ false)
      neither false false q = (refl, refl)
      neither false true q = absurd (true≢false q)
      neither true b q = absurd (true≢false q)

  pub change-elsewhere : kind ≤ 5 → (i : ℕ) → is_of d i ≡ false → get_or (changed_by m d) i 0 ≡ get_or m i 0
  unfolding is_of changed_by register_changed
  change-elsewhere h i = go (eqb kind 4) refl (eqb kind 5) refl (eqb kind 0) refl (eqb kind 1) refl (eqb kind 2) refl (eqb kind 3) refl
    where
      go : (a : Bool) → eqb kind 4 ≡ a → (b : Bool) → eqb kind 5 ≡ b → (x : Bool) → eqb kind 0 ≡ x → (y : Bool) → eqb kind 1 ≡ y → (z : Bool) → eqb kind 2 ≡ z → (w : Bool) → eqb kind 3 ≡ w
          → cond x (eqb i (generator_at g + GMODE))
          (cond y (eqb i (generator_at g + GSUM)) (cond z (eqb i (generator_at g + GFM)) (cond w (eqb i (generator_at g + GO)) (eqb i t_at || eqb i update_ticks_at)))) ≡ false
          → get_or
          (cond a (with_ticks m (ticks_of m + 1))
          (cond b (with_ticks m (ticks_of m - 1))
          (cond x (set m (generator_at g + GMODE) v)
          (cond y (set m (generator_at g + GSUM) v)
          (cond z (set m (generator_at g + GFM) v)
          (set m (generator_at g + GO) (get_or m (generator_at g + GO) 0 / 16 * 16 + v))))))) i 0 ≡ get_or m i 0
      go true p b q true r y s z t w u e = absurd (omega (arith, eqb-true kind 4 p, eqb-true kind 0 r))
      go true p b q false r true s z t w u e = absurd (omega (arith, eqb-true kind 4 p, eqb-true kind 1 s))
      go true p b q false r false s true t w u e = absurd (omega (arith, eqb-true kind 4 p, eqb-true kind 2 t))
      go true p b q false r false s false t true u e = absurd (omega (arith, eqb-true kind 4 p, eqb-true kind 3 u))
      go true p b q false r false s false t false u e = ticks-elsewhere (ticks_of m + 1) i e
      go false p true q true r y s z t w u e = absurd (omega (arith, eqb-true kind 5 q, eqb-true kind 0 r))
      go false p true q false r true s z t w u e = absurd (omega (arith, eqb-true kind 5 q, eqb-true kind 1 s))
      go false p true q false r false s true t w u e = absurd (omega (arith, eqb-true kind 5 q, eqb-true kind 2 t))
      go false p true q false r false s false t true u e = absurd (omega (arith, eqb-true kind 5 q, eqb-true kind 3 u))
      go false p true q false r false s false t false u e = ticks-elsewhere (ticks_of m - 1) i e
      go false p false q true r y s z t w u e = get_or-set_other m (generator_at g + GMODE) i v 0 (eqb-false i (generator_at g + GMODE) e)
      go false p false q false r true s z t w u e = get_or-set_other m (generator_at g + GSUM) i v 0 (eqb-false i (generator_at g + GSUM) e)
      go false p false q false r false s true t w u e = get_or-set_other m (generator_at g + GFM) i v 0 (eqb-false i (generator_at g + GFM) e)
      go false p false q false r false s false t true u e =
          get_or-set_other m (generator_at g + GO) i (get_or m (generator_at g + GO) 0 / 16 * 16 + v) 0 (eqb-false i (generator_at g + GO) e)
      go false p false q false r false s false t false u e =
          absurd (omega (arith, h, eqb-false kind 4 p, eqb-false kind 5 q, eqb-false kind 0 r, eqb-false kind 1 s, eqb-false kind 2 t, eqb-false kind 3 u))
