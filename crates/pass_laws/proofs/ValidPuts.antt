-- What a pass puts into the words of a valid machine passes its test, so that the machine stays valid.
-- Assumes nothing.
use mathlib.Core.Path.{◌≡◌, refl, ◌∙◌, ap}
use mathlib.Core.Bool.{Bool, true, false}
use mathlib.Core.List.{[]}
use Prim.Native.Nat.{ℕ, ◌+◌, ◌-◌, ◌*◌, ◌%◌, ◌^◌, ◌≤◌, ◌<◌}
use native.Mathlib.Omega.{arith}
use native.Mathlib.Nat.{mod-eq_of_lt, mod-lt}
use borrow.Author.Tests.{ltb-true, ltb-false, lt-ltb}
use lib.Dec.{ltb, lit<, lit≤}
use lib.ListN.{length, get_or, set}
use lib.Pow.{pow_pos}
use lib.Seq.{get_or-drop}
use Rattle.layout.specs.Layout.{generator_at, modifier_at, quadrant_at, dac_at, t_at, n_at, counter_at, update_ticks_at, delay_at, delay_y, delay_first, delay_second, delay_third, GJ, GK, GQ, GMODE, M1, L0, L1}
use Rattle.machine.specs.Questions.{good_gmode, regions, test_at, valid}
use Rattle.machine.proofs.Regions.{region, start, unit-test}
use Rattle.machine.proofs.ValidMachine.{Single, single-below, single-above, valid-at, valid-ticks, valid-from, valid-set, valid-generator}
use Rattle.pass_sums.specs.Sums.{generator_this, modifier_this, closed}
use Rattle.pass_sums.proofs.Blocks.{Outside, outside-before, outside-after}
use Rattle.pass_sums.proofs.Memory.{Quadrants}
use Rattle.pass_sums.proofs.Closing.{closed-outside, closed-generator-this, closed-generator-last, closed-modifier-this, closed-modifier-last}
use Rattle.generator.specs.declared.Generator.{Generator}
use Rattle.generator.specs.Generator.{loaded, stored}
use Rattle.modifier.specs.declared.Modifier.{Modifier}
use Rattle.modifier.specs.Modifier.{Ranged as RangedModifier, stored as stored_modifier}
use Rattle.delay.specs.declared.Delay.{Delay}
use Rattle.delay.specs.Delay.{Ranged as RangedDelay, stored as stored_delay}
use Rattle.pass_model.specs.Generators.{generator_of}
use Rattle.pass_model.specs.Pass.{counted}
use Rattle.layout.specs.Machine.{Machine, Sums, Reaches, update_ticks_of}
use Rattle.layout.specs.Widths.{counter_bits}
use Rattle.layout_texts.specs.declared.Text.{Text}

-- A word that passes the test of its register is put there.
pub valid-put : (text : Text) (m : Machine) → valid text m ≡ true → (k u j i v : ℕ) → u < (region (regions text) k).units → j < length (region (regions text) k).tests
    → i ≡ start (regions text) k + (length (region (regions text) k).tests * u + j) → Single i → get_or (region (regions text) k).tests j (λ y. false) v ≡ true
    → valid text (set m i v) ≡ true
valid-put text m e k u j i v h l q n p = valid-set text m e i v n (ap (λ (at : ℕ). test_at (regions text) at v) q ∙ unit-test (regions text) k u j v h l ∙ p)

-- The registers of generator g that a turn can change.
pub valid-generator-put : (text : Text) (m : Machine) → valid text m ≡ true → (g : ℕ) → g < 256 → (u : Generator)
    → u.gj < 2 ^ 28 → u.gk < 2 ^ 20 → u.gq < 2 ^ 24 → good_gmode text u.gmode ≡ true → valid text (stored m (generator_at g) u) ≡ true
unfolding stored regions
valid-generator-put text m e g h u gj gk gq mode =
    let m1 = set m (generator_at g + GJ) u.gj in
    let e1 = valid-put text m e 0 g 1 (generator_at g + GJ) u.gj h (lit< tt) (omega arith) (single-below (omega arith)) (lt-ltb u.gj (2 ^ 28) gj) in
    let m2 = set m1 (generator_at g + GK) u.gk in
    let e2 = valid-put text m1 e1 0 g 2 (generator_at g + GK) u.gk h (lit< tt) (omega arith) (single-below (omega arith)) (lt-ltb u.gk (2 ^ 20) gk) in
    let m3 = set m2 (generator_at g + GQ) u.gq in
    let e3 = valid-put text m2 e2 0 g 6 (generator_at g + GQ) u.gq h (lit< tt) (omega arith) (single-below (omega arith)) (lt-ltb u.gq (2 ^ 24) gq) in
    valid-put text m3 e3 0 g 10 (generator_at g + GMODE) u.gmode h (lit< tt) (omega arith) (single-below (omega arith)) mode

-- A DAC word.
pub valid-dac-put : (text : Text) (m : Machine) → valid text m ≡ true → (d v : ℕ) → d < 16 → v < 2 ^ 20 → valid text (set m (dac_at d) v) ≡ true
unfolding regions
valid-dac-put text m e d v h l = valid-put text m e 3 d 0 (dac_at d) v h (lit< tt) (omega arith) (single-below (omega arith)) (lt-ltb v (2 ^ 20) l)

-- M0, M1, L0 and L1 of a modifier.
pub valid-modifier-put : (text : Text) (m : Machine) → valid text m ≡ true → (k : ℕ) → k < 128 → (u : Modifier) → RangedModifier u → valid text (stored_modifier m (modifier_at k) u) ≡ true
unfolding stored_modifier regions
valid-modifier-put text m e k h u r =
    let m1 = set m (modifier_at k) u.m0 in
    let e1 = valid-put text m e 1 k 0 (modifier_at k) u.m0 h (lit< tt) (omega arith) (single-below (omega arith)) (lt-ltb u.m0 (2 ^ 30) r.m0-low) in
    let m2 = set m1 (modifier_at k + M1) u.m1 in
    let e2 = valid-put text m1 e1 1 k 1 (modifier_at k + M1) u.m1 h (lit< tt) (omega arith) (single-below (omega arith)) (lt-ltb u.m1 (2 ^ 30) r.m1-low) in
    let m3 = set m2 (modifier_at k + L0) u.l0 in
    let e3 = valid-put text m2 e2 1 k 2 (modifier_at k + L0) u.l0 h (lit< tt) (omega arith) (single-below (omega arith)) (lt-ltb u.l0 (2 ^ 20) r.l0-low) in
    valid-put text m3 e3 1 k 3 (modifier_at k + L1) u.l1 h (lit< tt) (omega arith) (single-below (omega arith)) (lt-ltb u.l1 (2 ^ 20) r.l1-low)

-- Y and the words on their way of a delay unit.
pub valid-delay-put : (text : Text) (m : Machine) → valid text m ≡ true → (u : ℕ) → u < 32 → (d : Delay) → RangedDelay d → valid text (stored_delay m (delay_at u) d) ≡ true
unfolding stored_delay regions
valid-delay-put text m e u h d r =
    let m1 = set m (delay_at u + delay_y) d.y in
    let e1 = valid-put text m e 5 u 1 (delay_at u + delay_y) d.y h (lit< tt) (omega arith) (single-above (omega arith) (omega arith)) (lt-ltb d.y (2 ^ 16) r.y-low) in
    let m2 = set m1 (delay_at u + delay_first) d.first in
    let e2 = valid-put text m1 e1 5 u 4 (delay_at u + delay_first) d.first h (lit< tt) (omega arith) (single-above (omega arith) (omega arith)) (lt-ltb d.first (2 ^ 20) r.first-low) in
    let m3 = set m2 (delay_at u + delay_second) d.second in
    let e3 = valid-put text m2 e2 5 u 5 (delay_at u + delay_second) d.second h (lit< tt) (omega arith) (single-above (omega arith) (omega arith)) (lt-ltb d.second (2 ^ 20) r.second-low) in
    valid-put text m3 e3 5 u 6 (delay_at u + delay_third) d.third h (lit< tt) (omega arith) (single-above (omega arith) (omega arith)) (lt-ltb d.third (2 ^ 20) r.third-low)

-- The counter.
pub valid-counted : (text : Text) (m : Machine) → valid text m ≡ true → valid text (counted m) ≡ true
unfolding counted regions
valid-counted text m e =
    valid-put text m e 4 0 3 counter_at ((get_or m counter_at 0 + 1) % 2 ^ counter_bits) (lit< tt) (lit< tt) refl (single-above (lit< tt) (lit< tt))
    (lt-ltb ((get_or m counter_at 0 + 1) % 2 ^ counter_bits) (2 ^ counter_bits) (mod-lt (get_or m counter_at 0 + 1) (pow_pos counter_bits)))

-- A word of sum memory.
sum-passes : (text : Text) (i v : ℕ) → 3840 ≤ i → i < 4096 → v < 2 ^ 20 → test_at (regions text) i v ≡ true
unfolding regions
sum-passes text i v a b l =
    let u = i - 3840 in
    let q : i ≡ start (regions text) 2 + (1 * u + 0) = omega arith in
    ap (λ (at : ℕ). test_at (regions text) at v) q ∙ unit-test (regions text) 2 u 0 v (omega arith) (lit< tt) ∙ lt-ltb v (2 ^ 20) l

-- The end of a pass, where the words of both this-pass quadrants have 20 bits.
pub valid-closed : (text : Text) (m : Machine) (s : Sums) → valid text m ≡ true → Reaches m → Quadrants s
    → ((i : ℕ) → i < 64 → get_or (get_or s generator_this []) i 0 < 2 ^ 20) → ((i : ℕ) → i < 64 → get_or (get_or s modifier_this []) i 0 < 2 ^ 20)
    → valid text (closed m s) ≡ true
valid-closed text m s e r k low₀ low₂ =
    valid-from text (closed m s) (λ i h. passes i h (ltb i 3840) (ltb i 3904) (ltb i 3968) (ltb i 4032) (ltb i 4096) refl refl refl refl refl) ticks
  where
    ticks : get_or (closed m s) update_ticks_at 0 ≡ update_ticks_of (closed m s)
    ticks =
        rw (
          closed-outside m s k update_ticks_at (outside-after update_ticks_at 3840 256 (lit≤ tt)),
          closed-outside m s k t_at (outside-after t_at 3840 256 (lit≤ tt)),
          closed-outside m s k n_at (outside-after n_at 3840 256 (lit≤ tt)),
        )
        (valid-ticks text m e)

    outside : (i : ℕ) → i < update_ticks_at → Outside i 3840 256 → test_at (regions text) i (get_or (closed m s) i 0) ≡ true
    outside i h o = rw (closed-outside m s k i o) (valid-at text m e i h)

    -- Word j of quadrant q.
    word : (q j i : ℕ) → q < 4 → j < 64 → i ≡ quadrant_at q + j → get_or (closed m s) (quadrant_at q + j) 0 < 2 ^ 20 → test_at (regions text) i (get_or (closed m s) i 0) ≡ true
    word q j i a b is l = rw is (sum-passes text (quadrant_at q + j) (get_or (closed m s) (quadrant_at q + j) 0) (omega arith) (omega arith) l)

    passes : (i : ℕ) → i < update_ticks_at → (a b c d f : Bool) → ltb i 3840 ≡ a → ltb i 3904 ≡ b → ltb i 3968 ≡ c → ltb i 4032 ≡ d → ltb i 4096 ≡ f
        → test_at (regions text) i (get_or (closed m s) i 0) ≡ true
    passes i h true b c d f ea eb ec ed ef = outside i h (outside-before i 3840 256 (ltb-true i 3840 ea))
    passes i h false true c d f ea eb ec ed ef =
        let x = ltb-false i 3840 ea in
        let y = ltb-true i 3904 eb in
        word 0 (i - 3840) i (lit< tt) (omega arith) (omega arith) (rw (closed-generator-this m s k r (i - 3840) (omega arith)) (lit< tt))
    passes i h false false true d f ea eb ec ed ef =
        let x = ltb-false i 3904 eb in
        let y = ltb-true i 3968 ec in
        word 1 (i - 3904) i (lit< tt) (omega arith) (omega arith)
        (rw (closed-generator-last m s k r (i - 3904) (omega arith)) (low₀ (i - 3904) (omega arith)))
    passes i h false false false true f ea eb ec ed ef =
        let x = ltb-false i 3968 ec in
        let y = ltb-true i 4032 ed in
        word 2 (i - 3968) i (lit< tt) (omega arith) (omega arith) (rw (closed-modifier-this m s k r (i - 3968) (omega arith)) (lit< tt))
    passes i h false false false false true ea eb ec ed ef =
        let x = ltb-false i 4032 ed in
        let y = ltb-true i 4096 ef in
        word 3 (i - 4032) i (lit< tt) (omega arith) (omega arith)
        (rw (closed-modifier-last m s k r (i - 4032) (omega arith)) (low₂ (i - 4032) (omega arith)))
    passes i h false false false false false ea eb ec ed ef = outside i h (outside-after i 3840 256 (ltb-false i 4096 ef))

-- GMODE of a generator that is loaded from a valid machine is the word itself, and good.
pub gmode-loaded : (text : Text) (m : Machine) → valid text m ≡ true → (g : ℕ) → g < 256 → (generator_of m g).gmode ≡ get_or m (generator_at g + GMODE) 0
unfolding generator_of loaded
gmode-loaded text m e g h = rw (get_or-drop (generator_at g) m 10 0) (mod-eq_of_lt (valid-generator text m e g h).gmode)

pub gmode-good : (text : Text) (m : Machine) → valid text m ≡ true → (g : ℕ) → g < 256 → good_gmode text (generator_of m g).gmode ≡ true
gmode-good text m e g h = rw (gmode-loaded text m e g h) (valid-generator text m e g h).good
