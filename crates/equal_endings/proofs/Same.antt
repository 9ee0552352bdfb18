-- Two orders that agree leave the same after the generators: words, sum memory, written items and counts, each by its closed form.
-- Assumes nothing.
use mathlib.Core.Path.{◌≡◌, refl, sym, ap, ◌∙◌, subst}
use mathlib.Core.Bool.{Bool, true, false, cond, ◌&&◌}
use mathlib.Core.List.{List, [], map}
use Prim.Native.Nat.{ℕ, zero, suc, ◌+◌, ◌-◌, ◌*◌, ◌/◌, ◌%◌, ◌^◌, ◌≤◌, ◌<◌}
use native.Mathlib.Omega.{arith}
use native.Mathlib.Nat.{div-add-mod}
use borrow.Author.Tests.{leb-true, ltb-true, ltb-false, eqb-true, eqb-false}
use lib.Dec.{eqb, leb, ltb}
use lib.ListN.{length, get_or}
use lib.Seq.{ext_get_or, sets}
use Rattle.layout.specs.Layout.{generator_at, dac_at}
use Rattle.layout.specs.Machine.{Machine, Order, Items, Places}
use Rattle.machine.proofs.ValidMachine.{reaches}
use Rattle.pass_order.specs.Order.{IsOrder}
use Rattle.pass_sums.specs.Sums.{sum_at, sums_of}
use Rattle.pass_sums.proofs.Memory.{Quadrants, sums-quadrants}
use Rattle.generator.specs.declared.Generator.{Generator}
use Rattle.pass_model.specs.Generators.{Generators, State, steps, begun, taken_by}
use Rattle.pass_laws.specs.AsCoded.{RegistersOf}
use Rattle.pass_laws.proofs.Frames.{Sixteen, Setting, apart_other, step-below, steps-keep, steps-length, steps-quadrant, steps-quadrants, steps-middle, steps-beyond, steps-setting}
use Rattle.pass_laws.proofs.Passing.{begun-sums}
use Rattle.base_sequences.specs.Sequences.{keep, some, last_of, before, latest, total}
use Rattle.base_sequences.proofs.Entries.{last-passes}
use Rattle.base_sequences.proofs.Orders.{last-below, some-orders, keep-below, length-keep}
use Rattle.base_sequences.proofs.Mapped.{map-tells}
use Rattle.base_sequences.proofs.Totals.{total-orders}
use Rattle.compare_agreement.specs.Agreement.{Settings, replaces_word, adds_to_word, last_replacing, place_replacing, after_replacing, SameWord, Agreeing}
use Rattle.equal_endings.specs.AsCoded.{turn_at, p_at, sends_at, triggers_at, Follows, triggered_below_in, taken_in, word_after, StageEnds, SameTaken}
use Rattle.equal_endings.proofs.Ends.{stage-ends}

-- What the last one that passes leaves, by two orders of the same numbers.
latest-same : (t : ℕ) (o₁ o₂ : Order) → IsOrder t o₁ → IsOrder t o₂ → (p : ℕ → Bool) (f : ℕ → ℕ) (x : ℕ)
    → (some p o₁ ≡ true → some p o₂ ≡ true → f (last_of p o₁) ≡ f (last_of p o₂)) → latest p f o₁ x ≡ latest p f o₂ x
unfolding latest
latest-same t o₁ o₂ is₁ is₂ p f x h = rw (← both) (go (some p o₁) refl)
  where
    both : some p o₁ ≡ some p o₂
    both = some-orders t o₁ o₂ is₁.once is₂.once is₁.below is₂.below p

    go : (b : Bool) → some p o₁ ≡ b → cond b (f (last_of p o₁)) x ≡ cond b (f (last_of p o₂)) x
    go true e = h e (sym both ∙ e)
    go false e = refl

three : {a b c x y z : ℕ} → a ≡ x → b ≡ y → c ≡ z → (a + b + c) % 2 ^ 20 ≡ (x + y + z) % 2 ^ 20
three e f g = rw (e, f, g)

module _ (of : Generators) (s : Settings) (m : Machine) (f : Follows of s m) (items : Items) (places : Places) (o₁ o₂ : Order)
    (is₁ : IsOrder s.ticks o₁) (is₂ : IsOrder s.ticks o₂) (ag : Agreeing s o₁ o₂) where
  abbrev start : State
  start = begun m (sums_of m) places

  -- The state after an order.
  abbrev at : Order → State
  at order = steps of items start order

  ends₁ : StageEnds of m s items places o₁ (taken_in of m items places o₁)
  ends₁ = stage-ends of s m f items places o₁ is₁

  ends₂ : StageEnds of m s items places o₂ (taken_in of m items places o₂)
  ends₂ = stage-ends of s m f items places o₂ is₂

  sixteen : Sixteen of
  sixteen = record { dac-low = f.dac-low }

  below : (o : Order) → IsOrder s.ticks o → (i : ℕ) → i < length o → get_or o i 0 < 256
  below o is i h = omega (arith, is.below i h, f.few)

  -- A generator that waits is told the same, by the first point.
  told_same : (g : ℕ) → g < s.ticks → s.waits g ≡ true → triggered_below_in of m o₁ g ≡ triggered_below_in of m o₂ g
  unfolding triggered_below_in
  told_same g h w = go (leb of.distance g) refl (triggers_at of m (g - of.distance)) refl
    where
      go : (a : Bool) → leb of.distance g ≡ a → (b : Bool) → triggers_at of m (g - of.distance) ≡ b
          → (a && (b && before (g - of.distance) g o₁)) ≡ (a && (b && before (g - of.distance) g o₂))
      go true ea true eb =
          let k = g - of.distance in
          let back : s.distance + k ≡ g = omega (arith, leb-true of.distance g ea, f.distance) in
          rw back at (ag.neighbours k (omega (arith, back)) (rw back w) ((f.turns k (omega (arith, back))).triggering eb))
      go true ea false eb = refl
      go false ea b eb = refl

  unit-same : (g : ℕ) → g < s.ticks → (turn_at of m g (triggered_below_in of m o₁ g)).unit ≡ (turn_at of m g (triggered_below_in of m o₂ g)).unit
  unit-same g h = go (s.waits g) refl
    where
      go : (b : Bool) → s.waits g ≡ b → (turn_at of m g (triggered_below_in of m o₁ g)).unit ≡ (turn_at of m g (triggered_below_in of m o₂ g)).unit
      go true e = ap (λ (t : Bool). (turn_at of m g t).unit) (told_same g h e)
      go false e = (f.turns g h).unit e (triggered_below_in of m o₁ g) ∙ sym ((f.turns g h).unit e (triggered_below_in of m o₂ g))

  -- A word of a generator that is taken.
  own-word : (g : ℕ) → g < s.ticks → (j : ℕ) → j < 11 → get_or (at o₁).words (generator_at g + j) 0 ≡ get_or (at o₂).words (generator_at g + j) 0
  unfolding taken_by
  own-word g h j l = go (eqb j 1) (eqb j 2) (eqb j 6) (eqb j 10) refl refl refl refl
    where
      r₁ : RegistersOf (at o₁).words g (turn_at of m g (triggered_below_in of m o₂ g)).unit
      r₁ = subst (λ (u : Generator). RegistersOf (at o₁).words g u) (unit-same g h) (ends₁.own g h)

      r₂ : RegistersOf (at o₂).words g (turn_at of m g (triggered_below_in of m o₂ g)).unit
      r₂ = ends₂.own g h

      go : (a b c d : Bool) → eqb j 1 ≡ a → eqb j 2 ≡ b → eqb j 6 ≡ c → eqb j 10 ≡ d
          → get_or (at o₁).words (generator_at g + j) 0 ≡ get_or (at o₂).words (generator_at g + j) 0
      go true b c d ea eb ec ed = rw (eqb-true j 1 ea) (r₁.gj ∙ sym r₂.gj)
      go false true c d ea eb ec ed = rw (eqb-true j 2 eb) (r₁.gk ∙ sym r₂.gk)
      go false false true d ea eb ec ed = rw (eqb-true j 6 ec) (r₁.gq ∙ sym r₂.gq)
      go false false false true ea eb ec ed = rw (eqb-true j 10 ed) (r₁.gmode ∙ sym r₂.gmode)
      go false false false false ea eb ec ed =
          let c : Setting j
          = record { inside = l; not-gj = eqb-false j 1 ea; not-gk = eqb-false j 2 eb; not-gq = eqb-false j 6 ec; not-gmode = eqb-false j 10 ed } in
          steps-setting of items o₁ start g j (omega (arith, f.few)) c ∙ sym (steps-setting of items o₂ start g j (omega (arith, f.few)) c)

  -- A word of a generator from T on.
  past_word : (o : Order) → IsOrder s.ticks o → (g : ℕ) → s.ticks ≤ g → g < 256 → (j : ℕ) → j < 11
      → get_or (at o).words (generator_at g + j) 0 ≡ get_or start.words (generator_at g + j) 0
  past_word o is g p h j l =
      steps-keep of items (λ k. k < s.ticks) (λ t. get_or t.words (generator_at g + j) 0 ≡ get_or start.words (generator_at g + j) 0)
      (λ t k c e. step-below of items t k (generator_at g + j) (omega arith) (apart_other k g j l (λ q. omega arith)) ∙ e) o is.below start refl

  -- A DAC word, by the second point.
  dac-word : (d : ℕ) → d < 16 → get_or (at o₁).words (dac_at d) 0 ≡ get_or (at o₂).words (dac_at d) 0
  unfolding taken_by
  dac-word d h =
      let p = s.feeds d in
      ends₁.dac d h
      ∙ latest-same s.ticks o₁ o₂ is₁ is₂ p (sends_at of m) (get_or m (dac_at d) 0)
      (λ e₁ e₂.
      let l₁ = last-below s.ticks o₁ is₁.once is₁.below p e₁ in
      let l₂ = last-below s.ticks o₂ is₂.once is₂.below p e₂ in
      f.source (last_of p o₁) (last_of p o₂) l₁ l₂ (ag.feeders d (last_of p o₁) h l₁ (last-passes p o₁ e₁)))
      ∙ sym (ends₂.dac d h)

  -- Any word.
  each_word : (i : ℕ) → get_or (at o₁).words i 0 ≡ get_or (at o₂).words i 0
  each_word i = go (ltb i 2816) refl (ltb i 4096) refl (ltb i 4112) refl
    where
      generators : i < 2816 → get_or (at o₁).words i 0 ≡ get_or (at o₂).words i 0
      generators h = subst (λ (k : ℕ). get_or (at o₁).words k 0 ≡ get_or (at o₂).words k 0) (div-add-mod i 11) (by-ticks (ltb (i / 11) s.ticks) refl)
        where
          by-ticks : (b : Bool) → ltb (i / 11) s.ticks ≡ b → get_or (at o₁).words (11 * (i / 11) + i % 11) 0 ≡ get_or (at o₂).words (11 * (i / 11) + i % 11) 0
          by-ticks true e = own-word (i / 11) (ltb-true (i / 11) s.ticks e) (i % 11) (omega arith)
          by-ticks false e =
              let p = ltb-false (i / 11) s.ticks e in
              past_word o₁ is₁ (i / 11) p (omega arith) (i % 11) (omega arith) ∙ sym (past_word o₂ is₂ (i / 11) p (omega arith) (i % 11) (omega arith))

      dacs : 4096 ≤ i → i < 4112 → get_or (at o₁).words i 0 ≡ get_or (at o₂).words i 0
      dacs a b = subst (λ (k : ℕ). get_or (at o₁).words k 0 ≡ get_or (at o₂).words k 0) (omega arith) (dac-word (i - 4096) (omega arith))

      go : (a : Bool) → ltb i 2816 ≡ a → (b : Bool) → ltb i 4096 ≡ b → (c : Bool) → ltb i 4112 ≡ c → get_or (at o₁).words i 0 ≡ get_or (at o₂).words i 0
      go true ea b eb c ec = generators (ltb-true i 2816 ea)
      go false ea true eb c ec =
          steps-middle of items o₁ start (below o₁ is₁) i (ltb-false i 2816 ea) (ltb-true i 4096 eb)
          ∙ sym (steps-middle of items o₂ start (below o₂ is₂) i (ltb-false i 2816 ea) (ltb-true i 4096 eb))
      go false ea false eb true ec = dacs (ltb-false i 4096 eb) (ltb-true i 4112 ec)
      go false ea false eb false ec =
          steps-beyond of items o₁ start (below o₁ is₁) sixteen i (ltb-false i 4112 ec)
          ∙ sym (steps-beyond of items o₂ start (below o₂ is₂) sixteen i (ltb-false i 4112 ec))

  same-words : (at o₁).words ≡ (at o₂).words
  same-words = ext_get_or 0 (at o₁).words (at o₂).words (steps-length of items o₁ start ∙ sym (steps-length of items o₂ start)) (λ i h. each_word i)

  -- A word of generator-this, by the fourth point.
  abbrev brought : ℕ → Order → ℕ
  brought w o = p_at of m (last_replacing s w o) + get_or items (place_replacing s w o) 0 % 2 ^ 20

  abbrev added_after : ℕ → Order → ℕ → ℕ
  added_after w o g = cond (adds_to_word s w g && after_replacing s w g o) (p_at of m g) 0

  abbrev added : ℕ → ℕ → ℕ
  added w g = cond (adds_to_word s w g) (p_at of m g) 0

  adders-same : (w : ℕ) → SameWord s w o₁ o₂ → (g : ℕ) → g < s.ticks → added_after w o₁ g ≡ added_after w o₂ g
  adders-same w q g h = go (adds_to_word s w g) refl
    where
      go : (b : Bool) → adds_to_word s w g ≡ b
          → cond (b && after_replacing s w g o₁) (p_at of m g) 0 ≡ cond (b && after_replacing s w g o₂) (p_at of m g) 0
      go true e = rw (q.adders g h e)
      go false e = refl

  totals : (a b : ℕ → ℕ) → ((k : ℕ) → k < s.ticks → a k ≡ b k) → total a o₁ ≡ total b o₂
  totals a b h = total-orders s.ticks o₁ o₂ is₁.once is₂.once is₁.below is₂.below a b h

  word_same : (w : ℕ) → w < 64 → word_after of m s items o₁ w ≡ word_after of m s items o₂ w
  unfolding word_after
  word_same w h = rw (← (some-orders s.ticks o₁ o₂ is₁.once is₂.once is₁.below is₂.below (replaces_word s w))) (go (some (replaces_word s w) o₁) refl)
    where
      go : (b : Bool) → some (replaces_word s w) o₁ ≡ b
          → cond b ((brought w o₁ + total (added_after w o₁) o₁) % 2 ^ 20) ((sum_at (sums_of m) w + total (added w) o₁) % 2 ^ 20)
          ≡ cond b ((brought w o₂ + total (added_after w o₂) o₂) % 2 ^ 20) ((sum_at (sums_of m) w + total (added w) o₂) % 2 ^ 20)
      go true e =
          let p = replaces_word s w in
          let q : SameWord s w o₁ o₂ = ag.words w (last_of p o₁) h (last-below s.ticks o₁ is₁.once is₁.below p e) (last-passes p o₁ e) in
          three (ap (p_at of m) q.last) (ap (λ (k : ℕ). get_or items k 0 % 2 ^ 20) q.place) (totals (added_after w o₁) (added_after w o₂) (adders-same w q))
      go false e = ap (λ (n : ℕ). (sum_at (sums_of m) w + n) % 2 ^ 20) (totals (added w) (added w) (λ g l. refl))

  quadrants : (o : Order) → Quadrants (at o).sums
  quadrants o = steps-quadrants of items o start (rw (begun-sums m (sums_of m) places) (sums-quadrants m (reaches m f.whole)))

  same-sums : (at o₁).sums ≡ (at o₂).sums
  unfolding taken_by
  same-sums = ext_get_or [] (at o₁).sums (at o₂).sums ((quadrants o₁).four ∙ sym (quadrants o₂).four) (λ q h. each q)
    where
      this : get_or (at o₁).sums 0 [] ≡ get_or (at o₂).sums 0 []
      this =
          ext_get_or 0 (get_or (at o₁).sums 0 []) (get_or (at o₂).sums 0 []) ((quadrants o₁).each 0 (omega arith) ∙ sym ((quadrants o₂).each 0 (omega arith)))
          (λ w h.
          let l : w < 64 = omega (arith, (quadrants o₁).each 0 (omega arith)) in
          ends₁.sum w l ∙ word_same w l ∙ sym (ends₂.sum w l))

      each : (q : ℕ) → get_or (at o₁).sums q [] ≡ get_or (at o₂).sums q []
      each zero = this
      each (suc q) = steps-quadrant of items o₁ start (suc q) (λ e. omega arith) ∙ sym (steps-quadrant of items o₂ start (suc q) (λ e. omega arith))

  -- The written items, by the third point.
  sent-same : map (sends_at of m) (keep s.writes o₁) ≡ map (sends_at of m) (keep s.writes o₂)
  sent-same =
      map-tells s.source (sends_at of m) (keep s.writes o₁) (keep s.writes o₂)
      (λ i j a b e.
      f.source (get_or (keep s.writes o₁) i 0) (get_or (keep s.writes o₂) j 0)
      (keep-below s.ticks o₁ is₁.once is₁.below s.writes i a) (keep-below s.ticks o₂ is₂.once is₂.below s.writes j b) e)
      ag.writers

  -- As many pass a test in one order as in the other.
  kept_same : (p : ℕ → Bool) → length (keep p o₁) ≡ length (keep p o₂)
  kept_same p = length-keep s.ticks o₁ is₁.once is₁.below p ∙ sym (length-keep s.ticks o₂ is₂.once is₂.below p)

  pub agreed-taken : SameTaken (taken_in of m items places o₁) (taken_in of m items places o₂)
  unfolding taken_by
  agreed-taken =
      record {
        words = same-words;
        sums = same-sums;
        places = ends₁.sent ∙ ap (λ (xs : List ℕ). sets places 0 xs) sent-same ∙ sym ends₂.sent;
        reads = ends₁.reads ∙ kept_same s.replacing ∙ sym ends₂.reads;
        writes = ends₁.writes ∙ kept_same s.writes ∙ sym ends₂.writes;
      }
