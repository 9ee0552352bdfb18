-- The point that is named fails at the place that is named, and it is the first to fail, at its lowest place: a point fails at a place just where its test is answered no there.
-- Assumes nothing.
use mathlib.Core.Path.{◌≡◌, refl, sym, ap, ◌∙◌}
use mathlib.Core.Logic.{◌≢◌, ◌⊎◌, inl, inr}
use mathlib.Core.Bool.{Bool, true, false, cond, not, ◌&&◌, true≢false}
use Prim.Native.Nat.{ℕ, ◌-◌, ◌≤◌, ◌<◌}
use native.Mathlib.Omega.{arith}
use borrow.Author.Tests.{eqb-true, eqb-false, leb-true, ltb-true, ltb-false, not-true, not-false}
use lib.Dec.{eqb, leb, ltb}
use lib.ListN.{length, length-map}
use Rattle.base_lists.specs.Lists.{count_below}
use Rattle.base_lists.proofs.Below.{beq-from}
use Rattle.base_lists.proofs.Choices.{of_test}
use Rattle.layout.specs.Layout.{dacs, quadrant_words}
use Rattle.layout.specs.Machine.{Machine, Order, Items, ticks_of}
use Rattle.layout_texts.specs.declared.Text.{Text}
use Rattle.pass_order.specs.Order.{IsOrder, in_mode}
use Rattle.pass_order.proofs.Entries.{order-passes}
use Rattle.layout_modes.specs.Modes.{write_data}
use Rattle.base_sequences.specs.Sequences.{keep, some, last_of, first_failing}
use Rattle.base_sequences.proofs.Failing.{failing-lowest, failing-nowhere}
use Rattle.base_sequences.proofs.Entries.{last-passes}
use Rattle.base_sequences.proofs.Orders.{last-below, length-keep}
use Rattle.compare_agreement.specs.Agreement.{Settings, settings_of, awaits, replaces_word, last_replacing}
use Rattle.compare_agreement.specs.Points.{Failing, neighbour_same, feeder_same, writer_same, word_same, writers_of, neighbour_point, feeder_point, writer_point, word_point, failing_word, first_point}
use Rattle.compare_agreement.proofs.Agreed.{and_parts, neighbour-from, feeder-from, word-from, word_at}
use Rattle.compare_agreement.proofs.FirstPoint.{FailsAt, fails-at}
use Rattle.compare.proofs.Answers.{compare-passes}
use Rattle.parts.specs.Parts.{Parting, parts_of}
use Rattle.parts.proofs.Answers.{parts-passes, parts-number, parts-shown, parts-refused}
use Rattle.equal_parts.specs.Fails.{written_sources, NeighbourFails, FeederFails, WriterFails, WordFails, Fails, first, second, third, fourth}

-- A test that is asked only on a condition is answered no.
condition-fails : (c p : Bool) → cond c p true ≡ false → (c ≡ true) × (p ≡ false)
condition-fails true p e = (refl, e)
condition-fails false p e = absurd (true≢false e)

-- Where a test isn't answered yes, it doesn't fail first at a higher number, and it fails somewhere.
lowest-at : (t : ℕ → Bool) (n p : ℕ) → (t p ≡ true → ⊥) → first_failing t n ≤ p
lowest-at t n p not_yes = go (ltb p (first_failing t n)) refl
  where
    go : (b : Bool) → ltb p (first_failing t n) ≡ b → first_failing t n ≤ p
    go true e = absurd (not_yes ((failing-lowest t n).passes p (ltb-true p (first_failing t n) e)))
    go false e = ltb-false p (first_failing t n) e

somewhere : (t : ℕ → Bool) (n p : ℕ) → not (eqb (first_failing t n) n) ≡ false → p < n → (t p ≡ true → ⊥) → ⊥
somewhere t n p e l not_yes = not_yes (failing-nowhere t n (eqb-true (first_failing t n) n (not-false _ e)) p l)

-- The list of written data has a place for each generator below T that writes data.
written-long : (s : Settings) (o : Order) → IsOrder s.ticks o → length (written_sources s o) ≡ count_below s.writes s.ticks
written-long s o is = length-map (keep s.writes o) s.source ∙ length-keep s.ticks o is.once is.below s.writes

-- What is said of point q and place p, where they are named: that they fail, and that what fails is a later point, or this one at no lower place.
record Named (s : Settings) (o₁ o₂ : Order) (q p : ℕ) : Type 0 where
  fails : Fails s o₁ o₂ q p
  earliest : (r k : ℕ) → Fails s o₁ o₂ r k → (q < r) ⊎ ((q ≡ r) × (p ≤ k))

-- What is said where none is named.
record Unnamed (s : Settings) (o₁ o₂ : Order) (p : ℕ) : Type 0 where
  none : (r k : ℕ) → Fails s o₁ o₂ r k → ⊥
  zero : p ≡ 0

-- Of the first point that fails.
record Right (s : Settings) (o₁ o₂ : Order) (f : Failing) : Type 0 where
  named : f.point ≢ 0 → Named s o₁ o₂ f.point f.place
  unnamed : f.point ≡ 0 → Unnamed s o₁ o₂ f.place

module _ (s : Settings) (o₁ o₂ : Order) (is₁ : IsOrder s.ticks o₁) (is₂ : IsOrder s.ticks o₂) where
  -- Where the test is answered no, the point fails.
  to-neighbour : (p : ℕ) → FailsAt (neighbour_same s o₁ o₂) s.ticks p → NeighbourFails s o₁ o₂ p
  to-neighbour p f =
      let c = condition-fails (awaits s p) _ f.fails in
      let a = and_parts (leb s.distance p && s.waits p) _ c.0 in
      let b = and_parts (leb s.distance p) (s.waits p) a.0 in
      record {
        below = f.below;
        neighbour = p - s.distance;
        lower = omega (arith, leb-true s.distance p b.0);
        waits = b.1;
        triggers = a.1;
        sides = λ e. true≢false (sym (beq-from _ _ e) ∙ c.1);
      }

  to-feeder : (p : ℕ) → FailsAt (feeder_same s o₁ o₂) dacs p → FeederFails s o₁ o₂ p
  to-feeder p f =
      let c = condition-fails (some (s.feeds p) o₁) _ f.fails in
      record {
        below = f.below;
        feeder = last_of (s.feeds p) o₁;
        feeder-below = last-below s.ticks o₁ is₁.once is₁.below (s.feeds p) c.0;
        feeds = last-passes (s.feeds p) o₁ c.0;
        sources = eqb-false _ _ c.1;
      }

  to-writer : (p : ℕ) → FailsAt (writer_same s o₁ o₂) (writers_of s o₁ o₂) p → WriterFails s o₁ o₂ p
  to-writer p f = record { below = omega (arith, f.below, written-long s o₁ is₁); sources = eqb-false _ _ f.fails }

  to_word : (p : ℕ) → FailsAt (word_same s o₁ o₂) quadrant_words p → WordFails s o₁ o₂ p
  to_word p f =
      let c = condition-fails (some (replaces_word s p) o₁) _ f.fails in
      record {
        below = f.below;
        reader = last_replacing s p o₁;
        reader-below = last-below s.ticks o₁ is₁.once is₁.below (replaces_word s p) c.0;
        replaces = last-passes (replaces_word s p) o₁ c.0;
        differs = λ same. true≢false (sym (word_at s o₁ o₂ is₁ is₂ p (λ g h e. same)) ∙ f.fails);
      }

  -- Where the point fails, the test isn't answered yes.
  from-neighbour : (p : ℕ) → NeighbourFails s o₁ o₂ p → neighbour_same s o₁ o₂ p ≡ true → ⊥
  from-neighbour p f e =
      f.sides (rw f.lower at (neighbour-from s o₁ o₂ is₁ is₂ f.neighbour (rw f.lower e) (rw f.lower f.waits) f.triggers))

  from-feeder : (p : ℕ) → FeederFails s o₁ o₂ p → feeder_same s o₁ o₂ p ≡ true → ⊥
  from-feeder p f e = f.sources (feeder-from s o₁ o₂ is₁ is₂ p f.feeder e f.feeder-below f.feeds)

  from-writer : (p : ℕ) → WriterFails s o₁ o₂ p → writer_same s o₁ o₂ p ≡ true → ⊥
  from-writer p f e = f.sources (eqb-true _ _ e)

  from-word : (p : ℕ) → WordFails s o₁ o₂ p → word_same s o₁ o₂ p ≡ true → ⊥
  from-word p f e = f.differs (word-from s o₁ o₂ is₁ is₂ p f.reader e f.reader-below f.replaces)

  -- No point of a number fails anywhere.
  abbrev NoNeighbour : Type 0
  NoNeighbour = (p : ℕ) → NeighbourFails s o₁ o₂ p → ⊥

  abbrev NoFeeder : Type 0
  NoFeeder = (p : ℕ) → FeederFails s o₁ o₂ p → ⊥

  abbrev NoWriter : Type 0
  NoWriter = (p : ℕ) → WriterFails s o₁ o₂ p → ⊥

  abbrev NoWord : Type 0
  NoWord = (p : ℕ) → WordFails s o₁ o₂ p → ⊥

  -- Each point, where those before it fail nowhere.
  first-named : FailsAt (neighbour_same s o₁ o₂) s.ticks (first_failing (neighbour_same s o₁ o₂) s.ticks) → Named s o₁ o₂ 1 (first_failing (neighbour_same s o₁ o₂) s.ticks)
  first-named f = record { fails = first refl (to-neighbour _ f); earliest = later }
    where
      later : (r k : ℕ) → Fails s o₁ o₂ r k → (1 < r) ⊎ ((1 ≡ r) × (first_failing (neighbour_same s o₁ o₂) s.ticks ≤ k))
      later r k (first e g) = inr (sym e, lowest-at _ s.ticks k (from-neighbour k g))
      later r k (second e g) = inl (omega arith)
      later r k (third e g) = inl (omega arith)
      later r k (fourth e g) = inl (omega arith)

  second-named : NoNeighbour → FailsAt (feeder_same s o₁ o₂) dacs (first_failing (feeder_same s o₁ o₂) dacs) → Named s o₁ o₂ 2 (first_failing (feeder_same s o₁ o₂) dacs)
  second-named none f = record { fails = second refl (to-feeder _ f); earliest = later }
    where
      later : (r k : ℕ) → Fails s o₁ o₂ r k → (2 < r) ⊎ ((2 ≡ r) × (first_failing (feeder_same s o₁ o₂) dacs ≤ k))
      later r k (first e g) = absurd (none k g)
      later r k (second e g) = inr (sym e, lowest-at _ dacs k (from-feeder k g))
      later r k (third e g) = inl (omega arith)
      later r k (fourth e g) = inl (omega arith)

  third-named : NoNeighbour → NoFeeder → FailsAt (writer_same s o₁ o₂) (writers_of s o₁ o₂) (first_failing (writer_same s o₁ o₂) (writers_of s o₁ o₂))
      → Named s o₁ o₂ 3 (first_failing (writer_same s o₁ o₂) (writers_of s o₁ o₂))
  third-named none unfed f = record { fails = third refl (to-writer _ f); earliest = later }
    where
      later : (r k : ℕ) → Fails s o₁ o₂ r k → (3 < r) ⊎ ((3 ≡ r) × (first_failing (writer_same s o₁ o₂) (writers_of s o₁ o₂) ≤ k))
      later r k (first e g) = absurd (none k g)
      later r k (second e g) = absurd (unfed k g)
      later r k (third e g) = inr (sym e, lowest-at _ (writers_of s o₁ o₂) k (from-writer k g))
      later r k (fourth e g) = inl (omega arith)

  fourth-named : NoNeighbour → NoFeeder → NoWriter → FailsAt (word_same s o₁ o₂) quadrant_words (first_failing (word_same s o₁ o₂) quadrant_words)
      → Named s o₁ o₂ 4 (first_failing (word_same s o₁ o₂) quadrant_words)
  fourth-named none unfed unwritten f = record { fails = fourth refl (to_word _ f); earliest = later }
    where
      later : (r k : ℕ) → Fails s o₁ o₂ r k → (4 < r) ⊎ ((4 ≡ r) × (first_failing (word_same s o₁ o₂) quadrant_words ≤ k))
      later r k (first e g) = absurd (none k g)
      later r k (second e g) = absurd (unfed k g)
      later r k (third e g) = absurd (unwritten k g)
      later r k (fourth e g) = inr (sym e, lowest-at _ quadrant_words k (from-word k g))

  none_named : NoNeighbour → NoFeeder → NoWriter → NoWord → Unnamed s o₁ o₂ 0
  none_named none unfed unwritten unread = record { none = never; zero = refl }
    where
      never : (r k : ℕ) → Fails s o₁ o₂ r k → ⊥
      never r k (first e g) = none k g
      never r k (second e g) = unfed k g
      never r k (third e g) = unwritten k g
      never r k (fourth e g) = unread k g

  -- A point and a place of which this is so are right, and so are none.
  right-named : (q p k : ℕ) → q ≢ 0 → Named s o₁ o₂ q p → Right s o₁ o₂ (record { point = q; place = p; sounding = k })
  right-named q p k h n = record { named = λ z. n; unnamed = λ z. absurd (h z) }

  right-none : (k : ℕ) → Unnamed s o₁ o₂ 0 → Right s o₁ o₂ (record { point = 0; place = 0; sounding = k })
  right-none k u = record { named = λ z. absurd (z refl); unnamed = λ z. u }

  first-right : Right s o₁ o₂ (first_point s o₁ o₂)
  unfolding first_point failing_word neighbour_point feeder_point writer_point word_point
  first-right =
      of_test (Right s o₁ o₂) (not (eqb (neighbour_point s o₁ o₂) s.ticks)) (λ q. right-named 1 _ 0 (λ z. omega arith) (first-named (fails-at _ s.ticks (not-true _ q))))
      (λ a. let none : NoNeighbour = λ p g. somewhere _ s.ticks p a g.below (from-neighbour p g) in
      of_test (Right s o₁ o₂) (not (eqb (feeder_point s o₁ o₂) dacs)) (λ q. right-named 2 _ 0 (λ z. omega arith) (second-named none (fails-at _ dacs (not-true _ q))))
      (λ b. let unfed : NoFeeder = λ p g. somewhere _ dacs p b g.below (from-feeder p g) in
      of_test (Right s o₁ o₂) (not (eqb (writer_point s o₁ o₂) (writers_of s o₁ o₂)))
      (λ q. right-named 3 _ 0 (λ z. omega arith) (third-named none unfed (fails-at _ (writers_of s o₁ o₂) (not-true _ q))))
      (λ c. let unwritten : NoWriter = λ p g. somewhere _ (writers_of s o₁ o₂) p c (omega (arith, g.below, written-long s o₁ is₁)) (from-writer p g) in
      of_test (Right s o₁ o₂) (not (eqb (word_point s o₁ o₂) quadrant_words))
      (λ q. right-named 4 _ _ (λ z. omega arith) (fourth-named none unfed unwritten (fails-at _ quadrant_words (not-true _ q))))
      (λ d. right-none 0 (none_named none unfed unwritten (λ p g. somewhere _ quadrant_words p d g.below (from-word p g)))))))

-- The list of written data has a place for each 0011 below T, in every order that passes 5 and 6.
pub written-places : (text : Text) (m : Machine) (o : Order) → IsOrder (ticks_of m) o → length (written_sources (settings_of text m) o) ≡ in_mode text m write_data
unfolding in_mode
written-places text m o is = written-long (settings_of text m) o is

module _ (text : Text) (m : Machine) (o₁ o₂ : Order) (contents : Machine) (items : Items) where
  -- A call that is not refused names what the first point is.
  module _ (e : (parts_of text m o₁ o₂ contents items).number ≡ 0) where
    right : Right (settings_of text m) o₁ o₂ (first_point (settings_of text m) o₁ o₂)
    right =
        let passed = compare-passes text m o₁ o₂ (parts-passes text m o₁ o₂ contents items (sym (parts-number text m o₁ o₂ contents items) ∙ e)).compared in
        first-right (settings_of text m) o₁ o₂ (order-passes (ticks_of m) o₁ passed.first) (order-passes (ticks_of m) o₂ passed.second)

    point-is : (parts_of text m o₁ o₂ contents items).point ≡ (first_point (settings_of text m) o₁ o₂).point
    point-is = ap (λ (r : Parting). r.point) (parts-shown text m o₁ o₂ contents items (sym (parts-number text m o₁ o₂ contents items) ∙ e))

    place_is : (parts_of text m o₁ o₂ contents items).place ≡ (first_point (settings_of text m) o₁ o₂).place
    place_is = ap (λ (r : Parting). r.place) (parts-shown text m o₁ o₂ contents items (sym (parts-number text m o₁ o₂ contents items) ∙ e))

    -- The point that it names fails at the place that it names, no earlier point fails, and this one at no lower place.
    pub parts-names : (parts_of text m o₁ o₂ contents items).point ≢ 0
        → Fails (settings_of text m) o₁ o₂ (parts_of text m o₁ o₂ contents items).point (parts_of text m o₁ o₂ contents items).place
        × ((q p : ℕ) → Fails (settings_of text m) o₁ o₂ q p
        → ((parts_of text m o₁ o₂ contents items).point < q) ⊎ (((parts_of text m o₁ o₂ contents items).point ≡ q) × ((parts_of text m o₁ o₂ contents items).place ≤ p)))
    parts-names h =
        let n = right.named (λ z. h (point-is ∙ z)) in
        rw (point-is, place_is) (n.fails, n.earliest)

    -- Where it names none, nothing fails, and the place is 0.
    pub parts_none : (parts_of text m o₁ o₂ contents items).point ≡ 0
        → ((parts_of text m o₁ o₂ contents items).place ≡ 0) × ((q p : ℕ) → Fails (settings_of text m) o₁ o₂ q p → ⊥)
    parts_none z = let u = right.unnamed (sym point-is ∙ z) in (place_is ∙ u.zero, u.none)

  -- A refused call names neither.
  pub refused-names : (parts_of text m o₁ o₂ contents items).number ≢ 0 → ((parts_of text m o₁ o₂ contents items).point ≡ 0) × ((parts_of text m o₁ o₂ contents items).place ≡ 0)
  refused-names h =
      let is = parts-refused text m o₁ o₂ contents items (λ e. h (parts-number text m o₁ o₂ contents items ∙ e)) in
      (ap (λ (r : Parting). r.point) is, ap (λ (r : Parting). r.place) is)
