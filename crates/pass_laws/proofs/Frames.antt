-- What the generators of an order leave as it was, whatever the text: all lengths, each quadrant but generator-this, and all words of the machine but DAC words and the registers that a turn can change.
-- Assumes nothing.
use mathlib.Core.Path.{◌≡◌, refl, sym, ◌∙◌, ap}
use mathlib.Core.Logic.{◌≢◌}
use mathlib.Core.Bool.{Bool, true, false, cond}
use mathlib.Core.List.{List, [], ◌∷◌, ◌++◌}
use Prim.Native.Nat.{ℕ, zero, suc, ◌+◌, ◌^◌, ◌≤◌, ◌<◌}
use native.Mathlib.Omega.{arith}
use native.Mathlib.Nat.{not-suc-le-zero, le_of_suc-le-suc}
use borrow.Author.Tests.{eq-eqb, eqb-false, ltb-true}
use lib.Dec.{eqb, ltb}
use lib.ListN.{length, get_or, set, length-set}
use lib.Seq.{get_or-set_other}
use Rattle.base_lists.specs.Lists.{count}
use Rattle.base_lists.proofs.Choices.{of-cond}
use Rattle.layout.specs.Layout.{generator_at, dac_at}
use Rattle.layout.specs.Machine.{Machine, Order, Items, Sums}
use Rattle.base_words.proofs.Residues.{sum_low}
use Rattle.pass_sums.specs.Sums.{put_sum}
use Rattle.pass_sums.proofs.Memory.{Quadrants, put_other, put-quadrants}
use Rattle.generator.specs.Generator.{stored}
use Rattle.pass_model.specs.Generators.{Contribution, Generators, State, triggered_below, fed, summed, step, steps}
use Rattle.pass_model.proofs.Puts.{Apart, put-length, put-apart}

-- What each step keeps, of an entry that a condition holds of, a whole order keeps.
pub steps-keep : (of : Generators) (items : Items) (C : ℕ → Type 0) (P : State → Type 0) → ((s : State) (g : ℕ) → C g → P s → P (step of items s g))
    → (order : Order) → ((i : ℕ) → i < length order → C (get_or order i 0)) → (s : State) → P s → P (steps of items s order)
unfolding steps
steps-keep of items C P f [] c s p = p
steps-keep of items C P f (g ∷ order) c s p =
    steps-keep of items C P f order (λ i h. c (suc i) (omega arith)) (step of items s g) (f s g (c 0 (omega arith)) p)

-- The same where any entry will do.
pub steps-keep-all : (of : Generators) (items : Items) (P : State → Type 0) → ((s : State) (g : ℕ) → P s → P (step of items s g))
    → (order : Order) (s : State) → P s → P (steps of items s order)
steps-keep-all of items P f order s p = steps-keep of items (λ g. g ≡ g) P (λ s g c. f s g) order (λ i h. refl) s p

-- What the generator that a step takes brings, and the words with it put back after its turn.
abbrev pub contribution_at : Generators → State → ℕ → Contribution
contribution_at of s g = of.turn s.words s.sums g (triggered_below of.distance s.triggered g)

abbrev pub put_back : Generators → State → ℕ → Machine
put_back of s g = stored s.words (generator_at g) (contribution_at of s g).unit

-- The DACs that a text names are the sixteen.
pub record Sixteen (of : Generators) : Type 0 where
  pub dac-low : (words : Machine) (sums : Sums) (g : ℕ) (triggered_below : Bool) → (of.turn words sums g triggered_below).dac < 16

module _ (of : Generators) (items : Items) (s : State) (g : ℕ) where
  -- The words of a step.
  pub step_words : (step of items s g).words ≡ fed (put_back of s g) (contribution_at of s g)
  unfolding step
  step_words = refl

  -- What holds of the words with the generator put back, and after a DAC word is replaced too, holds of a step's words.
  pub words-by : (P : Machine → Type 0) → P (put_back of s g) → P (set (put_back of s g) (dac_at (contribution_at of s g).dac) (contribution_at of s g).sends)
      → P (step of items s g).words
  unfolding step fed
  words-by P stays feeds = of-cond P (contribution_at of s g).feeds feeds stays

  -- Sum memory is left or has one word of generator-this replaced by one of 20 bits.
  pub sums_by : (P : Sums → Type 0) → P s.sums → ((v : ℕ) → v < 2 ^ 20 → P (put_sum s.sums (contribution_at of s g).word v)) → P (step of items s g).sums
  unfolding step summed
  sums_by P stays puts =
      of-cond P (contribution_at of s g).replaces (puts _ (sum_low 20 _ _)) (of-cond P (contribution_at of s g).adds (puts _ (sum_low 20 _ _)) stays)

  put-back-length : length (put_back of s g) ≡ length s.words
  put-back-length = put-length s.words g (contribution_at of s g).unit

  put-back-apart : (i : ℕ) → Apart i g → get_or (put_back of s g) i 0 ≡ get_or s.words i 0
  put-back-apart i a = put-apart s.words g (contribution_at of s g).unit i a

  pub step-length : length (step of items s g).words ≡ length s.words
  step-length =
      words-by (λ (w : Machine). length w ≡ length s.words) put-back-length
      (length-set (put_back of s g) (dac_at (contribution_at of s g).dac) (contribution_at of s g).sends ∙ put-back-length)

  -- The words of g itself are those with it put back.
  pub step-own : (i : ℕ) → i < 4096 → get_or (step of items s g).words i 0 ≡ get_or (put_back of s g) i 0
  step-own i h =
      words-by (λ (w : Machine). get_or w i 0 ≡ get_or (put_back of s g) i 0) refl
      (get_or-set_other (put_back of s g) (dac_at (contribution_at of s g).dac) i (contribution_at of s g).sends 0 (λ e. omega arith))

  -- A word that is none of the four registers of g, nor a DAC word.
  pub step-below : (i : ℕ) → i < 4096 → Apart i g → get_or (step of items s g).words i 0 ≡ get_or s.words i 0
  step-below i h a = step-own i h ∙ put-back-apart i a

  step-beyond : Sixteen of → (i : ℕ) → 4112 ≤ i → Apart i g → get_or (step of items s g).words i 0 ≡ get_or s.words i 0
  step-beyond k i h a =
      let low = k.dac-low s.words s.sums g (triggered_below of.distance s.triggered g) in
      words-by (λ (w : Machine). get_or w i 0 ≡ get_or s.words i 0) (put-back-apart i a)
      (get_or-set_other (put_back of s g) (dac_at (contribution_at of s g).dac) i (contribution_at of s g).sends 0 (λ e. omega (arith, low)) ∙ put-back-apart i a)

  -- Each quadrant but generator-this.
  pub step-quadrant : (q : ℕ) → q ≢ 0 → get_or (step of items s g).sums q [] ≡ get_or s.sums q []
  step-quadrant q n =
      sums_by (λ (t : Sums). get_or t q [] ≡ get_or s.sums q []) refl (λ v h. put_other s.sums (contribution_at of s g).word v q n)

  pub step-quadrants : Quadrants s.sums → Quadrants (step of items s g).sums
  step-quadrants k = sums_by Quadrants k (λ v h. put-quadrants s.sums (contribution_at of s g).word v k)

  step-triggered : length (step of items s g).triggered ≡ length s.triggered
  unfolding step
  step-triggered =
      of-cond (λ (l : List Bool). length l ≡ length s.triggered) (contribution_at of s g).triggers (length-set s.triggered g true) refl

-- Words apart from the four registers that the turn of g changes: those past the generators, those of another generator, and settings.
pub apart-past : (g i : ℕ) → g < 256 → 2816 ≤ i → Apart i g
apart-past g i h a = record { not-gj = λ e. omega arith; not-gk = λ e. omega arith; not-gq = λ e. omega arith; not-gmode = λ e. omega arith }

pub apart_other : (g k j : ℕ) → j < 11 → k ≢ g → Apart (generator_at k + j) g
apart_other g k j l n =
    record { not-gj = λ e. n (omega arith); not-gk = λ e. n (omega arith); not-gq = λ e. n (omega arith); not-gmode = λ e. n (omega arith) }

-- Place j among a generator's words is that of a setting: not GJ, GK, GQ or GMODE.
pub record Setting (j : ℕ) : Type 0 where
  pub inside : j < 11
  pub not-gj : j ≢ 1
  pub not-gk : j ≢ 2
  pub not-gq : j ≢ 6
  pub not-gmode : j ≢ 10

pub setting : (j : ℕ) → ltb j 11 ≡ true → eqb j 1 ≡ false → eqb j 2 ≡ false → eqb j 6 ≡ false → eqb j 10 ≡ false → Setting j
setting j a b c d e =
    record { inside = ltb-true j 11 a; not-gj = eqb-false j 1 b; not-gk = eqb-false j 2 c; not-gq = eqb-false j 6 d; not-gmode = eqb-false j 10 e }

pub apart-setting : (g k j : ℕ) → Setting j → Apart (generator_at k + j) g
apart-setting g k j c =
    let l = c.inside in
    record {
      not-gj = λ e. c.not-gj (omega arith);
      not-gk = λ e. c.not-gk (omega arith);
      not-gq = λ e. c.not-gq (omega arith);
      not-gmode = λ e. c.not-gmode (omega arith);
    }

-- A number that a list has not is none of its entries.
pub not_there : (k : ℕ) (xs : List ℕ) → count k xs ≡ 0 → (i : ℕ) → i < length xs → k ≢ get_or xs i 0
unfolding count
not_there k [] n i h e = absurd (not-suc-le-zero h)
not_there k (x ∷ xs) n zero h e = absurd (omega (arith, n, ap {B = ℕ} (λ (b : Bool). cond b 1 0) (eq-eqb x k (sym e))))
not_there k (x ∷ xs) n (suc i) h e = not_there k xs (omega arith) i (le_of_suc-le-suc h) e

-- The same of an order.
module _ (of : Generators) (items : Items) (order : Order) (s : State) where
  pub steps-length : length (steps of items s order).words ≡ length s.words
  steps-length = steps-keep-all of items (λ t. length t.words ≡ length s.words) (λ t g e. step-length of items t g ∙ e) order s refl

  pub steps-quadrant : (q : ℕ) → q ≢ 0 → get_or (steps of items s order).sums q [] ≡ get_or s.sums q []
  steps-quadrant q n =
      steps-keep-all of items (λ t. get_or t.sums q [] ≡ get_or s.sums q []) (λ t g e. step-quadrant of items t g q n ∙ e) order s refl

  pub steps-quadrants : Quadrants s.sums → Quadrants (steps of items s order).sums
  steps-quadrants k = steps-keep-all of items (λ t. Quadrants t.sums) (λ t g. step-quadrants of items t g) order s k

  pub steps-triggered : length (steps of items s order).triggered ≡ length s.triggered
  steps-triggered =
      steps-keep-all of items (λ t. length t.triggered ≡ length s.triggered) (λ t g e. step-triggered of items t g ∙ e) order s refl

  -- The modifiers, sum memory in the machine's words, and the words past the DACs.
  module _ (below : (i : ℕ) → i < length order → get_or order i 0 < 256) where
    pub steps-middle : (i : ℕ) → 2816 ≤ i → i < 4096 → get_or (steps of items s order).words i 0 ≡ get_or s.words i 0
    steps-middle i a b =
        steps-keep of items (λ g. g < 256) (λ t. get_or t.words i 0 ≡ get_or s.words i 0)
        (λ t g h e. step-below of items t g i b (apart-past g i h a) ∙ e) order below s refl

    pub steps-beyond : Sixteen of → (i : ℕ) → 4112 ≤ i → get_or (steps of items s order).words i 0 ≡ get_or s.words i 0
    steps-beyond k i a =
        steps-keep of items (λ g. g < 256) (λ t. get_or t.words i 0 ≡ get_or s.words i 0)
        (λ t g h e. step-beyond of items t g k i a (apart-past g i h (omega arith)) ∙ e) order below s refl

  -- A word of a generator that no turn changes: GO, GN, GM, GP, GL, GSUM, GFM.
  pub steps-setting : (k j : ℕ) → k < 256 → Setting j → get_or (steps of items s order).words (generator_at k + j) 0 ≡ get_or s.words (generator_at k + j) 0
  steps-setting k j h c =
      steps-keep-all of items (λ t. get_or t.words (generator_at k + j) 0 ≡ get_or s.words (generator_at k + j) 0)
      (λ t g e. step-below of items t g (generator_at k + j) (omega (arith, c.inside)) (apart-setting g k j c) ∙ e) order s refl

  -- The words of a generator that is not taken.
  pub steps-untaken : (k j : ℕ) → k < 256 → j < 11 → count k order ≡ 0
      → get_or (steps of items s order).words (generator_at k + j) 0 ≡ get_or s.words (generator_at k + j) 0
  steps-untaken k j h l n =
      steps-keep of items (λ g. k ≢ g) (λ t. get_or t.words (generator_at k + j) 0 ≡ get_or s.words (generator_at k + j) 0)
      (λ t g c e. step-below of items t g (generator_at k + j) (omega arith) (apart_other g k j l c) ∙ e) order (not_there k order n) s refl

-- Orders one after the other.
pub steps-append : (of : Generators) (items : Items) (a b : Order) (s : State) → steps of items s (a ++ b) ≡ steps of items (steps of items s a) b
unfolding steps
steps-append of items [] b s = refl
steps-append of items (g ∷ a) b s = steps-append of items a b (step of items s g)
