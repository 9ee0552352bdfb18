-- What the code stores is the joined machine.
-- Assumes nothing.
use mathlib.Core.Path.{◌≡◌, refl, sym, ap, ◌∙◌}
use mathlib.Core.Bool.{Bool, true, false, cond, ◌&&◌, true≢false}
use mathlib.Core.List.{List}
use Prim.Native.Nat.{ℕ, ◌+◌, ◌-◌, ◌≤◌, ◌<◌}
use native.Mathlib.Omega.{arith}
use native.Mathlib.Nat.{zero-add}
use borrow.Author.Tests.{eqb-true, eqb-false, ne_eqb}
use lib.Dec.{eqb, lit≤}
use lib.ListN.{length, get_or, set, drop, length-set}
use lib.Seq.{get_or-set_same, get_or-set_other, get_or-drop, ext_get_or}
use Rattle.base_lists.specs.Lists.{tabulate}
use Rattle.base_lists.proofs.Tables.{tabulate-length, tabulate-at}
use Rattle.base_fills.proofs.Filled.{filled-length}
use Rattle.layout.specs.Layout.{machine_length, generator_at, t_at, n_at, update_ticks_at}
use Rattle.layout.specs.Machine.{Machine, ticks_of, update_ticks}
use Rattle.join_model.specs.Join.{uses_word, uses_dac, among, brought_over, first_word, joined_word, joined}
use Rattle.join_model.proofs.JoinedWords.{among-before, low-stays, high-stays}
use Rattle.join_questions.specs.AsCoded.{Usable, dacs_used_at, marks_of}
use Rattle.join_questions.proofs.Marking.{word-marks, dac-marks}
use Rattle.join.specs.AsCoded.{copied, brought_from, brought_used, stored}
use Rattle.join.proofs.Storing.{among-true, filled-word, choice, chosen-length, chosen-word}

module _ (a b : Machine) (whole : length a ≡ machine_length) (sum : ticks_of a + ticks_of b ≤ 256) (used : List Bool) where
  copied-length : length (copied a b) ≡ machine_length
  unfolding copied
  copied-length = filled-length (generator_at (ticks_of a)) 1 (generator_at (ticks_of b)) (λ k. get_or b k 0) a ∙ whole

  copied-word : (i : ℕ) → get_or (copied a b) i 0 ≡ cond (among (generator_at (ticks_of a)) (generator_at (ticks_of b)) i) (get_or b (i - generator_at (ticks_of a)) 0) (get_or a i 0)
  unfolding copied
  copied-word i = filled-word (generator_at (ticks_of a)) (generator_at (ticks_of b)) (λ k. get_or b k 0) a (omega arith) i

-- Words brought over from a place on.
module _ (b : Machine) (used : List Bool) (m : Machine) (whole : length m ≡ machine_length) where
  brought-word : (at first n : ℕ) (l : List ℕ) → length l ≡ machine_length → at + n ≤ machine_length → (i : ℕ)
      → get_or (brought_from at first n b used l) i 0 ≡ cond (among at n i) (cond (get_or used (first + (i - at)) false) (get_or b i 0) (get_or l i 0)) (get_or l i 0)
  brought-word at first n l long room i = chosen-word l at (drop at b) used first n (omega arith) i ∙ go (among at n i) refl
    where
      go : (x : Bool) → among at n i ≡ x → cond x (choice l at (drop at b) used first (i - at)) (get_or l i 0) ≡ cond x (cond (get_or used (first + (i - at)) false) (get_or b i 0) (get_or l i 0)) (get_or l i 0)
      go true e =
          let h = among-true at n i e in
          let low = h.0 in
          let place : at + (i - at) ≡ i = omega arith in
          rw (get_or-drop at b (i - at) 0, place)
      go false e = refl

  abbrev this : Machine
  this = brought_from 3840 0 64 b used m

  abbrev last : Machine
  last = brought_from 3904 0 64 b used this

  this-length : length this ≡ machine_length
  this-length = chosen-length m 3840 (drop 3840 b) used 0 64 ∙ whole

  last-length : length last ≡ machine_length
  last-length = chosen-length this 3904 (drop 3904 b) used 0 64 ∙ this-length

  pub used-length : length (brought_used b used m) ≡ machine_length
  unfolding brought_used
  used-length = chosen-length last 4096 (drop 4096 b) used dacs_used_at 16 ∙ last-length

  used-is : (i : ℕ)
      → get_or (brought_used b used m) i 0
      ≡ cond (among 4096 16 i) (cond (get_or used (dacs_used_at + (i - 4096)) false) (get_or b i 0) (get_or last i 0)) (get_or last i 0)
  unfolding brought_used
  used-is i = brought-word 4096 dacs_used_at 16 last last-length (omega arith) i

  last-is : (i : ℕ) → get_or last i 0 ≡ cond (among 3904 64 i) (cond (get_or used (0 + (i - 3904)) false) (get_or b i 0) (get_or this i 0)) (get_or this i 0)
  last-is i = brought-word 3904 0 64 this this-length (omega arith) i

  this-is : (i : ℕ) → get_or this i 0 ≡ cond (among 3840 64 i) (cond (get_or used (0 + (i - 3840)) false) (get_or b i 0) (get_or m i 0)) (get_or m i 0)
  this-is i = brought-word 3840 0 64 m whole (omega arith) i

  -- By the marks of the machine that is brought over.
  module _ (u : Usable b) (marks : used ≡ marks_of b) where
    word-used : (w : ℕ) → w < 64 → get_or used (0 + w) false ≡ uses_word b w
    word-used w h = rw (zero-add w, marks) (word-marks b u w (omega arith))

    dac-used : (d : ℕ) → d < 16 → get_or used (dacs_used_at + d) false ≡ uses_dac b d
    dac-used d h = rw marks (dac-marks b u d h)

    pub used-word : (i : ℕ) → get_or (brought_used b used m) i 0 ≡ cond (brought_over b i) (get_or b i 0) (get_or m i 0)
    unfolding brought_over
    used-word i = by-this (among 3840 64 i) refl
      where
        by-dacs : among 3840 64 i ≡ false → among 3904 64 i ≡ false → (x : Bool) → among 4096 16 i ≡ x
            → get_or (brought_used b used m) i 0 ≡ cond (x && uses_dac b (i - 4096)) (get_or b i 0) (get_or m i 0)
        by-dacs e f true g =
            let h = among-true 4096 16 i g in
            let low = h.0 in
            let high = h.1 in
            used-is i ∙ rw (g, dac-used (i - 4096) (omega arith), last-is i, f, this-is i, e)
        by-dacs e f false g = used-is i ∙ rw (g, last-is i, f, this-is i, e)

        by_last : among 3840 64 i ≡ false → (x : Bool) → among 3904 64 i ≡ x
            → get_or (brought_used b used m) i 0
            ≡ cond (cond x (uses_word b (i - 3904)) (among 4096 16 i && uses_dac b (i - 4096))) (get_or b i 0) (get_or m i 0)
        by_last e true g =
            let h = among-true 3904 64 i g in
            let low = h.0 in
            let high = h.1 in
            used-is i ∙ rw (among-before 4096 16 i (omega arith), last-is i, g, word-used (i - 3904) (omega arith), this-is i, e)
        by_last e false g = by-dacs e g (among 4096 16 i) refl

        by-this : (x : Bool) → among 3840 64 i ≡ x
            → get_or (brought_used b used m) i 0
            ≡ cond (cond x (uses_word b (i - 3840)) (cond (among 3904 64 i) (uses_word b (i - 3904)) (among 4096 16 i && uses_dac b (i - 4096)))) (get_or b i 0) (get_or m i 0)
        by-this true g =
            let h = among-true 3840 64 i g in
            let low = h.0 in
            let high = h.1 in
            used-is i
            ∙ rw (among-before 4096 16 i (omega arith), last-is i, among-before 3904 64 i (omega arith), this-is i, g, word-used (i - 3840) (omega arith))
        by-this false g = by_last g (among 3904 64 i) refl

module _ (a b : Machine) (whole : length a ≡ machine_length) (sum : ticks_of a + ticks_of b ≤ 256) (u : Usable b) {used : List Bool} (marks : used ≡ marks_of b) where
  abbrev t : ℕ
  t = ticks_of a + ticks_of b

  abbrev before : Machine
  before = brought_used b used (copied a b)

  before-length : length before ≡ machine_length
  before-length = used-length b used (copied a b) (copied-length a b whole sum used)

  before-word : (i : ℕ) → get_or before i 0 ≡ cond (brought_over b i) (get_or b i 0) (get_or (copied a b) i 0)
  before-word i = used-word b used (copied a b) (copied-length a b whole sum used) u marks i

  stored-word : (i : ℕ) → i < machine_length
      → get_or (stored a b used) i 0 ≡ cond (eqb i t_at) t (cond (eqb i update_ticks_at) (update_ticks t (get_or a n_at 0)) (get_or before i 0))
  unfolding stored
  stored-word i h = by-t (eqb i t_at) refl
    where
      count : ℕ
      count = update_ticks t (get_or a n_at 0)

      by-ticks : eqb i t_at ≡ false → (x : Bool) → eqb i update_ticks_at ≡ x → get_or (set (set before t_at t) update_ticks_at count) i 0 ≡ cond x count (get_or before i 0)
      by-ticks e true f =
          rw (eqb-true i update_ticks_at f) (get_or-set_same (set before t_at t) update_ticks_at count 0 (omega (arith, length-set before t_at t, before-length)))
      by-ticks e false f =
          get_or-set_other (set before t_at t) update_ticks_at i count 0 (eqb-false i update_ticks_at f) ∙ get_or-set_other before t_at i t 0 (eqb-false i t_at e)

      by-t : (x : Bool) → eqb i t_at ≡ x → get_or (set (set before t_at t) update_ticks_at count) i 0 ≡ cond x t (cond (eqb i update_ticks_at) count (get_or before i 0))
      by-t true e =
          rw (eqb-true i t_at e)
          (get_or-set_other (set before t_at t) update_ticks_at t_at count 0 (λ q. omega arith) ∙ get_or-set_same before t_at t 0 (omega (arith, before-length)))
      by-t false e = by-ticks e (eqb i update_ticks_at) refl

  -- At each place it is the joined machine's word.
  joined_same : (i : ℕ) → i < machine_length → get_or (stored a b used) i 0 ≡ joined_word a b i
  unfolding joined_word first_word
  joined_same i h = stored-word i h ∙ by-generators (among (generator_at (ticks_of a)) (generator_at (ticks_of b)) i) refl
    where
      at : ℕ
      at = generator_at (ticks_of a)

      count : ℕ
      count = update_ticks t (get_or a n_at 0)

      own : ℕ
      own = cond (eqb i t_at) t (cond (eqb i update_ticks_at) count (get_or before i 0))

      by-brought : among at (generator_at (ticks_of b)) i ≡ false → (x : Bool) → brought_over b i ≡ x → own ≡ cond x (get_or b i 0) (first_word a b i)
      by-brought e true f =
          let apart : (k : ℕ) → 4112 ≤ k → i ≡ k → ⊥ = λ k l q. true≢false (sym f ∙ ap (brought_over b) q ∙ high-stays a b sum k l) in
          rw (ne_eqb i t_at (apart t_at (lit≤ tt)), ne_eqb i update_ticks_at (apart update_ticks_at (lit≤ tt)), before-word i, f)
      by-brought e false f = rw (before-word i, f, copied-word a b whole sum used i, e)

      by-generators : (x : Bool) → among at (generator_at (ticks_of b)) i ≡ x
          → own ≡ cond x (get_or b (i - at) 0) (cond (brought_over b i) (get_or b i 0) (first_word a b i))
      by-generators true e =
          let k = among-true at (generator_at (ticks_of b)) i e in
          let low = k.0 in
          let high = k.1 in
          rw (
            ne_eqb i t_at (λ q. omega arith),
            ne_eqb i update_ticks_at (λ q. omega arith),
            before-word i,
            low-stays a b sum i (omega arith),
            copied-word a b whole sum used i,
            e,
          )
      by-generators false e = by-brought e (brought_over b i) refl

  length-stored : length (stored a b used) ≡ machine_length
  unfolding stored
  length-stored = length-set (set before t_at t) update_ticks_at (update_ticks t (get_or a n_at 0)) ∙ length-set before t_at t ∙ before-length

  pub stored-joined : stored a b used ≡ joined a b
  unfolding joined
  stored-joined =
      ext_get_or 0 (stored a b used) (tabulate (joined_word a b) 0 machine_length) (length-stored ∙ sym (tabulate-length (joined_word a b) 0 machine_length))
      (λ i h. let l : i < machine_length = omega (arith, h, length-stored) in joined_same i l ∙ sym (tabulate-at (joined_word a b) machine_length i 0 l))
