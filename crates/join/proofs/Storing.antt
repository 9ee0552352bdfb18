-- The loops that store, one word more, and what stands at each place afterwards.
-- Assumes nothing.
use mathlib.Core.Path.{◌≡◌, refl, sym, ap, ◌∙◌}
use mathlib.Core.Bool.{Bool, true, false, cond, true≢false}
use mathlib.Core.List.{List}
use Prim.Native.Nat.{ℕ, ◌+◌, ◌-◌, ◌*◌, ◌≤◌, ◌<◌}
use native.Mathlib.Omega.{arith}
use borrow.Author.Tests.{leb-true, ltb-true}
use lib.Dec.{leb, ltb, lit<}
use lib.ListN.{length, get_or, set, take, drop}
use Rattle.base_lists.proofs.Below.{and_first, and_second}
use Rattle.base_lists.proofs.Parts.{part-from}
use Rattle.base_fills.specs.Fills.{filled}
use Rattle.base_fills.proofs.Filled.{filled-length, filled-other, filled_at, filled_next}
use Rattle.join_model.specs.Join.{among}
use Rattle.join_model.proofs.JoinedWords.{among_in}
use Rattle.layout.specs.Layout.{t_at, n_at, update_ticks_at}
use Rattle.layout.specs.Machine.{Machine, ticks_of, update_ticks}
use Rattle.join.specs.AsCoded.{chosen, copied, brought_used, stored}

-- One word more.
pub copy-next : (at k : ℕ) (f : ℕ → ℕ) (m : List ℕ) {now : List ℕ} → now ≡ filled at 1 k f m → set now (at + k) (f k) ≡ filled at 1 (k + 1) f m
copy-next at k f m e = let place : at + 1 * k ≡ at + k = omega arith in rw place at (filled_next at 1 k f m e)

module _ (m : List ℕ) (at : ℕ) (words : List ℕ) (used : List Bool) (first : ℕ) where
  -- The rule of the words that are chosen.
  abbrev pub choice : ℕ → ℕ
  choice k = cond (get_or used (first + k) false) (get_or words k 0) (get_or m (at + k) 0)

  pub choose-next : (k : ℕ) {now : List ℕ} → now ≡ filled at 1 k choice m → {word : ℕ} → word ≡ cond (get_or used (first + k) false) (get_or words k 0) (get_or now (at + k) 0)
      → set now (at + k) word ≡ filled at 1 (k + 1) choice m
  choose-next k {now} e {word} f =
      let own : get_or now (at + k) 0 ≡ get_or m (at + k) 0 = ap (λ (l : List ℕ). get_or l (at + k) 0) e ∙ filled-other at 1 k choice m (at + k) (λ i h q. omega arith) in
      let is : word ≡ choice k = f ∙ ap (λ (x : ℕ). cond (get_or used (first + k) false) (get_or words k 0) x) own in
      ap (λ (x : ℕ). set now (at + k) x) is ∙ copy-next at k choice m e

  pub chosen-all : (n k : ℕ) → k ≡ n → {now : List ℕ} → now ≡ filled at 1 k choice m → now ≡ chosen m at words used first n
  unfolding chosen
  chosen-all n k q e = rw q at e

-- Whether a place is one of those filled, and what stands there.
pub among-true : (at n i : ℕ) → among at n i ≡ true → (at ≤ i) × (i < at + n)
among-true at n i e = (leb-true at i (and_first (leb at i) (ltb i (at + n)) e), ltb-true i (at + n) (and_second (leb at i) (ltb i (at + n)) e))

pub filled-word : (at n : ℕ) (f : ℕ → ℕ) (m : List ℕ) → at + n ≤ length m → (i : ℕ) → get_or (filled at 1 n f m) i 0 ≡ cond (among at n i) (f (i - at)) (get_or m i 0)
filled-word at n f m room i = go (among at n i) refl
  where
    outside : among at n i ≡ false → (k : ℕ) → k < n → i ≡ at + 1 * k → ⊥
    outside e k h q = true≢false (sym (among_in at n i (omega arith) (omega arith)) ∙ e)

    go : (b : Bool) → among at n i ≡ b → get_or (filled at 1 n f m) i 0 ≡ cond b (f (i - at)) (get_or m i 0)
    go true e =
        let h = among-true at n i e in
        let low = h.0 in
        let high = h.1 in
        let place : at + 1 * (i - at) ≡ i = omega arith in
        rw place at (filled_at at 1 n f m (i - at) (lit< tt) (omega arith) (omega arith))
    go false e = filled-other at 1 n f m i (λ k h q. outside e k h q)

pub chosen-length : (m : List ℕ) (at : ℕ) (words : List ℕ) (used : List Bool) (first n : ℕ) → length (chosen m at words used first n) ≡ length m
unfolding chosen
chosen-length m at words used first n = filled-length at 1 n (choice m at words used first) m

pub chosen-word : (m : List ℕ) (at : ℕ) (words : List ℕ) (used : List Bool) (first n : ℕ) → at + n ≤ length m → (i : ℕ)
    → get_or (chosen m at words used first n) i 0 ≡ cond (among at n i) (choice m at words used first (i - at)) (get_or m i 0)
unfolding chosen
chosen-word m at words used first n room i = filled-word at n (choice m at words used first) m room i

-- The stores in sequence; what is lent of the second machine is the part from a place to its end.
abbrev part : ℕ → Machine → List ℕ
part at b = take (length b - at) (drop at b)

pub used-by : (b : Machine) (used : List Bool) (m : Machine) {this last dacs : Machine} → this ≡ chosen m 3840 (part 3840 b) used 0 64 → last ≡ chosen this 3904 (part 3904 b) used 0 64
    → dacs ≡ chosen last 4096 (part 4096 b) used 128 16 → dacs ≡ brought_used b used m
unfolding brought_used
used-by b used m e f g = rw (g, f, e, part-from b 3840, part-from b 3904, part-from b 4096)

pub stored-by : (a b : Machine) (used : List Bool) {count first other : ℕ} {copy brought done : Machine} → count ≡ update_ticks (ticks_of a + ticks_of b) (get_or a n_at 0)
    → first ≡ ticks_of a → other ≡ ticks_of b → copy ≡ filled (11 * first + 0) 1 (11 * other) (λ k. get_or b k 0) a → brought ≡ brought_used b used copy
    → done ≡ set (set brought t_at (ticks_of a + ticks_of b)) update_ticks_at count → done ≡ stored a b used
unfolding copied stored
stored-by a b used {count} {first} {other} counts is-first is-other copies brings puts =
    let place : 11 * first + 0 ≡ 11 * ticks_of a = omega arith in
    rw (puts, brings, copies, counts, place, is-other)
