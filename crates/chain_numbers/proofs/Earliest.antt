-- The earliest numbers of a chain that fits: each is found from those of the entries that it waits on; they are a numbering, and the least at each entry.
-- Assumes nothing.
use mathlib.Core.Path.{◌≡◌, refl, sym, ap, ◌∙◌}
use mathlib.Core.Bool.{Bool, true, false, cond}
use mathlib.Core.List.{List}
use Prim.Native.Nat.{ℕ, zero, suc, ◌+◌, ◌*◌, ◌≤◌, ◌<◌}
use native.Mathlib.Omega.{arith}
use borrow.Author.Tests.{eqb-true, eqb-false}
use lib.Dec.{eqb}
use Rattle.chain_entries.specs.Entries.{Chain, size, is_early, start_of, names_in, name_of}
use Rattle.chain_entries.specs.Fits.{Fits}
use Rattle.chain_numbers.specs.Earliest.{lag, highest, found, earliest}
use Rattle.chain_numbers.specs.Numberings.{Numbering}
use Rattle.chain_numbers.proofs.Highest.{highest-least, highest-at, highest-most, highest-same}

lag-some : (entries : List ℕ) (i : ℕ) → (1 ≤ lag entries i) × (lag entries i ≤ 4)
unfolding lag
lag-some entries i = go (is_early entries i)
  where
    go : (b : Bool) → (1 ≤ cond b 4 1) × (cond b 4 1 ≤ 4)
    go true = (omega arith, omega arith)
    go false = (omega arith, omega arith)

-- One step of the definition.
module _ (c : Chain) where
  found_first : (k : ℕ) → found c k 0 ≡ 0
  unfolding found
  found_first zero = refl
  found_first (suc k) = refl

  found-next : (k i : ℕ)
      → found c (suc k) (suc i)
      ≡ highest (λ j. found c k j + lag c.entries (suc i)) c.names (start_of c.entries (suc i)) (names_in c.entries (suc i)) (found c k i + 1)
  unfolding found
  found-next k i = refl

  pub earliest-first : earliest c 0 ≡ 0
  unfolding earliest found
  earliest-first = refl

module _ (c : Chain) (good : Fits c) where
  -- As many calls as the entry's place are enough.
  found-enough : (k l i : ℕ) → i ≤ k → i ≤ l → i < size c → found c k i ≡ found c l i
  found-enough zero l zero p q h = found_first c zero ∙ sym (found_first c l)
  found-enough zero l (suc i) p q h = absurd (omega arith)
  found-enough (suc k) l zero p q h = found_first c (suc k) ∙ sym (found_first c l)
  found-enough (suc k) zero (suc i) p q h = absurd (omega arith)
  found-enough (suc k) (suc l) (suc i) p q h =
      let g = lag c.entries (suc i) in
      let n = names_in c.entries (suc i) in
      found-next c k i
      ∙ highest-same c.names (start_of c.entries (suc i)) (λ j. found c k j + g) (λ j. found c l j + g) n (found c k i + 1)
      (λ m b.
      let e = good.earlier (suc i) m h b in
      ap (λ (x : ℕ). x + g) (found-enough k l (name_of c (suc i) m) (omega arith) (omega arith) (omega arith)))
      ∙ ap (λ (x : ℕ). highest (λ j. found c l j + g) c.names (start_of c.entries (suc i)) n (x + 1)) (found-enough k l i (omega arith) (omega arith) (omega arith))
      ∙ sym (found-next c l i)

  -- The number of an entry from those of the entries that it waits on.
  pub earliest-next : (i : ℕ) → suc i < size c
      → earliest c (suc i)
      ≡ highest (λ j. earliest c j + lag c.entries (suc i)) c.names (start_of c.entries (suc i)) (names_in c.entries (suc i)) (earliest c i + 1)
  unfolding earliest
  earliest-next i h =
      let g = lag c.entries (suc i) in
      found-next c i i
      ∙ highest-same c.names (start_of c.entries (suc i)) (λ j. found c i j + g) (λ j. found c j j + g) (names_in c.entries (suc i)) (found c i i + 1)
      (λ m b.
      let e = good.earlier (suc i) m h b in
      ap (λ (x : ℕ). x + g) (found-enough i (name_of c (suc i) m) (name_of c (suc i) m) (omega arith) (omega arith) (omega arith)))

  pub earliest-rises : (i : ℕ) → suc i < size c → earliest c i < earliest c (suc i)
  earliest-rises i h =
      rw (earliest-next i h)
      (omega (arith, highest-least c.names (start_of c.entries (suc i)) (λ j. earliest c j + lag c.entries (suc i)) (names_in c.entries (suc i)) (earliest c i + 1)))

  earliest-waits : (i k : ℕ) → i < size c → k < names_in c.entries i → earliest c (name_of c i k) + lag c.entries i ≤ earliest c i
  earliest-waits zero k h l = absurd (omega (arith, good.earlier 0 k h l))
  earliest-waits (suc i) k h l =
      rw (earliest-next i h)
      (highest-at c.names (start_of c.entries (suc i)) (λ j. earliest c j + lag c.entries (suc i)) (names_in c.entries (suc i)) (earliest c i + 1) k l)

  -- The earliest numbers are a numbering.
  pub earliest-numbering : Numbering c (earliest c)
  earliest-numbering = record { rise = earliest-rises; seen = earliest-waits }

  -- Every numbering has at each entry a number at least as high.
  found-least : (f : ℕ → ℕ) → Numbering c f → (k i : ℕ) → i < size c → found c k i ≤ f i
  unfolding found
  found-least f n zero i h = omega arith
  found-least f n (suc k) zero h = rw (found_first c (suc k)) (omega arith)
  found-least f n (suc k) (suc i) h =
      let g = lag c.entries (suc i) in
      rw (found-next c k i)
      (highest-most c.names (start_of c.entries (suc i)) (λ j. found c k j + g) (names_in c.entries (suc i)) (found c k i + 1) (f (suc i))
      (omega (arith, found-least f n k i (omega arith), n.rise i h))
      (λ m b.
      let e = good.earlier (suc i) m h b in
      omega (arith, found-least f n k (name_of c (suc i) m) (omega arith), n.seen (suc i) m h b)))

  pub earliest-least : (f : ℕ → ℕ) → Numbering c f → (i : ℕ) → i < size c → earliest c i ≤ f i
  unfolding earliest
  earliest-least f n i h = found-least f n i i h

  -- So they are small: four times the place is a numbering.
  pub earliest-small : (i : ℕ) → i < size c → earliest c i ≤ 4 * i
  earliest-small i h =
      earliest-least (λ i. 4 * i)
      (record {
        rise = λ i h. omega arith;
        seen = λ i k h l. omega (arith, good.earlier i k h l, (lag-some c.entries i).1);
      }) i h

  -- They rise, so that each is at least its place, and at most the number of a later entry.
  pub earliest-above : (i : ℕ) → i < size c → i ≤ earliest c i
  earliest-above zero h = omega arith
  earliest-above (suc i) h = omega (arith, earliest-above i (omega arith), earliest-rises i h)

  pub earliest-most : (n i : ℕ) → n < size c → i ≤ n → earliest c i ≤ earliest c n
  earliest-most zero i h l = ap-le (omega arith)
    where
      ap-le : i ≡ 0 → earliest c i ≤ earliest c zero
      ap-le e = rw e (omega arith)
  earliest-most (suc n) i h l = go (eqb i (suc n)) refl (λ low. earliest-most n i (omega arith) low)
    where
      go : (b : Bool) → eqb i (suc n) ≡ b → (i ≤ n → earliest c i ≤ earliest c n) → earliest c i ≤ earliest c (suc n)
      go true e earlier = rw (eqb-true i (suc n) e) (omega arith)
      go false e earlier = omega (arith, earlier (omega (arith, eqb-false i (suc n) e)), earliest-rises n h)
