-- Sums and last feeders by number over a stretch of the generators: what stands outside of it brings nothing.
-- Assumes nothing.
use mathlib.Core.Path.{◌≡◌, refl, sym, ap, ◌∙◌}
use mathlib.Core.Logic.{◌≢◌}
use mathlib.Core.Bool.{Bool, cond}
use mathlib.Core.List.{List, [], ◌∷◌, ◌++◌}
use Prim.Native.Nat.{ℕ, zero, suc, ◌+◌, ◌-◌, ◌≤◌, ◌<◌}
use native.Mathlib.Omega.{arith}
use native.Mathlib.Nat.{add-zero}
use Rattle.base_lists.specs.Lists.{tabulate}
use Rattle.base_sequences.specs.Sequences.{by_number, latest, total}
use Rattle.base_sequences.proofs.Totals.{total-append}
use Rattle.equal_endings.proofs.Folds.{replacing, replacing-left}

-- The order by number of one more.
tabulate-more : (i n : ℕ) → tabulate (λ g. g) i (suc n) ≡ tabulate (λ g. g) i n ++ ((i + n) ∷ [])
unfolding tabulate
tabulate-more i zero = ap (λ (k : ℕ). k ∷ []) (sym (add-zero i))
tabulate-more i (suc n) =
    let e : suc i + n ≡ i + suc n = omega arith in
    ap (λ (l : List ℕ). i ∷ l) (tabulate-more (suc i) n ∙ ap (λ (k : ℕ). tabulate (λ g. g) (suc i) n ++ (k ∷ [])) e)

number_more : (n : ℕ) → by_number (suc n) ≡ by_number n ++ (n ∷ [])
unfolding by_number
number_more n = let e : 0 + n ≡ n = omega arith in tabulate-more 0 n ∙ ap (λ (k : ℕ). tabulate (λ g. g) 0 n ++ (k ∷ [])) e

pub total-more : (f : ℕ → ℕ) (n : ℕ) → total f (by_number (suc n)) ≡ total f (by_number n) + f n
unfolding total
total-more f n = ap (total f) (number_more n) ∙ total-append f (by_number n) (n ∷ []) ∙ ap (λ (k : ℕ). total f (by_number n) + k) (add-zero (f n))

replacing-more : (p : ℕ → Bool) (f : ℕ → ℕ) (xs : List ℕ) (n v : ℕ) → replacing p f (xs ++ (n ∷ [])) v ≡ cond (p n) (f n) (replacing p f xs v)
replacing-more p f [] n v = refl
replacing-more p f (x ∷ xs) n v = replacing-more p f xs n (cond (p x) (f x) v)

pub latest-more : (p : ℕ → Bool) (f : ℕ → ℕ) (v n : ℕ) → latest p f (by_number (suc n)) v ≡ cond (p n) (f n) (latest p f (by_number n) v)
latest-more p f v n =
    ap (λ (o : List ℕ). latest p f o v) (number_more n)
    ∙ sym (replacing-left p f (by_number n ++ (n ∷ [])) v)
    ∙ replacing-more p f (by_number n) n v
    ∙ ap (λ (x : ℕ). cond (p n) (f n) x) (replacing-left p f (by_number n) v)

-- Two sequences, each by its steps, of which the first makes those of the second from a place on and no others.
module _ (R r : ℕ → ℕ) (G g : ℕ → ℕ → ℕ) (at t : ℕ) (first : R 0 ≡ r 0) (R-next : (n : ℕ) → R (suc n) ≡ G n (R n)) (r-next : (n : ℕ) → r (suc n) ≡ g n (r n))
    (same : (k : ℕ) → k < t → (x : ℕ) → G (at + k) x ≡ g k x) (n : ℕ) (room : at + t ≤ n)
    (other : (h : ℕ) → h < n → ((k : ℕ) → k < t → h ≢ at + k) → (x : ℕ) → G h x ≡ x) where
  front : (k : ℕ) → k ≤ at → R k ≡ r 0
  front zero h = first
  front (suc k) h = R-next k ∙ other k (omega arith) (λ j l e. omega arith) (R k) ∙ front k (omega arith)

  middle : (k : ℕ) → k ≤ t → R (at + k) ≡ r k
  middle zero h = let e : at + 0 ≡ at = omega arith in ap R e ∙ front at (omega arith)
  middle (suc k) h =
      let e : at + suc k ≡ suc (at + k) = omega arith in
      ap R e ∙ R-next (at + k) ∙ same k (omega arith) (R (at + k)) ∙ ap (g k) (middle k (omega arith)) ∙ sym (r-next k)

  behind : (k : ℕ) → at + t + k ≤ n → R (at + t + k) ≡ r t
  behind zero h = let e : at + t + 0 ≡ at + t = omega arith in ap R e ∙ middle t (omega arith)
  behind (suc k) h =
      let e : at + t + suc k ≡ suc (at + t + k) = omega arith in
      ap R e ∙ R-next (at + t + k) ∙ other (at + t + k) (omega arith) (λ j l q. omega arith) (R (at + t + k)) ∙ behind k (omega arith)

  pub inside : R n ≡ r t
  inside = let e : n ≡ at + t + (n - (at + t)) = omega arith in ap R e ∙ behind (n - (at + t)) (omega arith)
