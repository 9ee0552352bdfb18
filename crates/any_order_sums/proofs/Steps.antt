-- What the code's branches leave, as the definitions have it.
-- Assumes nothing.
use Rattle.std.proofs.Common.{◌≡◌, ℕ, ◌+◌, ◌-◌, ◌/◌, ◌<◌, ◌≤◌, Bool, true, false, cond, eqb, ◌≢◌, get_or, sym, refl, ◌∙◌, arith, le-ltb, lt-ltb, eq-eqb, ne_eqb}
use mir.Val.{bool_byte}
use Rattle.any_order_sums.specs.Places.{Kept, fed_at, written_at, parted_at, shared_at}
use Rattle.any_order_sums.specs.AsCoded.{stepped, moved, moved_if, at_edge, past_edge, other_kind, fed_moved, sums_moved, kind_moved}

-- A direction as a number.
pub small : (up : Bool) → bool_byte up ≤ 1
small true = omega arith
small false = omega arith

edge : (up : Bool) (n : ℕ) → eqb n (bool_byte up) ≡ at_edge up n
edge true n = refl
edge false n = refl

past : (up : Bool) (n : ℕ) → eqb n (1 + bool_byte up) ≡ past_edge up n
past true n = refl
past false n = refl

module _ (up : Bool) (k : Kept) where
  pub fed_by : (d : ℕ) {n : ℕ} {fed left : Kept} → n ≡ stepped up (get_or k (fed_at d) 0) → fed ≡ moved up k (fed_at d)
      → left ≡ moved_if (eqb n (1 + bool_byte up)) up fed parted_at → left ≡ fed_moved up k d
  unfolding fed_moved
  fed_by d {n} n-is fed-is left_is = left_is ∙ rw (past up n, n-is, fed-is)

  module _ (i : ℕ) {n : ℕ} {count : Kept} (n-is : n ≡ stepped up (get_or k i 0)) (count-is : count ≡ moved up k i) where
    at-edge-is : at_edge up (stepped up (get_or k i 0)) ≡ eqb n (bool_byte up)
    at-edge-is = rw (← n-is) (sym (edge up n))

    -- No sum moves where the count neither begins nor ceases to be 0; else each kind's own.
    pub off-edge : n ≢ bool_byte up → count ≡ kind_moved up k i
    unfolding kind_moved
    off-edge h = count-is ∙ rw (at-edge-is, ne_eqb n (bool_byte up) h)

    pub written-at-edge : n ≡ bool_byte up → 128 ≤ i → i < 256 → {left : Kept} → left ≡ moved up count written_at → left ≡ kind_moved up k i
    unfolding kind_moved sums_moved
    written-at-edge h low high e = e ∙ rw (at-edge-is, eq-eqb n (bool_byte up) h, le-ltb i 128 low, lt-ltb i 256 high, count-is)

    pub fed-at-edge : n ≡ bool_byte up → 256 ≤ i → i < 2304 → {d : ℕ} → d ≡ (i - 256) / 128 → {left : Kept} → left ≡ fed_moved up count d → left ≡ kind_moved up k i
    unfolding kind_moved sums_moved
    fed-at-edge h low high d-is e =
        e ∙ rw (at-edge-is, eq-eqb n (bool_byte up) h, le-ltb i 128 (omega (arith, low)), le-ltb i 256 low, lt-ltb i 2304 high, count-is, d-is)

    -- On a sum word: the other kind is asked first.
    module _ (word : i < 128) {other : ℕ} (other-is : other ≡ other_kind i) where
      pub word-alone : get_or count other 0 ≡ 0 → count ≡ kind_moved up k i
      unfolding kind_moved sums_moved moved_if
      word-alone h = rw (lt-ltb i 128 word, ← count-is, ← other-is, h) (same (at_edge up (stepped up (get_or k i 0))))
        where
          same : (b : Bool) → count ≡ cond b count count
          same true = refl
          same false = refl

      pub word-shared : get_or count other 0 ≢ 0 → {left : Kept} → left ≡ moved_if (eqb n (bool_byte up)) up count shared_at → left ≡ kind_moved up k i
      unfolding kind_moved sums_moved moved_if
      word-shared h e = e ∙ rw (lt-ltb i 128 word, ← count-is, ← other-is, ne_eqb (get_or count other 0) 0 h, at-edge-is)

-- Of the generators that are none of the kinds no sum is made.
pub others_by : (up : Bool) (k : Kept) {left : Kept} → left ≡ moved up k 2304 → left ≡ kind_moved up k 2304
unfolding kind_moved sums_moved
others_by up k e = e ∙ same (at_edge up (stepped up (get_or k 2304 0)))
  where
    same : (b : Bool) → moved up k 2304 ≡ cond b (moved up k 2304) (moved up k 2304)
    same true = refl
    same false = refl
