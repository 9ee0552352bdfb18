-- Words that hold counts and their sums: after a count is moved they hold the moved counts.
-- Assumes nothing.
use Rattle.std.proofs.Common.{◌≡◌, ℕ, ◌+◌, ◌-◌, ◌*◌, ◌/◌, ◌%◌, ◌^◌, ◌<◌, ◌≤◌, Bool, true, false, cond, not, ◌&&◌, eqb, ltb, ◌≢◌, ◌⊎◌, length, get_or, sym, refl, ap, ◌∙◌, inl, inr, ⊎_elim, add-zero, mod-eq_of_lt, arith, lit<, lit≤, length-set, get_or-set_other, get_or-set_same, ltb-false, ltb-true, lt-ltb, eq-eqb, ne_eqb, eqb-true}
use native.Mathlib.Nat.{add-mod_right}
use borrow.Author.Tests.{eqb-false}
use Rattle.base_lists.specs.Lists.{zeros}
use Rattle.base_lists.proofs.Counts.{count-below-le}
use Rattle.base_lists.proofs.Zeros.{zeros-length, zeros-at}
use Rattle.any_order_sums.specs.Places.{Kept, others_at, all_readers_at, awaiting_at, fed_at, written_at, parted_at, shared_at, kept_length}
use Rattle.any_order_sums.specs.AsCoded.{stepped, moved, moved_if, at_edge, past_edge, other_kind, fed_moved, sums_moved, kind_moved}
use Rattle.any_order_sums.proofs.CountsAt.{bit, count_none}
use Rattle.any_order_sums.proofs.Levels.{used_by, parted_by, shared_by, level, level-off, level-on, used-there, parted-there, shared-there, used-elsewhere, parted-elsewhere, shared-elsewhere, used-here, parted-here, shared-here, used-same, parted-same, shared_same}

-- The counts by place, all 0111s and all waiting pairs, with the sums.
pub record Holds (k : Kept) (f : ℕ → ℕ) (readers awaiting : ℕ) : Type 0 where
  pub size : length k ≡ kept_length
  pub kinds : (i : ℕ) → i ≤ others_at → get_or k i 0 ≡ f i
  pub all-readers : get_or k all_readers_at 0 ≡ readers
  pub all-awaiting : get_or k awaiting_at 0 ≡ awaiting
  pub fed : (d : ℕ) → d < 16 → get_or k (fed_at d) 0 ≡ used_by f (256 + 128 * d)
  pub written : get_or k written_at 0 ≡ used_by f 128
  pub parted : get_or k parted_at 0 ≡ parted_by f
  pub shared : get_or k shared_at 0 ≡ shared_by f

-- A small number that is raised or lowered by 1.
stepped-is : (up : Bool) (x : ℕ) → x ≤ 1000 → stepped up (x + bit (not up)) ≡ x + bit up
unfolding stepped
stepped-is true x h =
    let wide : 1002 ≤ 2 ^ 32 = lit≤ tt in
    mod-eq_of_lt {n = x + 0 + 1} {m = 2 ^ 32} (omega (arith, wide)) ∙ omega arith
stepped-is false x h =
    let wide : 1002 ≤ 2 ^ 32 = lit≤ tt in
    let all : x + 1 + 4294967295 ≡ x + 2 ^ 32 = omega arith in
    rw all (add-mod_right x (2 ^ 32) ∙ mod-eq_of_lt {n = x} {m = 2 ^ 32} (omega (arith, wide)) ∙ sym (add-zero x))

-- The word that moves, and each other.
module _ (up : Bool) (k : Kept) (i : ℕ) where
  pub moved_length : length (moved up k i) ≡ length k
  unfolding moved
  moved_length = length-set k i (stepped up (get_or k i 0))

  pub moved_other : (j : ℕ) → j ≢ i → get_or (moved up k i) j 0 ≡ get_or k j 0
  unfolding moved
  moved_other j n = get_or-set_other k i j (stepped up (get_or k i 0)) 0 n

  pub moved-own : (x : ℕ) → i < length k → x ≤ 1000 → get_or k i 0 ≡ x + bit (not up) → get_or (moved up k i) i 0 ≡ x + bit up
  unfolding moved
  moved-own x l h e = get_or-set_same k i (stepped up (get_or k i 0)) 0 l ∙ ap (stepped up) e ∙ stepped-is up x h

module _ (moves up : Bool) (k : Kept) (i : ℕ) where
  pub moved-if-length : length (moved_if moves up k i) ≡ length k
  unfolding moved_if
  moved-if-length = go moves
    where
      go : (b : Bool) → length (cond b (moved up k i) k) ≡ length k
      go true = moved_length up k i
      go false = refl

  pub moved-if-other : (j : ℕ) → j ≢ i → get_or (moved_if moves up k i) j 0 ≡ get_or k j 0
  unfolding moved_if
  moved-if-other j n = go moves
    where
      go : (b : Bool) → get_or (cond b (moved up k i) k) j 0 ≡ get_or k j 0
      go true = moved_other up k i j n
      go false = refl

  pub moved-if-own : (x : ℕ) → i < length k → x ≤ 1000 → get_or k i 0 ≡ x + bit (not up && moves) → get_or (moved_if moves up k i) i 0 ≡ x + bit (up && moves)
  unfolding moved_if
  moved-if-own x l h e = go moves e
    where
      go : (b : Bool) → get_or k i 0 ≡ x + bit (not up && b) → get_or (cond b (moved up k i) k) i 0 ≡ x + bit (up && b)
      go true q = moved-own up k i x l h (q ∙ on (not up)) ∙ sym (on up)
        where
          on : (c : Bool) → x + bit (c && true) ≡ x + bit c
          on true = refl
          on false = refl
      go false q = q ∙ off (not up) ∙ sym (off up)
        where
          off : (c : Bool) → x + bit (c && false) ≡ x
          off true = add-zero x
          off false = add-zero x

-- The edges by the count that is there without the one that moves.
at_edge_lem : (up : Bool) (x : ℕ) → at_edge up (x + bit up) ≡ eqb x 0
at_edge_lem true x = go (eqb x 0) refl
  where
    go : (b : Bool) → eqb x 0 ≡ b → eqb (x + 1) 1 ≡ b
    go true e = eq-eqb (x + 1) 1 (omega (arith, eqb-true x 0 e))
    go false e = ne_eqb (x + 1) 1 (λ q. eqb-false x 0 e (omega (arith, q)))
at_edge_lem false x = ap (λ (n : ℕ). eqb n 0) (add-zero x)

past-edge : (up : Bool) (x : ℕ) → past_edge up (x + bit up) ≡ eqb x 1
past-edge true x = go (eqb x 1) refl
  where
    go : (b : Bool) → eqb x 1 ≡ b → eqb (x + 1) 2 ≡ b
    go true e = eq-eqb (x + 1) 2 (omega (arith, eqb-true x 1 e))
    go false e = ne_eqb (x + 1) 2 (λ q. eqb-false x 1 e (omega (arith, q)))
past-edge false x = ap (λ (n : ℕ). eqb n 1) (add-zero x)

module _ (up : Bool) (k : Kept) (f : ℕ → ℕ) (few : (j : ℕ) → f j ≤ 256) (r a i : ℕ) (within : i ≤ others_at) (o : Holds k (level (not up) i f) r a) where
  abbrev count : Kept
  count = moved up k i

  count-size : length count ≡ kept_length
  count-size = moved_length up k i ∙ o.size

  own-before : get_or k i 0 ≡ f i + bit (not up)
  own-before = o.kinds i within ∙ level-on (not up) f i

  own-after : stepped up (get_or k i 0) ≡ f i + bit up
  own-after = ap (stepped up) own-before ∙ stepped-is up (f i) (omega (arith, few i))

  count-kinds : (j : ℕ) → j ≤ others_at → get_or count j 0 ≡ level up i f j
  count-kinds j l = go (eqb i j) refl
    where
      go : (b : Bool) → eqb i j ≡ b → get_or count j 0 ≡ level up i f j
      go true e =
          let q = eqb-true i j e in
          rw (← q) (moved-own up k i (f i) (omega (arith, o.size)) (omega (arith, few i)) own-before ∙ sym (level-on up f i))
      go false e =
          let n = eqb-false i j e in
          moved_other up k i j (λ q. n (sym q)) ∙ o.kinds j l ∙ level-off (not up) f i j n ∙ sym (level-off up f i j n)

  -- The words past the kinds.
  count-rest : (j : ℕ) → others_at < j → get_or count j 0 ≡ get_or k j 0
  count-rest j l = moved_other up k i j (λ q. omega arith)

  -- Words that have the moved count, and the sums that go with it.
  record Sums (left : Kept) : Type 0 where
    size : length left ≡ kept_length
    kinds : (j : ℕ) → j ≤ awaiting_at → get_or left j 0 ≡ get_or count j 0
    fed : (d : ℕ) → d < 16 → get_or left (fed_at d) 0 ≡ used_by (level up i f) (256 + 128 * d)
    written : get_or left written_at 0 ≡ used_by (level up i f) 128
    parted : get_or left parted_at 0 ≡ parted_by (level up i f)
    shared : get_or left shared_at 0 ≡ shared_by (level up i f)

  with-sums : (left : Kept) → Sums left → Holds left (level up i f) r a
  with-sums left s =
      record {
        size = s.size;
        kinds = λ j l. s.kinds j (omega arith) ∙ count-kinds j l;
        all-readers = s.kinds all_readers_at (omega arith) ∙ count-rest all_readers_at (omega arith) ∙ o.all-readers;
        all-awaiting = s.kinds awaiting_at (omega arith) ∙ count-rest awaiting_at (omega arith) ∙ o.all-awaiting;
        fed = s.fed;
        written = s.written;
        parted = s.parted;
        shared = s.shared;
      }

  -- A word whose sum stays.
  stays : (left : Kept) (j : ℕ) {x y z : ℕ} → get_or left j 0 ≡ get_or k j 0 → get_or k j 0 ≡ x → x ≡ y → z ≡ y → get_or left j 0 ≡ z
  stays left j p q h g = p ∙ q ∙ h ∙ sym g

  -- There are others: no sum moves.
  others-there : 1 ≤ f i → Sums count
  others-there s =
      record {
        size = count-size;
        kinds = λ j l. refl;
        fed = λ d l. stays count (fed_at d) (count-rest (fed_at d) (omega arith)) (o.fed d l) (used-there (not up) f i s (256 + 128 * d)) (used-there up f i s (256 + 128 * d));
        written = stays count written_at (count-rest written_at (omega arith)) o.written (used-there (not up) f i s 128) (used-there up f i s 128);
        parted = stays count parted_at (count-rest parted_at (omega arith)) o.parted (parted-there (not up) f i s) (parted-there up f i s);
        shared = stays count shared_at (count-rest shared_at (omega arith)) o.shared (shared-there (not up) f i s) (shared-there up f i s);
      }

  -- There are no others: the sum of the kind moves, and each other stays.
  module _ (none : f i ≡ 0) where
    fed-stays : (left : Kept) → ((j : ℕ) → fed_at 0 ≤ j → j < written_at → get_or left j 0 ≡ get_or count j 0) → ((d v : ℕ) → d < 16 → v < 128 → i ≢ 256 + 128 * d + v)
        → (d : ℕ) → d < 16 → get_or left (fed_at d) 0 ≡ used_by (level up i f) (256 + 128 * d)
    fed-stays left same off d l =
        stays left (fed_at d) (same (fed_at d) (omega arith) (omega arith) ∙ count-rest (fed_at d) (omega arith)) (o.fed d l)
        (used-elsewhere (not up) f i (256 + 128 * d) (λ v h. off d v l h)) (used-elsewhere up f i (256 + 128 * d) (λ v h. off d v l h))

    written-stays : (left : Kept) → get_or left written_at 0 ≡ get_or count written_at 0 → (i < 128 ⊎ 256 ≤ i) → get_or left written_at 0 ≡ used_by (level up i f) 128
    written-stays left same off =
        stays left written_at (same ∙ count-rest written_at (omega arith)) o.written (used-elsewhere (not up) f i 128 far) (used-elsewhere up f i 128 far)
      where
        far : (v : ℕ) → v < 128 → i ≢ 128 + v
        far v h e = ⊎_elim (λ (q : i < 128). omega (arith, q, e)) (λ (q : 256 ≤ i). omega (arith, q, e, h)) off

    parted-stays : (left : Kept) → get_or left parted_at 0 ≡ get_or count parted_at 0 → ((d v : ℕ) → d < 16 → v < 128 → i ≢ 256 + 128 * d + v)
        → get_or left parted_at 0 ≡ parted_by (level up i f)
    parted-stays left same off =
        stays left parted_at (same ∙ count-rest parted_at (omega arith)) o.parted (parted-elsewhere (not up) f i off) (parted-elsewhere up f i off)

    shared-stays : (left : Kept) → get_or left shared_at 0 ≡ get_or count shared_at 0 → 128 ≤ i → get_or left shared_at 0 ≡ shared_by (level up i f)
    shared-stays left same h =
        stays left shared_at (same ∙ count-rest shared_at (omega arith)) o.shared (shared-elsewhere (not up) f i h) (shared-elsewhere up f i h)

    words-sums : i < 128 → Sums (moved_if (not (eqb (get_or count (other_kind i) 0) 0)) up count shared_at)
    words-sums h =
        record {
          size = moved-if-length b up count shared_at ∙ count-size;
          kinds = λ j l. other j (λ q. omega arith);
          fed = fed-stays left (λ j l g. other j (λ q. omega arith)) (λ d v l g e. omega arith);
          written = written-stays left (other written_at (λ q. omega arith)) (inl h);
          parted = parted-stays left (other parted_at (λ q. omega arith)) (λ d v l g e. omega arith);
          shared =
              moved-if-own b up count shared_at (shared_by f) (omega (arith, count-size)) (omega (arith, count-below-le (λ w. ltb 0 (f w) && ltb 0 (f (64 + w))) 64))
              (count-rest shared_at (omega arith) ∙ o.shared ∙ shared-here (not up) f i none h ∙ ap (λ (c : Bool). shared_by f + bit (not up && c)) (sym asked))
              ∙ ap (λ (c : Bool). shared_by f + bit (up && c)) asked
              ∙ sym (shared-here up f i none h);
        }
      where
        b : Bool
        b = not (eqb (get_or count (other_kind i) 0) 0)

        left : Kept
        left = moved_if b up count shared_at

        other : (j : ℕ) → j ≢ shared_at → get_or left j 0 ≡ get_or count j 0
        other j n = moved-if-other b up count shared_at j n

        some : (n : ℕ) → not (eqb n 0) ≡ ltb 0 n
        some n = go (eqb n 0) refl
          where
            go : (c : Bool) → eqb n 0 ≡ c → not c ≡ ltb 0 n
            go true e = rw (eqb-true n 0 e)
            go false e = sym (lt-ltb 0 n (omega (arith, eqb-false n 0 e)))

        asked : b ≡ ltb 0 (f (other_kind i))
        asked = some (get_or count (other_kind i) 0) ∙ ap (λ (n : ℕ). ltb 0 n) (count-kinds (other_kind i) (omega arith) ∙ level-off up f i (other_kind i) (λ q. omega arith))

    written-sums : 128 ≤ i → i < 256 → Sums (moved up count written_at)
    written-sums h l =
        record {
          size = moved_length up count written_at ∙ count-size;
          kinds = λ j g. other j (λ q. omega arith);
          fed = fed-stays left (λ j g n. other j (λ q. omega arith)) (λ d v g n e. omega arith);
          written =
              moved-own up count written_at (used_by f 128) (omega (arith, count-size)) (omega (arith, count-below-le (λ v. ltb 0 (f (128 + v))) 128))
              (count-rest written_at (omega arith) ∙ o.written ∙ used-here (not up) f i none 128 (i - 128) (omega arith) (omega arith))
              ∙ sym (used-here up f i none 128 (i - 128) (omega arith) (omega arith));
          parted = parted-stays left (other parted_at (λ q. omega arith)) (λ d v g n e. omega arith);
          shared = shared-stays left (other shared_at (λ q. omega arith)) h;
        }
      where
        left : Kept
        left = moved up count written_at

        other : (j : ℕ) → j ≢ written_at → get_or left j 0 ≡ get_or count j 0
        other j n = moved_other up count written_at j n

    none-sums : others_at ≤ i → Sums count
    none-sums h =
        record {
          size = count-size;
          kinds = λ j l. refl;
          fed = fed-stays count (λ j l g. refl) (λ d v l g e. omega arith);
          written = written-stays count refl (inr (omega arith));
          parted = parted-stays count refl (λ d v l g e. omega arith);
          shared = shared-stays count refl (omega arith);
        }

    module _ (d v : ℕ) (ld : d < 16) (lv : v < 128) (is : i ≡ 256 + 128 * d + v) where
      abbrev used : ℕ
      used = used_by f (256 + 128 * d)

      abbrev fed_words : Kept
      fed_words = moved up count (fed_at d)

      fed-before : get_or count (fed_at d) 0 ≡ used + bit (not up)
      fed-before = count-rest (fed_at d) (omega arith) ∙ o.fed d ld ∙ used-here (not up) f i none (256 + 128 * d) v lv is

      few-used : used ≤ 128
      few-used = count-below-le (λ u. ltb 0 (f (256 + 128 * d + u))) 128

      asked : past_edge up (stepped up (get_or count (fed_at d) 0)) ≡ eqb used 1
      asked = ap (λ (n : ℕ). past_edge up (stepped up n)) fed-before ∙ ap (past_edge up) (stepped-is up used (omega (arith, few-used))) ∙ past-edge up used

      fed-own : get_or fed_words (fed_at d) 0 ≡ used + bit up
      fed-own = moved-own up count (fed_at d) used (omega (arith, count-size)) (omega (arith, few-used)) fed-before

      dac-sums : Sums (fed_moved up count d)
      unfolding fed_moved
      dac-sums = rw asked (
          record {
            size = moved-if-length (eqb used 1) up fed_words parted_at ∙ moved_length up count (fed_at d) ∙ count-size;
            kinds = λ j l. other j (λ q. omega arith) (λ q. omega arith);
            fed = λ e l. at e l (eqb e d) refl;
            written = written-stays left (other written_at (λ q. omega arith) (λ q. omega arith)) (inr (omega arith));
            parted =
                moved-if-own (eqb used 1) up fed_words parted_at (parted_by f)
                (omega (arith, moved_length up count (fed_at d), count-size)) (omega (arith, count-below-le (λ c. ltb 1 (used_by f (256 + 128 * c))) 16))
                (moved_other up count (fed_at d) parted_at (λ q. omega arith) ∙ count-rest parted_at (omega arith) ∙ o.parted ∙ parted-here (not up) f i none d v ld lv is)
                ∙ sym (parted-here up f i none d v ld lv is);
            shared = shared-stays left (other shared_at (λ q. omega arith) (λ q. omega arith)) (omega arith);
          })
        where
          left : Kept
          left = moved_if (eqb used 1) up fed_words parted_at

          other : (j : ℕ) → j ≢ parted_at → j ≢ fed_at d → get_or left j 0 ≡ get_or count j 0
          other j n g = moved-if-other (eqb used 1) up fed_words parted_at j n ∙ moved_other up count (fed_at d) j g

          at : (e : ℕ) → e < 16 → (b : Bool) → eqb e d ≡ b → get_or left (fed_at e) 0 ≡ used_by (level up i f) (256 + 128 * e)
          at e l true q =
              let r = eqb-true e d q in
              rw r (moved-if-other (eqb used 1) up fed_words parted_at (fed_at d) (λ g. omega arith) ∙ fed-own ∙ sym (used-here up f i none (256 + 128 * d) v lv is))
          at e l false q =
              let n = eqb-false e d q in
              stays left (fed_at e) (other (fed_at e) (λ g. omega arith) (λ g. n (omega (arith, g))) ∙ count-rest (fed_at e) (omega arith)) (o.fed e l)
              (used-elsewhere (not up) f i (256 + 128 * e) (λ u g h. n (omega (arith, g, h, is, lv)))) (used-elsewhere up f i (256 + 128 * e) (λ u g h. n (omega (arith, g, h, is, lv))))

  -- Whatever the kind is.
  pub kind-moved : Holds (kind_moved up k i) (level up i f) r a
  unfolding kind_moved sums_moved
  kind-moved = rw (ap (at_edge up) own-after ∙ at_edge_lem up (f i)) (edge (eqb (f i) 0) refl)
    where
      kind : f i ≡ 0 → (a b c : Bool) → ltb i 128 ≡ a → ltb i 256 ≡ b → ltb i 2304 ≡ c
          → Sums (cond a (moved_if (not (eqb (get_or count (other_kind i) 0) 0)) up count shared_at) (cond b (moved up count written_at) (cond c (fed_moved up count ((i - 256) / 128)) count)))
      kind z true b c p q s = words-sums z (ltb-true i 128 p)
      kind z false true c p q s = written-sums z (ltb-false i 128 p) (ltb-true i 256 q)
      kind z false false true p q s =
          let h = ltb-false i 256 q in
          let g = ltb-true i 2304 s in
          dac-sums z ((i - 256) / 128) ((i - 256) % 128) (omega arith) (omega arith) (omega arith)
      kind z false false false p q s = none-sums z (ltb-false i 2304 s)

      edge : (b : Bool) → eqb (f i) 0 ≡ b → Holds (cond b (sums_moved up count i) count) (level up i f) r a
      edge true e = with-sums _ (kind (eqb-true (f i) 0 e) (ltb i 128) (ltb i 256) (ltb i 2304) refl refl refl)
      edge false e = with-sums count (others-there (some (f i) (eqb-false (f i) 0 e)))
        where
          some : (n : ℕ) → n ≢ 0 → 1 ≤ n
          some n h = omega (arith, h)

-- Counts that are the same are held too.
pub holds_same : {k : Kept} {f g : ℕ → ℕ} {r s a b : ℕ} → ((i : ℕ) → i ≤ others_at → f i ≡ g i) → r ≡ s → a ≡ b → Holds k f r a → Holds k g s b
holds_same {k} {f} {g} same read await o =
    record {
      size = o.size;
      kinds = λ i l. o.kinds i l ∙ same i l;
      all-readers = o.all-readers ∙ read;
      all-awaiting = o.all-awaiting ∙ await;
      fed = λ d l. o.fed d l ∙ used-same f g (256 + 128 * d) (λ v h. pos (256 + 128 * d + v) (omega arith));
      written = o.written ∙ used-same f g 128 (λ v h. pos (128 + v) (omega arith));
      parted = o.parted ∙ parted-same f g (λ d l. used-same f g (256 + 128 * d) (λ v h. pos (256 + 128 * d + v) (omega arith)));
      shared = o.shared ∙ shared_same f g (λ j l. pos j (omega arith));
    }
  where
    pos : (j : ℕ) → j ≤ others_at → ltb 0 (f j) ≡ ltb 0 (g j)
    pos j l = ap (λ (n : ℕ). ltb 0 n) (same j l)

-- All 0111s, or all waiting pairs, are moved.
module _ (b up : Bool) (k : Kept) (f : ℕ → ℕ) (r a : ℕ) where
  pub readers-moved : r ≤ 1000 → Holds k f (r + bit (not up && b)) a → Holds (moved_if b up k all_readers_at) f (r + bit (up && b)) a
  readers-moved small o =
      record {
        size = moved-if-length b up k all_readers_at ∙ o.size;
        kinds = λ i l. other i (λ q. omega arith) ∙ o.kinds i l;
        all-readers = moved-if-own b up k all_readers_at r (omega (arith, o.size)) small o.all-readers;
        all-awaiting = other awaiting_at (λ q. omega arith) ∙ o.all-awaiting;
        fed = λ d l. other (fed_at d) (λ q. omega arith) ∙ o.fed d l;
        written = other written_at (λ q. omega arith) ∙ o.written;
        parted = other parted_at (λ q. omega arith) ∙ o.parted;
        shared = other shared_at (λ q. omega arith) ∙ o.shared;
      }
    where
      other : (j : ℕ) → j ≢ all_readers_at → get_or (moved_if b up k all_readers_at) j 0 ≡ get_or k j 0
      other j n = moved-if-other b up k all_readers_at j n

  pub awaiting-moved : a ≤ 1000 → Holds k f r (a + bit (not up && b)) → Holds (moved_if b up k awaiting_at) f r (a + bit (up && b))
  awaiting-moved small o =
      record {
        size = moved-if-length b up k awaiting_at ∙ o.size;
        kinds = λ i l. other i (λ q. omega arith) ∙ o.kinds i l;
        all-readers = other all_readers_at (λ q. omega arith) ∙ o.all-readers;
        all-awaiting = moved-if-own b up k awaiting_at a (omega (arith, o.size)) small o.all-awaiting;
        fed = λ d l. other (fed_at d) (λ q. omega arith) ∙ o.fed d l;
        written = other written_at (λ q. omega arith) ∙ o.written;
        parted = other parted_at (λ q. omega arith) ∙ o.parted;
        shared = other shared_at (λ q. omega arith) ∙ o.shared;
      }
    where
      other : (j : ℕ) → j ≢ awaiting_at → get_or (moved_if b up k awaiting_at) j 0 ≡ get_or k j 0
      other j n = moved-if-other b up k awaiting_at j n

-- Words that are all 0 hold counts that are all 0.
pub zeros-hold : (f : ℕ → ℕ) → ((i : ℕ) → f i ≡ 0) → Holds (zeros kept_length) f 0 0
zeros-hold f none =
    record {
      size = zeros-length kept_length;
      kinds = λ i l. zeros-at kept_length i (omega arith) ∙ sym (none i);
      all-readers = zeros-at kept_length all_readers_at (lit< tt);
      all-awaiting = zeros-at kept_length awaiting_at (lit< tt);
      fed = λ d l. zeros-at kept_length (fed_at d) (omega arith) ∙ sym (unused (256 + 128 * d));
      written = zeros-at kept_length written_at (lit< tt) ∙ sym (unused 128);
      parted = zeros-at kept_length parted_at (lit< tt) ∙ sym (count_none (λ d. ltb 1 (used_by f (256 + 128 * d))) 16 (λ d. rw (unused (256 + 128 * d))));
      shared = zeros-at kept_length shared_at (lit< tt) ∙ sym (count_none (λ w. ltb 0 (f w) && ltb 0 (f (64 + w))) 64 (λ w. rw (none w)));
    }
  where
    unused : (at : ℕ) → used_by f at ≡ 0
    unused at = count_none (λ v. ltb 0 (f (at + v))) 128 (λ v. rw (none (at + v)))
