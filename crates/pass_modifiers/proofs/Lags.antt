-- The code's early view, which lags by a ring of the last four writes, is the definition's.
-- Assumes nothing.
use mathlib.Core.Path.{◌≡◌, refl, sym, ap, ◌∙◌}
use mathlib.Core.List.{List, [], ◌∷◌, ◌++◌}
use Prim.Native.Nat.{ℕ, zero, suc, ◌+◌, ◌-◌, ◌%◌, ◌<◌}
use native.Mathlib.Omega.{arith}
use native.Mathlib.Nat.{le_of_suc-le-suc, not-suc-le-zero}
use native.Mathlib.Numerals.{add-one}
use lib.ListN.{length, get_or, set, take, length-append}
use lib.Seq.{take_all, take-append-le, set-get_or, set-set}
use Rattle.pass_model.specs.Modifiers.{Write, with_write, with_writes, early_view, late_view, turn_seen, Stage, modifier_of, Held, modify, modified, modified_by}
use Rattle.pass_model.proofs.Views.{writes-snoc, this-at, turn-set}
use Rattle.pass_views.specs.declared.Written.{Written}
use Rattle.pass_views.specs.AsCoded.{word_left, first_written, caught_up, unwritten}
use Rattle.pass_modifiers.specs.AsCoded.{Lagging, lag_step, lagged}
use Rattle.pass_modifiers.proofs.Ring.{Ring, oldest, ring-on, ring-start}
use Rattle.layout_texts.specs.declared.Text.{Text}

-- What a read past the ring's end would give.
abbrev none : Written
none = first_written 0

-- Of each write MSUM, and the word that it left.
abbrev written_of : List ℕ → List Write → List Written
written_of q [] = []
written_of q (w ∷ ws) = record { msum = w.msum; left = word_left q w } ∷ written_of (with_write q w) ws

written-snoc : (q : List ℕ) (ws : List Write) (x : Write) → written_of q (ws ++ (x ∷ [])) ≡ written_of q ws ++ (record { msum = x.msum; left = word_left (with_writes q ws) x } ∷ [])
unfolding with_writes
written-snoc q [] x = refl
written-snoc q (w ∷ ws) x = ap (λ (l : List Written). record { msum = w.msum; left = word_left q w } ∷ l) (written-snoc (with_write q w) ws x)

-- A view goes on by write k where the word that it left is put at its place.
write-next : (q : List ℕ) (ws : List Write) (k : ℕ) → k < length ws →
    set (with_writes q (take k ws)) ((get_or (written_of q ws) k none).msum % 64) (get_or (written_of q ws) k none).left ≡ with_writes q (take (suc k) ws)
unfolding with_writes with_write word_left
write-next q [] k h = absurd (not-suc-le-zero h)
write-next q (w ∷ ws) zero h = refl
write-next q (w ∷ ws) (suc k) h = write-next (with_write q w) ws k (le_of_suc-le-suc h)

-- What as many writes leave.
same-many : (q : List ℕ) (ws : List Write) (a b : ℕ) → a ≡ b → with_writes q (take a ws) ≡ with_writes q (take b ws)
same-many q ws a b e = rw e

-- What the ring holds: four writes that change nothing, and those of the stage.
abbrev ring_of : List ℕ → List Write → List Written
ring_of q ws =
    let first = first_written (get_or q 0 0) in
    first ∷ first ∷ first ∷ first ∷ written_of q ws

-- By the oldest of the ring the view of n-4 writes becomes the early view of modifier n.
module _ (q : List ℕ) (ws : List Write) where
  next-seen : (n : ℕ) → length ws ≡ n →
      set (with_writes q (take (n - 4) ws)) ((get_or (ring_of q ws) n none).msum % 64) (get_or (ring_of q ws) n none).left ≡ with_writes q (take (n + 1 - 4) ws)
  unfolding with_writes
  next-seen zero h = set-get_or q 0 0
  next-seen (suc zero) h = set-get_or q 0 0
  next-seen (suc (suc zero)) h = set-get_or q 0 0
  next-seen (suc (suc (suc zero))) h = set-get_or q 0 0
  next-seen (suc (suc (suc (suc k)))) h =
      rw (same-many q ws (suc (suc (suc (suc k))) - 4) k (omega arith))
      (write-next q ws k (omega arith) ∙ same-many q ws (suc k) (suc (suc (suc (suc k))) + 1 - 4) (omega arith))

  caught : (n : ℕ) (writes : List Written) → length ws ≡ n → Ring none writes (ring_of q ws) n
      → caught_up (with_writes q (take (n - 4) ws)) writes (n % 4) ≡ early_view q n ws
  unfolding caught_up early_view
  caught n writes h r = rw (oldest none writes (ring_of q ws) n r) (next-seen n h)

  -- With one write more it is the view of as many writes less one.
  early-before : (n : ℕ) (x : Write) → length ws ≡ n → early_view q n ws ≡ with_writes q (take (suc n - 4) (ws ++ (x ∷ [])))
  unfolding early_view
  early-before n x h = rw (take-append-le (suc n - 4) ws (x ∷ []) (omega arith)) (same-many q ws (n + 1 - 4) (suc n - 4) (omega arith))

  -- The late view has all writes.
  late-all : (n : ℕ) → length ws ≡ n → late_view q n ws ≡ with_writes q ws
  unfolding late_view
  late-all n h = rw (take_all (n + 1 - 1) ws (omega arith))

-- The code's state is that of the definition.
record Bridge (s : List (List ℕ)) (v : Lagging) (w : Stage) (n : ℕ) : Type 0 where
  same-held : v.held ≡ w.held
  same-sums : v.sums ≡ set s 2 (with_writes (get_or s 2 []) w.writes)
  same-early : v.lag.early ≡ with_writes (get_or s 2 []) (take (n - 4) w.writes)
  count : length w.writes ≡ n
  same-ring : Ring none v.lag.writes (ring_of (get_or s 2 []) w.writes) n

bridge-on : (text : Text) (t : ℕ) (s : List (List ℕ)) (v : Lagging) (w : Stage) (n : ℕ) → Bridge s v w n → Bridge s (lag_step text t v n) (modify text t s w n) (suc n)
unfolding lag_step modify
bridge-on text t s v w n b =
    let q = get_or s 2 [] in
    let l = with_writes q w.writes in
    let e = early_view q n w.writes in
    let this : get_or v.sums 2 [] ≡ l = rw b.same-sums (this-at s w.writes) in
    let early : caught_up v.lag.early v.lag.writes (n % 4) ≡ e
    = rw b.same-early (caught q w.writes n v.lag.writes b.count b.same-ring) in
    let words = w.held.words in
    let u = modifier_of words n in
    let done = turn_seen text t words s e (late_view q n w.writes) u in
    let x : Write = record { msum = u.msum; s = done.s } in
    let turn : turn_seen text t v.held.words v.sums (caught_up v.lag.early v.lag.writes (n % 4)) (get_or v.sums 2 []) (modifier_of v.held.words n) ≡ done
    = rw (early, this, b.same-sums, b.same-held, late-all q w.writes n b.count) (turn-set text t words s l e l u) in
    record {
      same-held = rw (turn, b.same-held);
      same-sums = rw (turn, this, b.same-sums, b.same-held, set-set s 2 l (with_write l x), writes-snoc q w.writes x);
      same-early = rw early (early-before q w.writes n x b.count);
      count = omega (arith, length-append w.writes (x ∷ []), b.count);
      same-ring = rw (turn, this, b.same-held, written-snoc q w.writes x) (ring-on none v.lag.writes (ring_of q w.writes) n (record { msum = x.msum; left = word_left l x }) b.same-ring);
    }

bridge : (text : Text) (t : ℕ) (h : Held) (s : List (List ℕ)) (n : ℕ) → Bridge s (lagged text t h s n) (modified text t h s n) n
unfolding lagged modified with_writes unwritten
bridge text t h s zero = record {
  same-held = refl;
  same-sums = sym (set-get_or s 2 []);
  same-early = refl;
  count = refl;
  same-ring = ring-start none _ _ _ _;
}
bridge text t h s (suc n) = bridge-on text t s (lagged text t h s n) (modified text t h s n) n (bridge text t h s n)

-- One modifier more, and all of them.
pub lagged-on : (text : Text) (t : ℕ) (h : Held) (s : List (List ℕ)) (k : ℕ) {v w : Lagging} → w ≡ lag_step text t v k → v ≡ lagged text t h s k → w ≡ lagged text t h s (k + 1)
unfolding lagged
lagged-on text t h s k e p = rw (add-one, ← p) e

pub stage-end : (text : Text) (t : ℕ) (h : Held) (s : List (List ℕ)) (n k : ℕ) {v : Lagging} → k ≡ n → v ≡ lagged text t h s k
    → (v.held ≡ (modified_by text t h s n).held) × (v.sums ≡ set s 2 (modified_by text t h s n).this)
unfolding modified_by
stage-end text t h s n k p e =
    let b = bridge text t h s k in
    (rw (e, b.same-held, p), rw (e, b.same-sums, p))
