-- The modifiers of a pass, their delay units and the end of the pass on two machines that differ in the counter's high bits alone: no turn looks at the counter, and 1 is added to both.
-- Assumes nothing.
use mathlib.Core.Path.{◌≡◌, refl}
use mathlib.Core.Bool.{Bool, true, false, cond, ◌&&◌}
use mathlib.Core.List.{List, []}
use Prim.Native.Nat.{ℕ, zero, suc, ◌/◌, ◌≤◌, ◌<◌}
use native.Mathlib.Omega.{arith}
use lib.ListN.{length, get_or, set, replicate}
use Rattle.layout.specs.Layout.{quadrant_at, counter_at, modifier_at, delay_at}
use Rattle.layout.specs.Machine.{Machine, Sums}
use Rattle.layout_texts.specs.declared.Text.{Text}
use Rattle.pass_sums.specs.Sums.{generator_this, generator_last, modifier_this, modifier_last, closed}
use Rattle.pass_sums.proofs.Closing.{closed-length}
use Rattle.modifier.specs.declared.Modifier.{Modifier}
use Rattle.modifier.specs.Modifier.{stored}
use Rattle.modifier_delay.specs.Invoke.{unit_of}
use Rattle.delay.specs.declared.Delay.{Delay}
use Rattle.delay.specs.Delay.{runs, stored as stored_delay, delay_turn_of as delay_turn}
use Rattle.delay_questions.specs.Questions.{delay_of}
use Rattle.pass_model.specs.Modifiers.{early_view, late_view, given, invokes_delay, second_input, turn_seen, modifier_of, Held, delayed, Stage, modify, modified, modified_by}
use Rattle.pass_model.specs.Pass.{completed}
use Rattle.pass_model.proofs.Modifiers.{words-length}
use Rattle.ring_counter.specs.SameButHigh.{SameButHigh}
use Rattle.ring_counter.proofs.Words.{put, put_all, count, modifier, unit}

-- Words and delay memory of two such machines, and the stage under way.
pub record SameHeld (h k : Held) : Type 0 where
  pub words : SameButHigh h.words k.words
  pub memory : h.memory ≡ k.memory

record SameStage (v w : Stage) : Type 0 where
  held : SameHeld v.held w.held
  writes : v.writes ≡ w.writes

either_held : (b : Bool) {h k l o : Held} → SameHeld h k → SameHeld l o → SameHeld (cond b h l) (cond b k o)
either_held true s r = s
either_held false s r = r

stored_same : {m n : Machine} → SameButHigh m n → (at : ℕ) (u : Modifier) → SameButHigh (stored m at u) (stored n at u)
unfolding stored
stored_same s at u = put (put (put (put s _ _) _ _) _ _) _ _

unit-same : {m n : Machine} → SameButHigh m n → (at : ℕ) (d : Delay) → SameButHigh (stored_delay m at d) (stored_delay n at d)
unfolding stored_delay
unit-same s at d = put (put (put (put s _ _) _ _) _ _) _ _

closed_same : {m n : Machine} → SameButHigh m n → (s : Sums) → SameButHigh (closed m s) (closed n s)
unfolding closed
closed_same same s =
    put_all (get_or s modifier_this [])
    (put_all (replicate 64 0)
    (put_all (get_or s generator_this [])
    (put_all (replicate 64 0) same (quadrant_at generator_this))
    (quadrant_at generator_last))
    (quadrant_at modifier_this))
    (quadrant_at modifier_last)

module _ (text : Text) (t : ℕ) where
  turn-same : {m n : Machine} → SameButHigh m n → (s : Sums) (early late : List ℕ) (u : Modifier) → turn_seen text t m s early late u ≡ turn_seen text t n s early late u
  unfolding turn_seen second_input given
  turn-same same s early late u = rw (unit same (unit_of u))

  delayed-same : (h k : Held) → SameHeld h k → (u : Modifier) (w : ℕ) → SameHeld (delayed text t h u w) (delayed text t k u w)
  unfolding delayed
  delayed-same h k same u w =
      let d = delay_of k.words (unit_of u) in
      let a = delay_turn d k.memory w in
      let acts : SameHeld (record { words = stored_delay h.words (delay_at (unit_of u)) a.unit; memory = a.memory }) (record { words = stored_delay k.words (delay_at (unit_of u)) a.unit; memory = a.memory })
      = record { words = unit-same same.words (delay_at (unit_of u)) a.unit; memory = refl } in
      let rests : SameHeld (record { words = h.words; memory = k.memory }) k = record { words = same.words; memory = refl } in
      rw (unit same.words (unit_of u), same.memory) (either_held (invokes_delay text u && runs t (unit_of u) d) acts rests)

  modify-same : (s : Sums) (v w : Stage) → SameStage v w → (k : ℕ) → k < 128 → SameStage (modify text t s v k) (modify text t s w k)
  unfolding modify
  modify-same s v w same k h =
      let q = get_or s modifier_this [] in
      let u = modifier_of w.held.words k in
      rw (
        modifier same.held.words k h,
        same.writes,
        turn-same same.held.words s (early_view q k w.writes) (late_view q k w.writes) u,
      )
      (record {
        held = delayed-same _ _ (record { words = stored_same same.held.words (modifier_at k) _; memory = same.held.memory }) u _;
        writes = refl;
      })

  module _ (h k : Held) (same : SameHeld h k) (s : Sums) where
    modified-same : (n : ℕ) → n ≤ 128 → SameStage (modified text t h s n) (modified text t k s n)
    unfolding modified
    modified-same zero l = record { held = same; writes = refl }
    modified-same (suc n) l = modify-same s (modified text t h s n) (modified text t k s n) (modified-same n (omega arith)) n (omega arith)

    after : (n : ℕ) → n ≤ 128 → SameHeld (modified_by text t h s n).held (modified_by text t k s n).held
    unfolding modified_by
    after n l = (modified-same n l).held

    this-same : (n : ℕ) → n ≤ 128 → (modified_by text t h s n).this ≡ (modified_by text t k s n).this
    unfolding modified_by
    this-same n l = rw (modified-same n l).writes

    pub completed-same : t ≤ 256 → counter_at < length h.words → SameHeld (completed text t h s) (completed text t k s)
    unfolding completed
    completed-same few inside =
        let end = after (t / 2) (omega arith) in
        let sums = set s modifier_this (modified_by text t k s (t / 2)).this in
        rw (this-same (t / 2) (omega arith))
        (record {
          words = count (closed_same end.words sums) (rw (closed-length (modified_by text t h s (t / 2)).held.words sums, words-length text t h s (t / 2)) inside);
          memory = end.memory;
        })
