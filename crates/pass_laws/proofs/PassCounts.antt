-- The pass counter, and the items: those that a pass reads and writes are as many as there are generators in 0111 and in 0011, since each generator is taken once, as it was when the pass began.
-- Assumes nothing.
use mathlib.Core.Path.{◌≡◌, refl, sym, ◌∙◌, ap}
use mathlib.Core.Logic.{◌≢◌}
use mathlib.Core.Bool.{Bool, true, false, cond}
use mathlib.Core.List.{[], ◌∷◌}
use Prim.Native.Nat.{ℕ, suc, ◌+◌, ◌%◌, ◌^◌, ◌<◌}
use native.Mathlib.Omega.{arith}
use native.Mathlib.Nat.{zero-add, add-zero, mod-add-mod}
use lib.Dec.{eqb, lit<, lit≤}
use lib.ListN.{length, get_or}
use Rattle.base_words.proofs.Residues.{wrapped}
use Rattle.layout.specs.Layout.{generator_at, counter_at}
use Rattle.layout.specs.Widths.{counter_bits, linger_bits}
use Rattle.layout.specs.Machine.{Machine, Order, Items, ticks_of, low_counter}
use Rattle.layout_texts.specs.Texts.{run_mode_at, distance_of}
use Rattle.layout_texts.specs.declared.Text.{Text}
use Rattle.layout_modes.specs.Modes.{replaces, read_data, write_data}
use Rattle.layout_modes.proofs.RunModes.{replaces-is}
use Rattle.machine.specs.Questions.{valid}
use Rattle.machine.proofs.ValidMachine.{reaches}
use Rattle.pass_sums.specs.Sums.{sums_of}
use Rattle.pass_sums.proofs.Memory.{sums-quadrants}
use Rattle.pass_order.specs.Order.{in_mode}
use Rattle.base_sequences.specs.Sequences.{keep}
use Rattle.base_sequences.proofs.Entries.{keep_same}
use Rattle.base_sequences.proofs.Orders.{keep-order-same, length-keep}
use Rattle.generator.specs.declared.Generator.{Generator}
use Rattle.pass_model.specs.Generators.{generators_of, State, generator_of, triggered_below, step, steps, begun}
use Rattle.generator_turn.specs.AsCoded.{run_of}
use Rattle.pass_model.proofs.Keeps.{turn-keeps}
use Rattle.pass_model.proofs.Turns.{run-loaded}
use Rattle.pass_model.specs.Pass.{Call, pass_refusal, pass_of}
use Rattle.pass_laws.proofs.Frames.{apart_other, not_there, step-below, steps-length, steps-beyond, steps-quadrants}
use Rattle.pass_laws.proofs.TextTurns.{sixteen, same-generator}
use Rattle.pass_laws.proofs.ValidPuts.{gmode-loaded}
use Rattle.pass_laws.proofs.Passing.{Admitted, generators_done, held_then, admitted, let_through, ran-machine, ran-read, ran-written}
use Rattle.pass_laws.proofs.Completing.{completed-counter}
use Rattle.pass_laws.proofs.Orders.{Distinct, distinct-order, distinct-first, distinct-rest}

-- Another generator than the one that is taken.
step-untaken : (text : Text) (items : Items) (s : State) (g k : ℕ) → k < 256 → k ≢ g → generator_of (step (generators_of text) items s g).words k ≡ generator_of s.words k
step-untaken text items s g k h n =
    same-generator (step (generators_of text) items s g).words s.words k (λ j l. step-below (generators_of text) items s g (generator_at k + j) (omega arith) (apart_other g k j l n))

-- What grows by one with each generator that passes a test grows by as many as pass it in the order, by the machine as it was at the start.
steps-count : (text : Text) (items : Items) (c : Generator → Bool) (n : State → ℕ)
    → ((t : State) (g : ℕ) → n (step (generators_of text) items t g) ≡ cond (c (generator_of t.words g)) (suc (n t)) (n t))
    → (order : Order) (s : State) → Distinct order → n (steps (generators_of text) items s order) ≡ n s + length (keep (λ g. c (generator_of s.words g)) order)
unfolding steps keep
steps-count text items c n on [] s d = sym (add-zero (n s))
steps-count text items c n on (g ∷ order) s d =
    steps-count text items c n on order (step (generators_of text) items s g) (distinct-rest g order d) ∙ rw (on s g, later) (go (c (generator_of s.words g)))
  where
    later : keep (λ h. c (generator_of (step (generators_of text) items s g).words h)) order ≡ keep (λ h. c (generator_of s.words h)) order
    later =
        keep_same (λ h. c (generator_of (step (generators_of text) items s g).words h)) (λ h. c (generator_of s.words h)) order
        (λ i l. ap c (step-untaken text items s g (get_or order i 0) (d.below (suc i) (omega arith)) (λ e. not_there g order (distinct-first g order d) i l (sym e))))

    go : (b : Bool) → cond b (suc (n s)) (n s) + length (keep (λ h. c (generator_of s.words h)) order)
        ≡ n s + length (cond b (g ∷ keep (λ h. c (generator_of s.words h)) order) (keep (λ h. c (generator_of s.words h)) order))
    go true = omega arith
    go false = refl

reads_on : (text : Text) (items : Items) (t : State) (g : ℕ) → (step (generators_of text) items t g).reads ≡ cond (replaces (run_of text (generator_of t.words g))) (suc t.reads) t.reads
unfolding step
reads_on text items t g = rw (turn-keeps text t.words t.sums g (triggered_below (distance_of text) t.triggered g)).replaces refl

writes-on : (text : Text) (items : Items) (t : State) (g : ℕ) → (step (generators_of text) items t g).writes ≡ cond (eqb (run_of text (generator_of t.words g)) write_data) (suc t.writes) t.writes
unfolding step
writes-on text items t g = rw (turn-keeps text t.words t.sums g (triggered_below (distance_of text) t.triggered g)).writes refl

-- The run mode of a generator of a valid machine.
pub run-mode-loaded : (text : Text) (m : Machine) → valid text m ≡ true → (g : ℕ) → g < 256 → run_of text (generator_of m g) ≡ run_mode_at text m g
run-mode-loaded text m e g h = run-loaded text m g (gmode-loaded text m e g h)

module _ (text : Text) (m : Machine) (call : Call) (e : pass_refusal text m call ≡ 0) where
  p : Admitted text m call.order
  p = admitted text m call e

  d : Distinct call.order
  d = distinct-order (ticks_of m) call.order p.ticks p.is-order

  -- As many as pass a test of their run mode are there below T in run mode r.
  in-mode : (c : ℕ → Bool) (r : ℕ) → ((x : ℕ) → c x ≡ eqb x r) → length (keep (λ g. c (run_of text (generator_of m g))) call.order) ≡ in_mode text m r
  unfolding in_mode
  in-mode c r is =
      let o = p.is-order in
      ap length
      (keep-order-same (ticks_of m) call.order o.once o.below (λ g. c (run_of text (generator_of m g))) (λ g. eqb (run_mode_at text m g) r)
      (λ g h. is (run_of text (generator_of m g)) ∙ ap (λ (x : ℕ). eqb x r) (run-mode-loaded text m p.good.is-valid g (omega (arith, p.ticks)))))
      ∙ length-keep (ticks_of m) call.order o.once o.below (λ g. eqb (run_mode_at text m g) r)

  -- The items read are as many as there are 0111s below T, and the items written as many as there are 0011s.
  pub pass-counts : ((pass_of text m call).read ≡ in_mode text m read_data) × ((pass_of text m call).written ≡ in_mode text m write_data)
  unfolding begun
  pass-counts =
      let s = begun m (sums_of m) call.places in
      let reads = steps-count text call.items (λ (u : Generator). replaces (run_of text u)) (λ (t : State). t.reads) (reads_on text call.items) call.order s d in
      let writes = steps-count text call.items (λ (u : Generator). eqb (run_of text u) write_data) (λ (t : State). t.writes) (writes-on text call.items) call.order s d in
      rw (let_through text m call e, ran-read text m call, ran-written text m call)
      (reads ∙ zero-add _ ∙ in-mode replaces read_data replaces-is, writes ∙ zero-add _ ∙ in-mode (λ x. eqb x write_data) write_data (λ x. refl))

  -- 1 is added to the counter.
  pub pass-counter : get_or (pass_of text m call).machine counter_at 0 ≡ (get_or m counter_at 0 + 1) % 2 ^ counter_bits
  unfolding begun
  pass-counter =
      let s = begun m (sums_of m) call.places in
      let t = generators_done text m call in
      let k = steps-quadrants (generators_of text) call.items call.order s (sums-quadrants m (reaches m p.good.whole)) in
      rw (let_through text m call e, ran-machine text m call)
      (completed-counter text (ticks_of m) (held_then text m call) t.sums k p.ticks
      (rw (steps-length (generators_of text) call.items call.order s, p.good.whole) (lit< tt))
      ∙ ap (λ (x : ℕ). (x + 1) % 2 ^ counter_bits) (steps-beyond (generators_of text) call.items call.order s p.below (sixteen text) counter_at (lit≤ tt)))

  -- And 1 to its low bits, with which a Linger is compared, as to a counter that has no others.
  pub pass-low-counter : low_counter (pass_of text m call).machine ≡ (low_counter m + 1) % 2 ^ linger_bits
  pass-low-counter =
      ap (λ (x : ℕ). x % 2 ^ linger_bits) pass-counter ∙ wrapped linger_bits (get_or m counter_at 0 + 1) (lit≤ tt)
      ∙ sym (mod-add-mod (get_or m counter_at 0) (2 ^ linger_bits) 1)
