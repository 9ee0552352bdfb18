-- A machine that passes questions 1 and 2 passes them after a pass: each word that a turn, a modifier or the end of the pass puts passes its test.
-- Assumes nothing.
use mathlib.Core.Path.{◌≡◌, ◌∙◌}
use mathlib.Core.Bool.{true}
use mathlib.Core.List.{[]}
use Prim.Native.Nat.{ℕ, zero, suc, ◌^◌, ◌<◌}
use native.Mathlib.Omega.{arith}
use lib.ListN.{length, get_or}
use Rattle.layout.specs.Layout.{machine_length}
use Rattle.machine.specs.Questions.{valid}
use Rattle.machine.proofs.ValidMachine.{reaches, valid-sum}
use Rattle.layout.specs.Machine.{Machine, Order, Items, Sums, ticks_of}
use Rattle.layout_texts.specs.Texts.{distance_of}
use Rattle.layout_texts.specs.declared.Text.{Text}
use Rattle.pass_sums.specs.Sums.{put_sum, sums_of}
use Rattle.pass_sums.proofs.Memory.{quadrant-word, sums-quadrant, sums-quadrants, put-this, put_other}
use Rattle.pass_model.specs.Generators.{generators_of, State, triggered_below, step, steps, begun}
use Rattle.pass_model.specs.Pass.{Call, Outcome, ran, pass_of}
use Rattle.pass_model.proofs.Asked.{passes}
use Rattle.delay_questions.specs.Questions.{memory_good}
use Rattle.delay_questions.proofs.Memory.{good-words}
use Rattle.pass_model.proofs.Keeps.{turn-keeps}
use Rattle.pass_model.proofs.Views.{set_below}
use Rattle.pass_laws.specs.Good.{Good}
use Rattle.pass_laws.proofs.Frames.{contribution_at, put_back, words-by, sums_by, steps-keep, steps-keep-all, steps-length, steps-quadrants}
use Rattle.pass_laws.proofs.TextTurns.{sixteen}
use Rattle.pass_laws.proofs.ValidPuts.{valid-generator-put, valid-dac-put, gmode-good}
use Rattle.pass_laws.proofs.Passing.{Admitted, generators_done, held_then, begun-words, begun-sums, admitted, pass-by, refused-machine, ran-machine}
use Rattle.pass_laws.proofs.Completing.{completed-length, completed-valid}

-- A generator's turn leaves a valid machine valid.
put-valid : (text : Text) (s : State) (g : ℕ) → g < 256 → valid text s.words ≡ true → valid text (put_back (generators_of text) s g) ≡ true
put-valid text s g h e =
    let k = turn-keeps text s.words s.sums g (triggered_below (distance_of text) s.triggered g) in
    let r = k.ranged in
    valid-generator-put text s.words e g h (contribution_at (generators_of text) s g).unit r.gj-low r.gk-low r.gq-low (k.good (gmode-good text s.words e g h))

sends-low : (text : Text) (s : State) (g : ℕ) → (contribution_at (generators_of text) s g).sends < 2 ^ 20
sends-low text s g = (turn-keeps text s.words s.sums g (triggered_below (distance_of text) s.triggered g)).sends-low

pub step-valid : (text : Text) (items : Items) (s : State) (g : ℕ) → g < 256 → valid text s.words ≡ true → valid text (step (generators_of text) items s g).words ≡ true
step-valid text items s g h e =
    let b = contribution_at (generators_of text) s g in
    let put = put-valid text s g h e in
    words-by (generators_of text) items s g (λ (w : Machine). valid text w ≡ true) put
    (valid-dac-put text (put_back (generators_of text) s g) put b.dac b.sends ((sixteen text).dac-low s.words s.sums g (triggered_below (distance_of text) s.triggered g)) (sends-low text s g))

steps-valid : (text : Text) (items : Items) (order : Order) (s : State) → ((i : ℕ) → i < length order → get_or order i 0 < 256) → valid text s.words ≡ true
    → valid text (steps (generators_of text) items s order).words ≡ true
steps-valid text items order s below e =
    steps-keep (generators_of text) items (λ g. g < 256) (λ t. valid text t.words ≡ true) (λ t g h p. step-valid text items t g h p) order below s e

-- The words of sum memory have 20 bits.
record LowSums (s : Sums) : Type 0 where
  low : (q i : ℕ) → q < 4 → i < 64 → get_or (get_or s q []) i 0 < 2 ^ 20

put_low : (s : Sums) (i v : ℕ) → v < 2 ^ 20 → LowSums s → LowSums (put_sum s i v)
put_low s i v h k = record { low = at }
  where
    at : (q j : ℕ) → q < 4 → j < 64 → get_or (get_or (put_sum s i v) q []) j 0 < 2 ^ 20
    at zero j a b = rw (put-this s i v) (set_below (get_or s 0 []) i j v (2 ^ 20) h (k.low 0 j a b))
    at (suc q) j a b = rw (put_other s i v (suc q) (λ e. omega arith)) (k.low (suc q) j a b)

sums-low : (text : Text) (m : Machine) → valid text m ≡ true → LowSums (sums_of m)
sums-low text m e = record { low = λ q i h l. rw (sums-quadrant m q h, quadrant-word m q i l) (valid-sum text m e q i h l) }

steps_low : (text : Text) (items : Items) (order : Order) (s : State) → LowSums s.sums → LowSums (steps (generators_of text) items s order).sums
steps_low text items order s k =
    steps-keep-all (generators_of text) items (λ t. LowSums t.sums)
    (λ t g p. sums_by (generators_of text) items t g LowSums p (λ v h. put_low t.sums (contribution_at (generators_of text) t g).word v h p)) order s k

module _ (text : Text) (m : Machine) (call : Call) where
  -- A pass that is let through.
  ran-valid : Admitted text m call.order → memory_good call.memory ≡ true → Good text (ran text m call).machine
  ran-valid p good =
      let t = generators_done text m call in
      let s = begun m (sums_of m) call.places in
      let h = held_then text m call in
      let start-sums = begun-sums m (sums_of m) call.places in
      let start-words = begun-words m (sums_of m) call.places in
      let l : length t.words ≡ machine_length = steps-length (generators_of text) call.items call.order s ∙ rw start-words p.good.whole in
      let low = steps_low text call.items call.order s (rw start-sums (sums-low text m p.good.is-valid)) in
      let k = steps-quadrants (generators_of text) call.items call.order s (rw start-sums (sums-quadrants m (reaches m p.good.whole))) in
      let e = steps-valid text call.items call.order s p.below (rw start-words p.good.is-valid) in
      rw (ran-machine text m call)
      (record {
        whole = completed-length text (ticks_of m) h t.sums ∙ l;
        is-valid =
            completed-valid text (ticks_of m) h t.sums k p.ticks (good-words call.memory good) e (reaches t.words l)
            (λ i h. low.low 0 i (omega arith) h) (λ i h. low.low 2 i (omega arith) h);
      })

  -- Questions 1 and 2 stay answered yes.
  pub pass-valid : Good text m → Good text (pass_of text m call).machine
  pass-valid good =
      pass-by text m call (λ (r : Outcome). Good text r.machine) (rw (refused-machine text m call) good) (λ n. ran-valid (admitted text m call n) (passes text m call n).memory)
