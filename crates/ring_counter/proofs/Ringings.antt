-- What is heard of two good machines that differ in the counter's high bits alone, by passes and updates in turn.
-- Assumes nothing.
use mathlib.Core.Path.{◌≡◌, refl, ap, ◌∙◌}
use mathlib.Core.Bool.{Bool, true, false, cond}
use mathlib.Core.List.{List, [], ◌∷◌}
use Prim.Native.Nat.{ℕ, zero, suc, ◌<◌}
use native.Mathlib.Omega.{arith}
use native.Mathlib.Nat.{not-suc-le-zero}
use lib.Dec.{eqb, lit<}
use lib.ListN.{length, get_or}
use Rattle.layout.specs.Layout.{dac_at}
use Rattle.layout.specs.Machine.{Machine, Memory, Commands}
use Rattle.layout_texts.specs.declared.Text.{Text}
use Rattle.layout_texts.specs.declared.Text.TheVariants.{Of1978, Old}
use Rattle.pass_model.specs.Pass.{Outcome}
use Rattle.pass_laws.specs.Good.{Good}
use Rattle.pass_laws.proofs.PassValid.{pass-valid}
use Rattle.command_update.specs.Update.{UpdateOutcome as Updated}
use Rattle.ring_pass.specs.BenchPass.{Ordering, bench_call, passed}
use Rattle.ring_steps.specs.Heard.{Heard, heard_after, heard_refused, heard, update_after, line_after, frame_after, frames_of}
use Rattle.ring_steps.proofs.Updates.{update-after-valid, update-after-length}
use Rattle.ring_counter.specs.SameButHigh.{SameButHigh}
use Rattle.ring_counter.specs.NarrowRinging.{narrow, heard_narrow}
use Rattle.ring_counter.specs.Alike.{PassedAlike, UpdatedAlike, HeardAlike}
use Rattle.ring_counter.proofs.Words.{below, same-ticks, same-on, narrow-same, narrow_good}
use Rattle.ring_counter.proofs.Passes.{passed-alike}
use Rattle.ring_counter.proofs.Updates.{updated-alike, outcome-alike}

-- Frames and lines by the machines.
frames-same : (ms ns : List Machine) → length ms ≡ length ns → ((i : ℕ) → i < length ms → SameButHigh (get_or ms i []) (get_or ns i [])) → frames_of ms ≡ frames_of ns
unfolding frames_of frame_after
frames-same [] [] l f = refl
frames-same [] (n ∷ ns) l f = absurd (omega arith)
frames-same (m ∷ ms) [] l f = absurd (omega arith)
frames-same (m ∷ ms) (n ∷ ns) l f =
    let s : SameButHigh m n = f 0 (omega arith) in
    rw (below s (dac_at 0) (lit< tt), below s (dac_at 1) (lit< tt), frames-same ms ns (omega arith) (λ i h. f (suc i) (omega arith)))

by-machines : (h k : Heard) → h.number ≡ k.number → length h.machines ≡ length k.machines
    → ((i : ℕ) → i < length h.machines → SameButHigh (get_or h.machines i []) (get_or k.machines i [])) → HeardAlike h k
unfolding line_after
by-machines h k e l f =
    record {
      number = e;
      as_many = l;
      machine = f;
      frames = frames-same h.machines k.machines l f;
      line = λ i b. rw (below (f i b) (dac_at 0) (lit< tt), below (f i b) (dac_at 1) (lit< tt));
    }

refused-alike : (n : ℕ) → HeardAlike (heard_refused n) (heard_refused n)
refused-alike n = by-machines (heard_refused n) (heard_refused n) refl refl (λ i h. absurd (not-suc-le-zero h))

after-alike : {m n : Machine} → SameButHigh m n → (h k : Heard) → HeardAlike h k → HeardAlike (heard_after m h) (heard_after n k)
after-alike {m} {n} s h k a = by-machines (heard_after m h) (heard_after n k) a.number (ap suc a.as_many) at
  where
    at : (i : ℕ) → i < suc (length h.machines) → SameButHigh (get_or (m ∷ h.machines) i []) (get_or (n ∷ k.machines) i [])
    at zero b = s
    at (suc i) b = a.machine i (omega arith)

either-heard : (b : Bool) {h k l o : Heard} → HeardAlike h k → HeardAlike l o → HeardAlike (cond b h l) (cond b k o)
either-heard true a b = a
either-heard false a b = b

-- A pass and its update, and what is heard after them.
one_more : (p q : Outcome) (u v : Updated) → PassedAlike p q → UpdatedAlike u v → (h k : Memory → Commands → Heard) → ((memory : Memory) (cs : Commands) → HeardAlike (h memory cs) (k memory cs))
    → HeardAlike (cond (eqb p.number 0) (cond (eqb u.number 0) (heard_after u.machine (h p.memory u.rest)) (heard_refused u.number)) (heard_refused p.number))
    (cond (eqb q.number 0) (cond (eqb v.number 0) (heard_after v.machine (k q.memory v.rest)) (heard_refused v.number)) (heard_refused q.number))
one_more p q u v a b h k f =
    rw (a.number, a.memory, b.number, b.rest)
    (either-heard (eqb q.number 0)
    (either-heard (eqb v.number 0) (after-alike b.machine (h q.memory v.rest) (k q.memory v.rest) (f q.memory v.rest)) (refused-alike v.number))
    (refused-alike q.number))

after-pass-alike : (text : Text) (m n : Machine) → SameButHigh m n → Good text m → Good text n → (cs : Commands) → UpdatedAlike (update_after text m cs) (update_after text n cs)
after-pass-alike Of1978 m n s first second cs = updated-alike m n s first second cs
after-pass-alike Old m n s first second cs = outcome-alike s 0 cs

after-pass-good : (text : Text) (m : Machine) (cs : Commands) → Good text m → Good text (update_after text m cs).machine
after-pass-good text m cs good = record { whole = update-after-length text m cs ∙ good.whole; is-valid = update-after-valid text m cs good.is-valid }

by-order-alike : (text : Text) (by : Ordering) (m n : Machine) → SameButHigh m n → Good text m → Good text n → (memory : Memory) → PassedAlike (passed text by m memory) (passed text by n memory)
by-order-alike text by m n s first second memory = rw (← (same-ticks s)) (passed-alike text m n s first second (bench_call by m memory))

pub heard-alike : (text : Text) (by : Ordering) (k : ℕ) (m n : Machine) → SameButHigh m n → Good text m → Good text n → (memory : Memory) (cs : Commands)
    → HeardAlike (heard text by k m memory cs) (heard text by k n memory cs)
unfolding heard
heard-alike text by zero m n s first second memory cs = refused-alike 0
heard-alike text by (suc k) m n s first second memory cs =
    let p = passed text by m memory in
    let q = passed text by n memory in
    let a = by-order-alike text by m n s first second memory in
    let pg = pass-valid text m (bench_call by m memory) first in
    let qg = pass-valid text n (bench_call by n memory) second in
    let u = update_after text p.machine cs in
    let v = update_after text q.machine cs in
    let b = after-pass-alike text p.machine q.machine a.machine pg qg cs in
    one_more p q u v a b (heard text by k u.machine) (heard text by k v.machine)
    (heard-alike text by k u.machine v.machine b.machine (after-pass-good text p.machine cs pg) (after-pass-good text q.machine cs qg))

-- And what was heard while the counter had 20 bits: its high bits are cut off after each pass.
pub heard-narrow : (text : Text) (by : Ordering) (k : ℕ) (m n : Machine) → SameButHigh m n → Good text m → Good text n → (memory : Memory) (cs : Commands)
    → HeardAlike (heard text by k m memory cs) (heard_narrow text by k n memory cs)
unfolding heard heard_narrow
heard-narrow text by zero m n s first second memory cs = refused-alike 0
heard-narrow text by (suc k) m n s first second memory cs =
    let p = passed text by m memory in
    let q = passed text by n memory in
    let a = by-order-alike text by m n s first second memory in
    let pg = pass-valid text m (bench_call by m memory) first in
    let qg = pass-valid text n (bench_call by n memory) second in
    let ng = narrow_good text q.machine qg in
    let u = update_after text p.machine cs in
    let v = update_after text (narrow q.machine) cs in
    let cut = same-on a.machine (narrow-same q.machine (omega (arith, qg.whole))) in
    let b = after-pass-alike text p.machine (narrow q.machine) cut pg ng cs in
    one_more p q u v a b (heard text by k u.machine) (heard_narrow text by k v.machine)
    (heard-narrow text by k u.machine v.machine b.machine (after-pass-good text p.machine cs pg) (after-pass-good text (narrow q.machine) cs ng))
