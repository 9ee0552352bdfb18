-- The steps of a ringing, one after another until no pass is left, give out all that is heard, as lines or as frames.
-- Assumes nothing.
use mathlib.Core.Path.{◌≡◌, refl, sym, ◌∙◌, ap}
use mathlib.Core.Logic.{◌≢◌}
use mathlib.Core.Bool.{Bool, true, false, cond}
use mathlib.Core.List.{List, [], ◌∷◌, ◌++◌, append-nil, append_assoc}
use Prim.Native.Nat.{ℕ, zero, suc, ◌-◌, ◌≤◌, ◌<◌}
use native.Mathlib.Omega.{arith}
use borrow.Author.Tests.{eqb-true, eqb-false, eq-eqb, ne_eqb}
use lib.Dec.{eqb}
use Rattle.layout.specs.Machine.{Machine}
use Rattle.layout_texts.specs.declared.Text.{Text}
use Rattle.pass_model.specs.Pass.{Outcome as Passed}
use Rattle.command_update.specs.Update.{UpdateOutcome}
use Rattle.ring_pass.specs.BenchPass.{Ordering, passed}
use Rattle.ring_steps.specs.Heard.{update_after, Heard, heard_after, heard_refused, heard, lines_after, lines_heard, frames_of}
use Rattle.ring_steps.specs.AsCoded.{given_after, given_refused, Ringing, Step, step_of, until_done}
use Rattle.ring_steps.specs.declared.Output.{Output}
use Rattle.ring_steps.specs.declared.Output.TheVariants.{Lines, Frames}
use Rattle.ring_steps.proofs.Turns.{by-pass, by-update, by_both}

-- What is given out of machines one after another, and of all that is heard.
unfoldable pub given_machines : Output → List Machine → List ℕ
given_machines o [] = []
given_machines o (m ∷ ms) = given_after o m ++ given_machines o ms

unfoldable pub given_end : Output → ℕ → List ℕ
given_end o n = cond (eqb n 0) [] (given_refused o n)

unfoldable pub given : Output → Heard → List ℕ
given o h = given_machines o h.machines ++ given_end o h.number

-- What is heard of a ringing under way, what is given out of that, and the number that ends it.
abbrev pub heard_from : Text → Ordering → Ringing → Heard
heard_from text by r = heard text by r.passes r.machine r.memory r.commands

abbrev pub onward : Text → Ordering → Output → Ringing → List ℕ
onward text by o r = given o (heard_from text by r)

unfoldable pub end_number : Text → Ordering → Ringing → ℕ
end_number text by r = cond (eqb r.passes 0) r.number (heard_from text by r).number

-- Nothing but a refusal, by its number.
refused-given : (o : Output) (n : ℕ) → n ≢ 0 → given o (heard_refused n) ≡ given_refused o n
unfolding given given_machines given_end
refused-given o n h = rw (ne_eqb n 0 h)

none-given : (o : Output) → given o (heard_refused 0) ≡ []
unfolding given given_machines given_end
none-given o = refl

after-given : (o : Output) (m : Machine) (h : Heard) → given o (heard_after m h) ≡ given_after o m ++ given o h
unfolding given given_machines
after-given o m h = append_assoc (given_after o m) (given_machines o h.machines) (given_end o h.number)

-- With no pass left it is nothing.
none-heard : (text : Text) (by : Ordering) (r : Ringing) → r.passes ≡ 0 → heard_from text by r ≡ heard_refused 0
unfolding heard
none-heard text by r z = rw z refl

pub none_left : (text : Text) (by : Ordering) (o : Output) (r : Ringing) → r.passes ≡ 0 → [] ≡ onward text by o r
none_left text by o r z = sym (ap (given o) (none-heard text by r z) ∙ none-given o)

pub ended-number : (text : Text) (by : Ordering) (r : Ringing) → r.passes ≡ 0 → end_number text by r ≡ r.number
unfolding end_number
ended-number text by r z = rw (eq-eqb r.passes 0 z)

-- The number that ends a ringing is that of what is heard, where none has ended it before.
pub heard-number : (text : Text) (by : Ordering) (r : Ringing) → r.number ≡ 0 → end_number text by r ≡ (heard_from text by r).number
unfolding end_number
heard-number text by r z = go (eqb r.passes 0) refl
  where
    go : (b : Bool) → eqb r.passes 0 ≡ b → cond b r.number (heard_from text by r).number ≡ (heard_from text by r).number
    go true e = z ∙ sym (ap (λ (h : Heard). h.number) (none-heard text by r (eqb-true r.passes 0 e)))
    go false e = refl

-- What is heard of a ringing with a pass left, by the two numbers.
module _ (text : Text) (by : Ordering) (r : Ringing) (some : r.passes ≢ 0) where
  abbrev pass : Passed
  pass = passed text by r.machine r.memory

  abbrev update : UpdateOutcome
  update = update_after text pass.machine r.commands

  one_more : r.passes ≡ suc (r.passes - 1)
  one_more = omega arith

  begins : heard_from text by r ≡ heard text by (suc (r.passes - 1)) r.machine r.memory r.commands
  begins = ap (λ (i : ℕ). heard text by i r.machine r.memory r.commands) one_more

  heard-pass : pass.number ≢ 0 → heard_from text by r ≡ heard_refused pass.number
  unfolding heard
  heard-pass h = begins ∙ rw (ne_eqb pass.number 0 h)

  heard-update : pass.number ≡ 0 → update.number ≢ 0 → heard_from text by r ≡ heard_refused update.number
  unfolding heard
  heard-update z h = begins ∙ rw (eq-eqb pass.number 0 z, ne_eqb update.number 0 h)

  heard-both : pass.number ≡ 0 → update.number ≡ 0 → heard_from text by r ≡ heard_after update.machine (heard text by (r.passes - 1) update.machine pass.memory update.rest)
  unfolding heard
  heard-both z h = begins ∙ rw (eq-eqb pass.number 0 z, eq-eqb update.number 0 h)

  number-from : end_number text by r ≡ (heard_from text by r).number
  unfolding end_number
  number-from = rw (ne_eqb r.passes 0 some)

-- A step of a ringing with a pass left: it lowers the passes left, what it gives out and what is given out after it is all, and the number that ends it stays.
pub record Falls (text : Text) (by : Ordering) (o : Output) (r : Ringing) (s : Step) : Type 0 where
  pub falls : s.next.passes < r.passes
  pub prints : onward text by o r ≡ s.bytes ++ onward text by o s.next
  pub ends : end_number text by r ≡ end_number text by s.next

-- A refusal leaves a ringing that is done.
falls-refused : (text : Text) (by : Ordering) (o : Output) (r : Ringing) → r.passes ≢ 0 → {m memory commands : List ℕ} (n : ℕ) → n ≢ 0 → heard_from text by r ≡ heard_refused n
    → Falls text by o r (record { bytes = given_refused o n; next = record { passes = 0; machine = m; memory = memory; commands = commands; number = n } })
falls-refused text by o r some {m} {memory} {commands} n h e =
    let next : Ringing = record { passes = 0; machine = m; memory = memory; commands = commands; number = n } in
    record {
      falls = omega arith;
      prints = ap (given o) e ∙ refused-given o n h ∙ sym (append-nil (given_refused o n)) ∙ ap (λ (l : List ℕ). given_refused o n ++ l) (none_left text by o next refl);
      ends = number-from text by r some ∙ ap (λ (l : Heard). l.number) e ∙ sym (ended-number text by next refl);
    }

pub step_falls : (text : Text) (by : Ordering) (o : Output) (r : Ringing) → r.passes ≢ 0 → Falls text by o r (step_of text by o r)
step_falls text by o r some = go (eqb p.number 0) refl (eqb u.number 0) refl
  where
    p : Passed
    p = passed text by r.machine r.memory

    u : UpdateOutcome
    u = update_after text p.machine r.commands

    go : (a : Bool) → eqb p.number 0 ≡ a → (b : Bool) → eqb u.number 0 ≡ b → Falls text by o r (step_of text by o r)
    go true e true f =
        let z = eqb-true p.number 0 e in
        let y = eqb-true u.number 0 f in
        let h = heard-both text by r some z y in
        let next : Ringing = record { passes = r.passes - 1; machine = u.machine; memory = p.memory; commands = u.rest; number = 0 } in
        rw (by_both text by o r some z y)
        (record {
          falls = omega arith;
          prints = ap (given o) h ∙ after-given o u.machine (heard_from text by next);
          ends = number-from text by r some ∙ ap (λ (l : Heard). l.number) h ∙ sym (heard-number text by next refl);
        })
    go true e false f =
        let z = eqb-true p.number 0 e in
        let y = eqb-false u.number 0 f in
        rw (by-update text by o r some z y) (falls-refused text by o r some u.number y (heard-update text by r some z y))
    go false e b f =
        let z = eqb-false p.number 0 e in
        rw (by-pass text by o r some z) (falls-refused text by o r some p.number z (heard-pass text by r some z))

-- So the steps until done give out all that is heard.
pub steps-are-given : (text : Text) (by : Ordering) (o : Output) (k : ℕ) (r : Ringing) → r.passes ≤ k → until_done text by o k r ≡ onward text by o r
unfolding until_done
steps-are-given text by o zero r h = none_left text by o r (omega arith)
steps-are-given text by o (suc k) r h = onwards (eqb r.passes 0) refl (λ n. steps-are-given text by o k (step_of text by o r).next (omega (arith, (step_falls text by o r n).falls)))
  where
    onwards : (b : Bool) → eqb r.passes 0 ≡ b → (r.passes ≢ 0 → until_done text by o k (step_of text by o r).next ≡ onward text by o (step_of text by o r).next)
        → cond b [] ((step_of text by o r).bytes ++ until_done text by o k (step_of text by o r).next) ≡ onward text by o r
    onwards true e f = none_left text by o r (eqb-true r.passes 0 e)
    onwards false e f =
        let n = eqb-false r.passes 0 e in
        ap (λ (l : List ℕ). (step_of text by o r).bytes ++ l) (f n) ∙ sym (step_falls text by o r n).prints

-- As lines they are the lines of what is heard.
lines-machines : (ms : List Machine) → given_machines Lines ms ≡ lines_after ms
unfolding given_machines given_after lines_after
lines-machines [] = refl
lines-machines (m ∷ ms) = rw (lines-machines ms)

pub lines-given : (h : Heard) → given Lines h ≡ lines_heard h
unfolding given given_end given_refused lines_heard
lines-given h = rw (lines-machines h.machines)

-- As frames they are the frames of the machines that are heard.
frames-machines : (ms : List Machine) → given_machines Frames ms ≡ frames_of ms
unfolding given_machines given_after frames_of
frames-machines [] = refl
frames-machines (m ∷ ms) = rw (frames-machines ms)

frames-end : (n : ℕ) → given_end Frames n ≡ []
unfolding given_end given_refused
frames-end n = go (eqb n 0)
  where
    go : (b : Bool) → ◌≡◌ {A = List ℕ} (cond b [] []) []
    go true = refl
    go false = refl

pub frames-given : (h : Heard) → given Frames h ≡ frames_of h.machines
unfolding given
frames-given h = rw (frames-end h.number) (append-nil (given_machines Frames h.machines) ∙ frames-machines h.machines)
