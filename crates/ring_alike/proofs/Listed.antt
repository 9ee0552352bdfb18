-- By number is by the order that lists the numbers below T, while T stays.
-- Assumes nothing.
use mathlib.Core.Path.{◌≡◌, refl, sym, ap, subst, ◌∙◌}
use mathlib.Core.Bool.{Bool, true, false, cond}
use mathlib.Core.List.{List, [], ◌∷◌}
use Prim.Native.Nat.{ℕ, zero, suc, ◌<◌}
use native.Mathlib.Omega.{arith}
use lib.Dec.{eqb}
use lib.ListN.{length, get_or}
use Rattle.layout.specs.Machine.{Machine, Order, Memory, Commands, ticks_of}
use Rattle.layout_texts.specs.declared.Text.{Text}
use Rattle.pass_model.specs.Pass.{Outcome as Pass, pass_of}
use Rattle.command_update.specs.Update.{UpdateOutcome}
use Rattle.ring_pass.specs.BenchPass.{Ordering, throughout}
use Rattle.ring_steps.specs.Heard.{update_after, Heard, heard_after, heard_refused, heard}

-- Each machine that is heard has T as given.
abbrev pub TicksStay : ℕ → List Machine → Type 0
TicksStay t ms = (k : ℕ) → k < length ms → ticks_of (get_or ms k []) ≡ t

first-there : (m : Machine) (ms : List Machine) → 0 < length (m ∷ ms)
first-there m ms = omega arith

next-there : (m : Machine) (ms : List Machine) (k : ℕ) → k < length ms → suc k < length (m ∷ ms)
next-there m ms k h = omega (arith, h)

-- What is heard from a machine by the order of the first pass, and by an ordering after it.
module _ (text : Text) (n : ℕ) (m : Machine) (memory : Memory) (commands : Commands) where
  abbrev heard_on : Ordering → Order → Heard
  heard_on used order =
      let p = pass_of text m (record { order = order; items = []; places = []; memory = memory }) in
      let u = update_after text p.machine commands in
      cond (eqb p.number 0) (cond (eqb u.number 0) (heard_after u.machine (heard text used n u.machine p.memory u.rest)) (heard_refused u.number)) (heard_refused p.number)

  heard-on : (used : Ordering) → heard text used (suc n) m memory commands ≡ heard_on used (used (ticks_of m))
  unfolding heard
  heard-on used = refl

  -- It is the same by two orderings that are heard alike after it.
  on_alike : (used₁ used₂ : Ordering) (order : Order) (t : ℕ)
      → ((l : Machine) (y : Memory) (rest : Commands) → ticks_of l ≡ t → TicksStay t (heard text used₂ n l y rest).machines → heard text used₁ n l y rest ≡ heard text used₂ n l y rest)
      → TicksStay t (heard_on used₂ order).machines → heard_on used₁ order ≡ heard_on used₂ order
  on_alike used₁ used₂ order t rest stay = go (eqb p.number 0) (eqb u.number 0) stay
    where
      p : Pass
      p = pass_of text m (record { order = order; items = []; places = []; memory = memory })

      u : UpdateOutcome
      u = update_after text p.machine commands

      next : Ordering → Heard
      next used = heard text used n u.machine p.memory u.rest

      go : (a b : Bool) → TicksStay t (cond a (cond b (heard_after u.machine (next used₂)) (heard_refused u.number)) (heard_refused p.number)).machines
          → cond a (cond b (heard_after u.machine (next used₁)) (heard_refused u.number)) (heard_refused p.number)
          ≡ cond a (cond b (heard_after u.machine (next used₂)) (heard_refused u.number)) (heard_refused p.number)
      go true true s =
          ap (heard_after u.machine)
          (rest u.machine p.memory u.rest (s 0 (first-there u.machine (next used₂).machines)) (λ k h. s (suc k) (next-there u.machine (next used₂).machines k h)))
      go true false s = refl
      go false b s = refl

module _ (text : Text) (by : Ordering) (t : ℕ) where
  -- One pass more, where what is heard after it is the same.
  one_more : (n : ℕ) (m : Machine) (memory : Memory) (commands : Commands) → ticks_of m ≡ t
      → ((l : Machine) (y : Memory) (rest : Commands) → ticks_of l ≡ t → TicksStay t (heard text by n l y rest).machines → heard text (throughout (by t)) n l y rest ≡ heard text by n l y rest)
      → TicksStay t (heard text by (suc n) m memory commands).machines → heard text (throughout (by t)) (suc n) m memory commands ≡ heard text by (suc n) m memory commands
  one_more n m memory commands e rest stay =
      let listed : heard text by (suc n) m memory commands ≡ heard_on text n m memory commands by (by t) =
      heard-on text n m memory commands by ∙ ap (λ (s : ℕ). heard_on text n m memory commands by (by s)) e in
      heard-on text n m memory commands (throughout (by t))
      ∙ on_alike text n m memory commands (throughout (by t)) by (by t) t rest (subst (λ (h : Heard). TicksStay t h.machines) listed stay)
      ∙ sym listed

  pub listed-heard : (n : ℕ) (m : Machine) (memory : Memory) (commands : Commands) → ticks_of m ≡ t → TicksStay t (heard text by n m memory commands).machines
      → heard text (throughout (by t)) n m memory commands ≡ heard text by n m memory commands
  unfolding heard
  listed-heard zero m memory commands e s = refl
  listed-heard (suc n) m memory commands e s = one_more n m memory commands e (λ l y rest q r. listed-heard n l y rest q r) s
