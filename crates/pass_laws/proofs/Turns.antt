-- A generator of an order has its turn once, whatever the text: until then its words are as at the start, and afterwards they stay as its turn left them.
-- Assumes nothing.
use mathlib.Core.Path.{◌≡◌, refl, ◌∙◌, ap}
use mathlib.Core.Logic.{◌≢◌}
use mathlib.Core.Bool.{Bool, true, false, cond}
use mathlib.Core.List.{List, ◌∷◌, ◌++◌}
use Prim.Native.Nat.{ℕ, ◌+◌, ◌≤◌, ◌<◌}
use native.Mathlib.Omega.{arith}
use lib.Dec.{lit<}
use lib.ListN.{length, get_or, set}
use lib.Seq.{get_or-set_same, get_or-set_other}
use Rattle.base_lists.specs.Lists.{count}
use Rattle.base_lists.proofs.Choices.{of-cond}
use Rattle.layout.specs.Layout.{generator_at, GJ, GK, GQ, GMODE}
use Rattle.layout.specs.Machine.{Order, Items}
use Rattle.generator.specs.declared.Generator.{Generator}
use Rattle.pass_model.specs.Generators.{Generators, State, step, steps}
use Rattle.pass_model.proofs.Puts.{put-gj, put-gk, put-gq, put-gmode}
use Rattle.pass_laws.specs.AsCoded.{RegistersOf}
use Rattle.pass_laws.proofs.Frames.{contribution_at, not_there, step-own, steps-keep, steps-length, steps-triggered, steps-untaken, steps-append}

-- The registers of the generator that a step takes are those that its turn brings.
pub step-registers : (of : Generators) (items : Items) (s : State) (g : ℕ) → g < 256 → 2816 ≤ length s.words
    → RegistersOf (step of items s g).words g (contribution_at of s g).unit
step-registers of items s g h reach =
    let u = (contribution_at of s g).unit in
    record {
      gj = step-own of items s g (generator_at g + GJ) (omega arith) ∙ put-gj s.words g u (omega arith);
      gk = step-own of items s g (generator_at g + GK) (omega arith) ∙ put-gk s.words g u (omega arith);
      gq = step-own of items s g (generator_at g + GQ) (omega arith) ∙ put-gq s.words g u (omega arith);
      gmode = step-own of items s g (generator_at g + GMODE) (omega arith) ∙ put-gmode s.words g u (omega arith);
    }

-- They stay while other generators are taken.
registers-stay : (of : Generators) (items : Items) (order : Order) (s : State) (g : ℕ) (u : Generator) → g < 256 → count g order ≡ 0
    → RegistersOf s.words g u → RegistersOf (steps of items s order).words g u
registers-stay of items order s g u h n r =
    record {
      gj = steps-untaken of items order s g GJ h (lit< tt) n ∙ r.gj;
      gk = steps-untaken of items order s g GK h (lit< tt) n ∙ r.gk;
      gq = steps-untaken of items order s g GQ h (lit< tt) n ∙ r.gq;
      gmode = steps-untaken of items order s g GMODE h (lit< tt) n ∙ r.gmode;
    }

-- The registers of a generator that stands once in an order, between a and b, at the end.
pub turn-registers : (of : Generators) (items : Items) (a b : Order) (s : State) (g : ℕ) → g < 256 → 2816 ≤ length s.words → count g b ≡ 0
    → RegistersOf (steps of items s (a ++ (g ∷ b))).words g (contribution_at of (steps of items s a) g).unit
unfolding steps
turn-registers of items a b s g h reach behind =
    let t = steps of items s a in
    let u = (contribution_at of t g).unit in
    rw (steps-append of items a (g ∷ b) s)
    (registers-stay of items b (step of items t g) g u h behind (step-registers of items t g h (rw (steps-length of items a s) reach)))

-- Who has triggered: a generator that is not taken has not, and one that is taken has if its turn triggers.
step-triggered-other : (of : Generators) (items : Items) (s : State) (g k : ℕ) → k ≢ g → get_or (step of items s g).triggered k false ≡ get_or s.triggered k false
unfolding step
step-triggered-other of items s g k n =
    of-cond (λ (l : List Bool). get_or l k false ≡ get_or s.triggered k false) (contribution_at of s g).triggers (get_or-set_other s.triggered g k true false n) refl

pub steps-triggered-other : (of : Generators) (items : Items) (order : Order) (s : State) (k : ℕ) → count k order ≡ 0
    → get_or (steps of items s order).triggered k false ≡ get_or s.triggered k false
steps-triggered-other of items order s k n =
    steps-keep of items (λ g. k ≢ g) (λ t. get_or t.triggered k false ≡ get_or s.triggered k false)
    (λ t g c e. step-triggered-other of items t g k c ∙ e) order (not_there k order n) s refl

step-triggered-own : (of : Generators) (items : Items) (s : State) (g : ℕ) → g < length s.triggered
    → get_or (step of items s g).triggered g false ≡ cond (contribution_at of s g).triggers true (get_or s.triggered g false)
unfolding step
step-triggered-own of items s g l = go (contribution_at of s g).triggers
  where
    go : (b : Bool) → get_or (cond b (set s.triggered g true) s.triggered) g false ≡ cond b true (get_or s.triggered g false)
    go true = get_or-set_same s.triggered g true false l
    go false = refl

pub turn-triggered : (of : Generators) (items : Items) (a b : Order) (s : State) (g : ℕ) → g < length s.triggered → count g a ≡ 0 → count g b ≡ 0
    → get_or (steps of items s (a ++ (g ∷ b))).triggered g false ≡ cond (contribution_at of (steps of items s a) g).triggers true (get_or s.triggered g false)
unfolding steps
turn-triggered of items a b s g l before behind =
    ap (λ (t : State). get_or t.triggered g false) (steps-append of items a (g ∷ b) s)
    ∙ steps-triggered-other of items b (step of items (steps of items s a) g) g behind
    ∙ step-triggered-own of items (steps of items s a) g (rw (steps-triggered of items a s) l)
    ∙ rw (steps-triggered-other of items a s g before)
