-- `generators` meets its contract: what is left of the order, from the state and the marks that the arrays hold, leaves what the whole leaves.
use Prim.Native.Nat.{◌≤◌}
use mathlib.Core.Path.{◌≡◌}
use lib.ListN.{drop}
use Rattle.pass_model.specs.Generators.{generators_of, begun, steps}
use Rattle.pass_model.specs.Clipped.{marked_by}
use Rattle.pass_generators.specs.AsCoded.{Ready, state_of}
use Rattle.pass_generators.proofs.generators.Given as goal

abbrev pub invariant-loop-entry : goal.invariant-loop-entry
invariant-loop-entry l =
    record {
      ready : Ready l.m;
      reads : l.taking.done.reads ≤ l.entry-index;
      writes : l.taking.done.writes ≤ l.entry-index;
      stepped : steps (generators_of l.text) l.items (state_of l.m l.places l.taking) (drop l.entry-index l.order)
          ≡ steps (generators_of l.text) l.items (begun l.initial.m l.fn.taking.sums l.initial.places) l.order;
      clipped : marked_by (generators_of l.text) l.items (state_of l.m l.places l.taking) l.taking.clipped (drop l.entry-index l.order)
          ≡ marked_by (generators_of l.text) l.items (begun l.initial.m l.fn.taking.sums l.initial.places) l.fn.taking.clipped l.order;
    }
