-- A generator through the part of the machine from its first word: loaded from there, and put back there.
-- Assumes nothing.
use mathlib.Core.Path.{◌≡◌, ◌∙◌}
use mathlib.Core.List.{List, ◌++◌, append-nil}
use Prim.Native.Nat.{ℕ, ◌+◌, ◌-◌, ◌≤◌}
use lib.ListN.{length, set, take, drop, take-append-drop}
use lib.Seq.{length-take-le}
use Rattle.pass_sums.proofs.Blocks.{set-behind, part-rest}
use Rattle.base_lists.proofs.Parts.{part-from}
use Rattle.layout.specs.Layout.{generator_at}
use Rattle.generator.specs.declared.Generator.{Generator}
use Rattle.generator.specs.Generator.{stored}

-- Four words set behind p.
behind : (p q : List ℕ) (u : Generator) →
    p ++ stored q 0 u ≡ set (set (set (set (p ++ q) (length p + 1) u.gj) (length p + 2) u.gk) (length p + 6) u.gq) (length p + 10) u.gmode
unfolding stored
behind p q u =
    rw (
      set-behind p q 1 u.gj,
      set-behind p (set q 1 u.gj) 2 u.gk,
      set-behind p (set (set q 1 u.gj) 2 u.gk) 6 u.gq,
      set-behind p (set (set (set q 1 u.gj) 2 u.gk) 6 u.gq) 10 u.gmode,
    )

pub put_back : (m : List ℕ) (g : ℕ) (u : Generator) → generator_at g ≤ length m →
    take (generator_at g) m ++ (stored (take (length m - generator_at g) (drop (generator_at g) m)) 0 u ++ drop (length m - generator_at g) (drop (generator_at g) m))
    ≡ stored m (generator_at g) u
unfolding stored
put_back m g u h =
    rw (part-from m (generator_at g), part-rest m (generator_at g), append-nil)
    (behind (take (generator_at g) m) (drop (generator_at g) m) u
    ∙ rw (length-take-le (generator_at g) m h, take-append-drop (generator_at g) m))
