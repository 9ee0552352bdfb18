-- `chain_entries::Chain::names_below` meets its contract: each name is tested.
-- Assumes nothing.
use mathlib.Core.Path.{◌≡◌, refl, ap, ◌∙◌}
use mathlib.Core.Bool.{true, false}
use mathlib.Core.List.{List}
use Prim.Native.Nat.{ℕ, ◌+◌, ◌-◌}
use native.Mathlib.Omega.{arith}
use borrow.Author.Rules.{rules}
use borrow.Author.Tests.{tests}
use lib.Dec.{ltb}
use lib.ListN.{get_or, take, drop}
use Rattle.std.proofs.lemmas.List.{get_or-drop, get_or-take}
use Rattle.std.proofs.lemmas.Iterator.{YieldsList-from_range, cases_from_all}
use Rattle.base_lists.proofs.Below.{below-same}
use Rattle.chain_entries.proofs.Loops.{tested}
use Rattle.chain_entries.proofs.Chain.names_below.Goals as goal

pub returns : goal.returns
returns c =
    let a = c.args in
    let all : List ℕ = a.self.now.names.now in
    let part : List ℕ = take (a.at + a.n - a.at) (drop a.at all) in
    tested (λ k. ltb (get_or part k 0) a.i) a.n
    (cases_from_all _ _ _ (λ k. ltb (get_or part k 0) a.i ≡ true) (λ k. ltb (get_or part k 0) a.i ≡ false)
    c.all.ensures.ran (YieldsList-from_range 0 a.n a.n refl (omega arith)) (λ x q k. search (rules, tests)) (λ x q k. search (rules, tests)))
    ∙ below-same (λ k. ltb (get_or part k 0) a.i) (λ k. ltb (get_or all (a.at + k) 0) a.i) a.n
    (λ k l. ap (λ (x : ℕ). ltb x a.i) (get_or-take (a.at + a.n - a.at) (drop a.at all) k 0 (omega arith) ∙ get_or-drop a.at all k 0))
