-- `chain_entries::Chain::entries_good` meets its contract: each entry is tested.
-- Assumes nothing.
use mathlib.Core.Path.{◌≡◌, refl}
use mathlib.Core.Bool.{true, false}
use native.Mathlib.Omega.{arith}
use borrow.Author.Rules.{rules}
use borrow.Author.Tests.{tests}
use Rattle.std.proofs.lemmas.Iterator.{YieldsList-from_range, cases_from_all}
use Rattle.chain_entries.specs.Entries.{Chain, size, entry_good}
use Rattle.chain_entries.proofs.Loops.{tested}
use Rattle.chain_entries.proofs.Chain.entries_good.Goals as goal

pub returns : goal.returns
returns c =
    let a = c.args in
    let e : Chain = record { entries = a.self.now.entries.now; names = a.self.now.names.now } in
    tested (entry_good e) (size e)
    (cases_from_all _ _ _ (λ k. entry_good e k ≡ true) (λ k. entry_good e k ≡ false)
    c.all.ensures.ran (YieldsList-from_range 0 c.size.result (size e) refl (omega (arith, c.size.ensures))) (λ x q k. search (rules, tests)) (λ x q k. search (rules, tests)))
