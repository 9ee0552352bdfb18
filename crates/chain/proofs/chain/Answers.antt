-- `chain::chain` meets its contract: refused, nothing is put; else the numbers that were found are.
-- Assumes nothing.
use mathlib.Core.Path.{refl, sym}
use lib.ListN.{replicate}
use native.Mathlib.Omega.{arith}
use Rattle.std.proofs.lemmas.Result.{err_from_is_err_and}
use Rattle.base_questions.proofs.Refusals.{numbered}
use Rattle.chain_entries.specs.Entries.{Chain}
use Rattle.chain.proofs.Refusals.{few}
use Rattle.chain.proofs.Answers.{run-left, found-put}
use Rattle.chain.proofs.chain.Goals as goal

pub returns-in_err-refusal : goal.returns-in_err-refusal
returns-in_err-refusal c =
    let a = c.args in
    let p = err_from_is_err_and c.from_residual.result c.from_residual.ensures.1 in
    rw (p.1, p.2)
    (run-left (record { entries = a.chain.now.entries.now; names = a.chain.now.names.now }) a.numbers.now c.in_err-refusal.ensures.value (numbered c.in_err-refusal.field-0.0))

pub put-requires : goal.put-requires
put-requires c =
    let a = c.args in
    let few-entries = few (record { entries = a.chain.now.entries.now; names = a.chain.now.names.now }) (sym c.in_ok-refusal.ensures.value) in
    omega (arith, few-entries, c.size.ensures)

pub returns : goal.returns
returns c =
    let a = c.args in
    let e : Chain = record { entries = a.chain.now.entries.now; names = a.chain.now.names.now } in
    found-put e a.numbers.now c.in_ok-refusal.ensures.value (few e (sym c.in_ok-refusal.ensures.value)) (replicate 128 0) c.refusal.new.found refl
    (c.in_ok-refusal.ensures.found_after refl) (rw c.size.ensures at c.put.ensures)
