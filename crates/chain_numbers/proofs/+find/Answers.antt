-- `chain_numbers::find` meets its contract; i falls at each call.
-- Assumes nothing.
use native.Mathlib.Omega.{arith}
use Rattle.chain_numbers.proofs.Finding.{found-first-entry, before_small, is-waiting, found-later-entry}
use Rattle.chain_numbers.proofs.+find.Goals as goal

pub returns-then-i-eq0 : goal.returns-then-i-eq0
returns-then-i-eq0 t c =
    let a = c.args in
    let r = found-first-entry (record { entries = a.chain.now.entries.now; names = a.chain.now.names.now }) a.i a.numbers.now c.if-i-eq0.true in
    record { value = r.0; numbers_after = r.1 }

pub overflow_add-least : goal.overflow_add-least
overflow_add-least t c =
    let a = c.args in
    let small = before_small (record { entries = a.chain.now.entries.now; names = a.chain.now.names.now }) c.requires.names_value a.i c.if-i-eq0.false c.requires.i_in_bounds c.find-before.ensures.value in
    omega (arith, small, c.requires.i_lt_modifiers.0)

pub number_of-number-requires : goal.number_of-number-requires
number_of-number-requires t c =
    let a = c.args in
    let q = c.requires in
    let b = c.find-before in
    let w = is-waiting (record { entries = a.chain.now.entries.now; names = a.chain.now.names.now }) q.names_value a.i c.if-i-eq0.false q.i_in_bounds q.i_lt_modifiers.0
    a.numbers.now b.new.numbers b.result q.i_lt_modifiers.1 (b.ensures.value, b.ensures.numbers_after) in
    record { i_in_bounds = w.0; i_bound = w.1; waiting = w.2 }

pub returns : goal.returns
returns t c =
    let a = c.args in
    let q = c.requires in
    let b = c.find-before in
    let r = found-later-entry (record { entries = a.chain.now.entries.now; names = a.chain.now.names.now }) q.names_value a.i c.if-i-eq0.false q.i_in_bounds q.i_lt_modifiers.0
    a.numbers.now b.new.numbers b.result q.i_lt_modifiers.1 (b.ensures.value, b.ensures.numbers_after) c.number_of-number.ensures in
    record { value = r.0; numbers_after = r.1 }
