-- `chain::refusal` meets its contract: the questions one after the other.
-- Assumes nothing.
use mathlib.Core.Path.{sym, ◌∙◌}
use native.Mathlib.Omega.{arith}
use Rattle.chain.proofs.Refusals.{not-fitting, no-entry, too_many, last-past, all-low}
use Rattle.chain.proofs.refusal.Goals as goal

pub returns-then-not-good : goal.returns-then-not-good
returns-then-not-good c =
    let a = c.args in
    let r = not-fitting (record { entries = a.chain.now.entries.now; names = a.chain.now.names.now }) a.found.now (sym c.good.ensures ∙ c.if-not-good.true) in
    record { value = r.0; found_after = r.1 }

pub returns-then-n-eq0 : goal.returns-then-n-eq0
returns-then-n-eq0 c =
    let a = c.args in
    let r = no-entry (record { entries = a.chain.now.entries.now; names = a.chain.now.names.now }) a.found.now (sym c.good.ensures ∙ c.if-not-good.false) (sym c.size-n.ensures ∙ c.if-n-eq0.true) in
    record { value = r.0; found_after = r.1 }

pub returns-then-n-gt-MODIFIERS : goal.returns-then-n-gt-MODIFIERS
returns-then-n-gt-MODIFIERS c =
    let a = c.args in
    let r = too_many (record { entries = a.chain.now.entries.now; names = a.chain.now.names.now }) a.found.now (sym c.good.ensures ∙ c.if-not-good.false) (omega (arith, c.size-n.ensures, c.if-n-gt-MODIFIERS.true)) in
    record { value = r.0; found_after = r.1 }

pub find-last-requires : goal.find-last-requires
find-last-requires c =
    record {
      names_value = sym c.good.ensures ∙ c.if-not-good.false;
      i_in_bounds = omega (arith, c.if-n-eq0.false);
      i_lt_modifiers = (omega (arith, c.if-n-gt-MODIFIERS.false), c.requires);
    }

pub returns-then-last-gt127 : goal.returns-then-last-gt127
returns-then-last-gt127 c =
    let a = c.args in
    let e = c.find-last.ensures in
    let r = last-past (record { entries = a.chain.now.entries.now; names = a.chain.now.names.now }) a.found.now (sym c.good.ensures ∙ c.if-not-good.false)
    (λ z. c.if-n-eq0.false (c.size-n.ensures ∙ z)) (rw c.size-n.ensures at e.value, rw c.size-n.ensures at e.numbers_after) c.if-last-gt127.true in
    record { value = r.0; found_after = r.1 }

pub returns : goal.returns
returns c =
    let a = c.args in
    let e = c.find-last.ensures in
    let r = all-low (record { entries = a.chain.now.entries.now; names = a.chain.now.names.now }) a.found.now (sym c.good.ensures ∙ c.if-not-good.false)
    (λ z. c.if-n-eq0.false (c.size-n.ensures ∙ z)) (rw c.size-n.ensures at e.value, rw c.size-n.ensures at e.numbers_after) c.if-last-gt127.false in
    record { value = r.0; found_after = r.1 }
