-- `join_questions::pair_refusal` meets its contract: 16, 17 and 18 are asked in this sequence.
-- Assumes nothing.
use Rattle.std.proofs.Common.{ap, not}
use Rattle.join_questions.proofs.Answers.{by-marks, refused-16, refused-17, refused-18, let_through}
use Rattle.join_questions.proofs.pair_refusal.Goals as goal

pub returns-then-not-fits : goal.returns-then-not-fits
returns-then-not-fits c =
    let a = c.args in
    let own = by-marks a.m.now a.second.now c.requires.usable c.uses-own.ensures c.requires.brought_value c.nothing_shared-apart.ensures in
    refused-16 a.m.now a.second.now c.room-fits.ensures c.may_join-joins.ensures own (ap not c.if-not-fits.true)

pub returns-then-not-joins : goal.returns-then-not-joins
returns-then-not-joins c =
    let a = c.args in
    let own = by-marks a.m.now a.second.now c.requires.usable c.uses-own.ensures c.requires.brought_value c.nothing_shared-apart.ensures in
    refused-17 a.m.now a.second.now c.room-fits.ensures c.may_join-joins.ensures own (ap not c.if-not-fits.false) (ap not c.if-not-joins.true)

pub returns-then-not-apart : goal.returns-then-not-apart
returns-then-not-apart c =
    let a = c.args in
    let own = by-marks a.m.now a.second.now c.requires.usable c.uses-own.ensures c.requires.brought_value c.nothing_shared-apart.ensures in
    refused-18 a.m.now a.second.now c.room-fits.ensures c.may_join-joins.ensures own (ap not c.if-not-fits.false) (ap not c.if-not-joins.false) (ap not c.if-not-apart.true)

pub returns : goal.returns
returns c =
    let a = c.args in
    let own = by-marks a.m.now a.second.now c.requires.usable c.uses-own.ensures c.requires.brought_value c.nothing_shared-apart.ensures in
    let_through a.m.now a.second.now c.room-fits.ensures c.may_join-joins.ensures own (ap not c.if-not-fits.false) (ap not c.if-not-joins.false) (ap not c.if-not-apart.false)
