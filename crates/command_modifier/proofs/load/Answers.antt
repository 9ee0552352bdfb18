-- `command_modifier::load` meets its contract: each arm is the load of its code.
-- Assumes nothing.
use mathlib.Core.Path.{sym, ◌∙◌}
use Rattle.command_modifier.proofs.ModifierCodes.{other-code, vv-m0, vv-m1, loads-mmode, loads-m0, loads-m1, loads-l0, loads-l1, loads-mrm}
use Rattle.command_modifier.proofs.load.Goals as goal

pub returns-in-24 : goal.returns-in-24
returns-in-24 c =
    let a = c.args in
    loads-m0 a.m.now a.c c.modifier_at-u.ensures.0 (vv-m0 a.m.now a.c c.field.ensures c.in-24.is) c.load_adjusted.ensures

pub returns-in-25 : goal.returns-in-25
returns-in-25 c =
    let a = c.args in
    loads-m1 a.m.now a.c c.modifier_at-u.ensures.0 (vv-m1 a.m.now a.c c.field.ensures c.in-25.is) c.load_adjusted-in-25.ensures

pub returns-in-28 : goal.returns-in-28
returns-in-28 c =
    let a = c.args in
    loads-l0 a.m.now a.c c.modifier_at-u.ensures.0 (sym c.field.ensures ∙ c.in-28.is) c.load_data.ensures

pub returns-in-29 : goal.returns-in-29
returns-in-29 c =
    let a = c.args in
    loads-l1 a.m.now a.c c.modifier_at-u.ensures.0 (sym c.field.ensures ∙ c.in-29.is) c.load_data-in-29.ensures

pub returns-in-30 : goal.returns-in-30
returns-in-30 c =
    let a = c.args in
    loads-mmode a.m.now a.c (sym c.field.ensures ∙ c.in-30.is) c.load_mmode_msum.ensures

pub returns-in-31 : goal.returns-in-31
returns-in-31 c =
    let a = c.args in
    loads-mrm a.m.now a.c c.modifier_at-u.ensures.0 (sym c.field.ensures ∙ c.in-31.is) c.field-in-31.ensures c.field-in-31-2.ensures c.load_then_clear.ensures

pub returns-in_default : goal.returns-in_default
returns-in_default c =
    let a = c.args in
    let others = c.in_default.in_default-own.rest in
    other-code a.m.now a.c c.field.ensures others.0.0.0.0.0.1 others.0.0.0.0.1 others.0.0.0.1 others.0.0.1 others.0.1 others.1
