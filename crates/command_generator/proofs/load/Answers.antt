-- `command_generator::load` meets its contract: each arm is the load of its code.
-- Assumes nothing.
use mathlib.Core.Path.{◌≡◌, sym, ◌∙◌}
use native.Mathlib.Omega.{arith}
use Rattle.command_fields.specs.Fields.{code4}
use Rattle.command_generator.proofs.GeneratorCodes.{lower-code, higher-code, loads-gq, loads-gj, loads-gp, loads-gn, loads-gl, loads-gk, loads-gmode, loads-go}
use Rattle.command_generator.proofs.load.Goals as goal

pub returns-in-6 : goal.returns-in-6
returns-in-6 c =
    let a = c.args in
    loads-gp a.m.now a.c c.generator_at-g.ensures.0 (sym c.field.ensures ∙ c.in-6.is) c.load_data.ensures

pub returns-in-7 : goal.returns-in-7
returns-in-7 c =
    let a = c.args in
    loads-gn a.m.now a.c c.generator_at-g.ensures.0 (sym c.field.ensures ∙ c.in-7.is) c.field-in-7.ensures c.field-in-7-2.ensures c.load_two.ensures

pub returns-in-8 : goal.returns-in-8
returns-in-8 c =
    let a = c.args in
    loads-gl a.m.now a.c c.generator_at-g.ensures.0 (sym c.field.ensures ∙ c.in-8.is) c.field-in-8.ensures c.field-in-8-2.ensures c.load_two-in-8.ensures

pub returns-in-9 : goal.returns-in-9
returns-in-9 c =
    let a = c.args in
    loads-gk a.m.now a.c c.generator_at-g.ensures.0 (sym c.field.ensures ∙ c.in-9.is) c.load_data-in-9.ensures

pub returns-in-10 : goal.returns-in-10
returns-in-10 c =
    let a = c.args in
    loads-gmode a.m.now a.c c.generator_at-g.ensures.0 (sym c.field.ensures ∙ c.in-10.is) c.field-in-10.ensures c.field-in-10-2.ensures c.load_then_clear.ensures

pub returns-in-11 : goal.returns-in-11
returns-in-11 c =
    let a = c.args in
    loads-go a.m.now a.c c.generator_at-g.ensures.0 (sym c.field.ensures ∙ c.in-11.is) c.load_data-in-11.ensures

pub returns-then-this-lt2 : goal.returns-then-this-lt2
returns-then-this-lt2 c =
    let a = c.args in
    let e : code4 a.c ≡ c.field.result = sym c.field.ensures in
    lower-code a.m.now a.c (omega (arith, e, c.if-this-lt2-1.true))

pub returns-in-2 : goal.returns-in-2
returns-in-2 c =
    let a = c.args in
    let e : code4 a.c ≡ c.field.result = sym c.field.ensures in
    loads-gq a.m.now a.c c.generator_at-g.ensures.0 (omega (arith, e, c.in-2.if-this-lt2-own.false)) (omega (arith, e, c.in-2.if-this-lt4-own.true)) c.load_adjusted.ensures

pub returns-in-4 : goal.returns-in-4
returns-in-4 c =
    let a = c.args in
    let e : code4 a.c ≡ c.field.result = sym c.field.ensures in
    loads-gj a.m.now a.c c.generator_at-g.ensures.0 (omega (arith, e, c.in-4.if-this-lt4-own.false)) (omega (arith, e, c.in-4.if-this-lt6-own.true)) c.load_adjusted-in-4.ensures

pub returns-else-this-lt6 : goal.returns-else-this-lt6
returns-else-this-lt6 c =
    let a = c.args in
    let e : code4 a.c ≡ c.field.result = sym c.field.ensures in
    let others = c.in_default-1.rest in
    higher-code a.m.now a.c (omega (arith, e, c.if-this-lt6-1.false, others.1, others.0.1, others.0.0.1, others.0.0.0.1, others.0.0.0.0.1, others.0.0.0.0.0.1))
