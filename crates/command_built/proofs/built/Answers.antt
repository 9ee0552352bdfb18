-- `command_built::built` meets its contract: its arms by the code.
-- Assumes nothing.
use mathlib.Core.Path.{◌≡◌}
use native.Mathlib.Omega.{arith}
use Rattle.command_fields.specs.Fields.{code5}
use Rattle.command_built.proofs.BuiltCodes.{asks-misc, asks-delay, asks-ticks, asks-gmode, asks-mmode, asks-mrm, asks_nothing}
use Rattle.command_built.proofs.built.Goals as goal

pub returns-in-0 : goal.returns-in-0
returns-in-0 c = asks-misc c.args.c c.field.ensures c.in-0.is c.field-in-0.ensures c.flag.ensures

pub returns-in-1 : goal.returns-in-1
returns-in-1 c = asks-delay c.args.c c.field.ensures c.in-1.is c.built_dly.ensures

pub returns-in-3 : goal.returns-in-3
returns-in-3 c = asks-ticks c.args.c c.field.ensures c.in-3.is c.flag-in-3.ensures

pub returns-in-30 : goal.returns-in-30
returns-in-30 c = asks-mmode c.args.c c.field.ensures c.in-30.is c.built_mmode.ensures

pub returns-in-31 : goal.returns-in-31
returns-in-31 c = asks-mrm c.args.c c.field.ensures c.in-31.is c.built_mrm.ensures

pub returns-in-20 : goal.returns-in-20
returns-in-20 c =
    let n = c.args.c in
    let e : c.field.result ≡ code5 n = c.field.ensures in
    asks-gmode n e (omega (arith, e, c.in-20.if-this-lt20-own.false, c.in-20.if-this-lt22-own.true)) c.built_gmode.ensures

pub returns-in_default : goal.returns-in_default
returns-in_default c =
    let n = c.args.c in
    let e : c.field.result ≡ code5 n = c.field.ensures in
    let others = c.in_default.in_default-own.rest in
    asks_nothing n e others.0.0.0.0.1 others.0.0.0.1 others.0.0.1 (λ q. omega (arith, e, q, c.in_default.if-this-lt20-own.true)) others.0.1 others.1

pub returns-in_default-2 : goal.returns-in_default-2
returns-in_default-2 c =
    let n = c.args.c in
    let e : c.field.result ≡ code5 n = c.field.ensures in
    let others = c.in_default.in_default-own.rest in
    asks_nothing n e others.0.0.0.0.1 others.0.0.0.1 others.0.0.1 (λ q. omega (arith, e, q, c.in_default.if-this-lt22-own.false)) others.0.1 others.1
