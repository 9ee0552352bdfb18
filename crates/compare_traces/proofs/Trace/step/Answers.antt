-- `compare_traces::Trace::step` meets its contract: each run mode that it tells apart has a law of the step.
-- Assumes nothing.
use native.Mathlib.Omega.{arith}
use Rattle.compare_traces.proofs.Steps.{step-feeds, step-writes, step-replaces, step_past}
use Rattle.compare_traces.proofs.Trace.step.Goals as goal

pub returns-in-2 : goal.returns-in-2
returns-in-2 c =
    let a = c.args in
    step-feeds a.text a.m.now a.i a.g a.self.now c.run_at.ensures c.in-2.is c.dac_number-d.ensures.0 c.source.ensures

pub returns-in-3 : goal.returns-in-3
returns-in-3 c =
    let a = c.args in
    step-writes a.text a.m.now a.i a.g a.self.now c.run_at.ensures c.in-3.is c.source-in-3.ensures

pub returns-in-7 : goal.returns-in-7
returns-in-7 c =
    let a = c.args in
    step-replaces a.text a.m.now a.i a.g a.self.now c.run_at.ensures c.in-7.is c.replace.ensures

pub returns-in_default : goal.returns-in_default
returns-in_default c =
    let a = c.args in
    step_past a.text a.m.now a.i a.g a.self.now c.run_at.ensures (omega arith) (omega arith) (omega arith)
