-- `step` meets its contract: the way that the code takes, by the run mode and its switches, is the step's.
use mathlib.Core.Path.{refl, ◌∙◌, ap}
use Prim.Native.Nat.{◌<◌}
use native.Mathlib.Omega.{arith}
use Rattle.layout_modes.specs.Modes.{switches_of}
use Rattle.layout_modes.proofs.Exclusions.{envelope-is, envelope-not, oscillator-not, waits-is}
use Rattle.generator_turn.specs.AsCoded.{run_of}
use Rattle.generator_turn.proofs.Turns.{run-low}
use Rattle.pass_model.specs.Generators.{generator_of}
use Rattle.pass_model.proofs.Puts.{generator-ranged}
use Rattle.pass_outputs.specs.AsCoded.{Sending}
use Rattle.pass_generators.proofs.Words.{run-same, f-same}
use Rattle.pass_generators.proofs.Steps.{step-idle, idle-marked, sounds-on, sounds-marked, waits-on, waits-marked, sends-on, sends-unmarked, sends-marked}
use Rattle.pass_generators.proofs.step.Goals as goal

pub returns-then-run-le-PAUSE : goal.returns-then-run-le-PAUSE
returns-then-run-le-PAUSE c =
    let a = c.args in
    let idle : run_of a.text (generator_of a.m.now a.g) < 2 = rw (← (run-same a.text a.m.now a.g c.requires.within_widths c.run_mode-run.ensures)) (omega arith) in record { writes_after = step-idle a.text _ a.m.now a.places.now a.taking.now a.g _ _ refl refl c.requires.within_widths idle; clipped_after = idle-marked a.text _ a.m.now a.places.now a.taking.now a.g _ _ refl refl _ idle }

pub switches_of-on-requires : goal.switches_of-on-requires
switches_of-on-requires c =
    let a = c.args in
    rw (run-same a.text a.m.now a.g c.requires.within_widths c.run_mode-run.ensures) (run-low a.text _ (generator-ranged a.m.now a.g))

pub take_playing-requires : goal.take_playing-requires
take_playing-requires c =
    let a = c.args in
    let on = c.switches_of-on.ensures ∙ ap switches_of (run-same a.text a.m.now a.g c.requires.within_widths c.run_mode-run.ensures) in record { reaches = c.requires.reaches; on_value = (on, envelope-is _ _ on c.if-on.true); f_bound = (c.f_at-f.ensures.low, c.requires.g_bound.0, c.requires.g_bound.1) }

pub returns-then-on : goal.returns-then-on
returns-then-on c =
    let a = c.args in
    let on = c.switches_of-on.ensures ∙ ap switches_of (run-same a.text a.m.now a.g c.requires.within_widths c.run_mode-run.ensures) in
    let sounds = envelope-is _ _ on c.if-on.true in
    let is_f = f-same a.taking.now.sums a.m.now a.g c.gfm.ensures c.f_at-f.ensures.is in
    record { writes_after = sounds-on a.text _ a.m.now a.places.now a.taking.now _ _ _ refl is_f sounds c.take_playing.ensures; clipped_after = sounds-marked a.text _ a.m.now a.places.now a.taking.now _ _ _ refl is_f sounds c.take_playing.ensures }

pub take_waiting-requires : goal.take_waiting-requires
take_waiting-requires c =
    let a = c.args in
    let on = c.switches_of-on.ensures ∙ ap switches_of (run-same a.text a.m.now a.g c.requires.within_widths c.run_mode-run.ensures) in record { reaches = c.requires.reaches; g_value = (waits-is _ _ on c.if-on.false c.if-on-2.true, c.f_at-f.ensures.low, c.requires.g_bound.0) }

pub returns-then-on-2 : goal.returns-then-on-2
returns-then-on-2 c =
    let a = c.args in
    let on = c.switches_of-on.ensures ∙ ap switches_of (run-same a.text a.m.now a.g c.requires.within_widths c.run_mode-run.ensures) in
    let waits = waits-is _ _ on c.if-on.false c.if-on-2.true in
    let is_f = f-same a.taking.now.sums a.m.now a.g c.gfm.ensures c.f_at-f.ensures.is in record { writes_after = waits-on a.text _ a.m.now a.places.now a.taking.now _ _ _ refl is_f waits c.take_waiting.ensures; clipped_after = waits-marked a.text _ a.m.now a.places.now a.taking.now _ _ _ refl is_f _ waits }

pub send-requires : goal.send-requires
send-requires c =
    let a = c.args in
    let is-unit = c.generator_at-unit.ensures in
    let same = run-same a.text a.m.now a.g c.requires.within_widths c.run_mode-run.ensures in record { reaches = c.requires.reaches; ranged = rw is-unit (generator-ranged _ _); run_value = (rw is-unit same, c.f_at-f.ensures.low, c.requires.g_bound.2) }

pub returns : goal.returns
returns c =
    let a = c.args in
    let on = c.switches_of-on.ensures ∙ ap switches_of (run-same a.text a.m.now a.g c.requires.within_widths c.run_mode-run.ensures) in
    let off = envelope-not _ _ on c.if-on.false in
    let is_f = f-same a.taking.now.sums a.m.now a.g c.gfm.ensures c.f_at-f.ensures.is in
    let v : Sending = record { words = c.send.new.m; places = c.send.new.places; taking = c.send.new.self } in
    record {
      writes_after = sends-on a.text _ a.m.now a.places.now a.taking.now a.g c.generator_at-unit.result c.f_at-f.result c.generator_at-unit.ensures (rw c.generator_at-unit.ensures is_f) {v = v} c.requires.within_widths (rw c.generator_at-unit.ensures off) (rw c.generator_at-unit.ensures (oscillator-not _ _ on c.if-on-2.false)) c.send.ensures;
      clipped_after = sends-unmarked a.text a.items.now a.m.now a.places.now a.taking.now a.g c.generator_at-unit.result c.f_at-f.result c.generator_at-unit.ensures (rw c.generator_at-unit.ensures is_f) {v = v} c.send.ensures
          ∙ sends-marked a.text _ a.m.now a.places.now a.taking.now _ _ _ refl is_f _ off;
    }
