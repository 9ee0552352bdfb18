-- The stage as the code takes it: sum memory in place, with the late view as its modifier-this, and the early view beside it, which lags by a ring of the last four writes.
-- Laws join it to `modified_by`, which alone a reader has to believe. Assumes nothing.
use Rattle.std.specs.Prelude.{ℕ, zero, suc, ◌%◌, [], get_or, set}
use Rattle.layout.specs.Layout.{modifier_at}
use Rattle.layout.specs.Machine.{Sums}
use Rattle.layout_texts.specs.declared.Text.{Text}
use Rattle.modifier.specs.Modifier.{stored}
use Rattle.pass_sums.specs.Sums.{modifier_this}
use Rattle.pass_model.specs.Modifiers.{Write, with_write, turn_seen, modifier_of, Held, delayed}
use Rattle.pass_views.specs.declared.Lag.{Lag}
use Rattle.pass_views.specs.AsCoded.{word_left, caught_up, unwritten}

-- The machine's words and delay memory, sum memory; the early view, with the last four writes that it lags by.
pub record Lagging : Type 0 where
  pub held : Held
  pub sums : Sums
  pub lag : Lag

-- Modifier m is taken, and its delay unit, in a pass of T processing ticks.
unfoldable pub lag_step : Text → ℕ → Lagging → ℕ → Lagging
lag_step text t v m =
    let early = caught_up v.lag.early v.lag.writes (m % 4) in
    let this = get_or v.sums modifier_this [] in
    let words = v.held.words in
    let u = modifier_of words m in
    let turn = turn_seen text t words v.sums early this u in
    let w : Write = record { msum = u.msum; s = turn.s } in
    record {
      held = delayed text t (record { words = stored words (modifier_at m) turn.unit; memory = v.held.memory }) u turn.unit.l1;
      sums = set v.sums modifier_this (with_write this w);
      lag = record { early = early; writes = set v.lag.writes (m % 4) (record { msum = u.msum; left = word_left this w }) };
    }

-- Modifiers 0 to n-1 are taken. The ring begins with four writes that change nothing.
unfoldable pub lagged : Text → ℕ → Held → Sums → ℕ → Lagging
lagged text t h s zero = record { held = h; sums = s; lag = unwritten (get_or s modifier_this []) }
lagged text t h s (suc n) = lag_step text t (lagged text t h s n) n
