-- The claims of Lingers hold, each by the law that shows it.
-- Assumes nothing.
use Rattle.machine.proofs.ValidMachine.{reaches}
use Rattle.layout_texts.specs.declared.Text.TheVariants.{Of1978}
use Rattle.pass_laws.proofs.Passing.{good-passes}
use Rattle.pass_laws.proofs.PassSettings.{pass-settings}
use Rattle.command_laws.proofs.Lingering.{command-overrun, update-overrun, command-quiet, command-waits, update-linger-pass, update-lingers}
use Rattle.claims.specs.TimerClaims.{TimerClaims}

pub timer-claims : TimerClaims
timer-claims =
    record {
      overrun-command = command-overrun;
      overrun-update = update-overrun;
      overrun-pass = λ text m call. (pass-settings text m call).overrun;
      linger-waits = λ m good c w. command-waits m (reaches m good.whole) c w;
      linger-else = command-quiet;
      linger-update = update-linger-pass;
      linger-last = λ m good cs s one. update-lingers m cs (good-passes Of1978 m good) s one;
      linger-pass = λ text m call. let kept = pass-settings text m call in (kept.lingering, kept.linger_pass);
    }
