-- The claims of the counter, each by the law that shows it.
-- Assumes nothing.
use native.Mathlib.Omega.{arith}
use Rattle.ring_counter.proofs.Words.{same-own, narrow-same, narrow_good}
use Rattle.ring_counter.proofs.Passes.{passed-alike}
use Rattle.ring_counter.proofs.Updates.{command-alike, updated-alike}
use Rattle.ring_counter.proofs.Ringings.{heard-alike, heard-narrow}
use Rattle.claims.specs.CounterClaims.{CounterClaims}

pub counter-claims : CounterClaims
counter-claims =
    record {
      counter-cut = λ text m good. (narrow_good text m good, narrow-same m (omega (arith, good.whole)));
      passes-alike = passed-alike;
      commands-alike = command-alike;
      updates-alike = updated-alike;
      heard-alike = heard-alike;
      heard-as-before = λ text by passes m good. heard-narrow text by passes m m (same-own m) good good;
    }
