-- The claims of the items and places of a pass hold, each by the law that shows it.
-- Assumes nothing.
use mathlib.Core.Path.{◌∙◌}
use Rattle.pass_laws.proofs.Passing.{pass-number}
use Rattle.pass_laws.proofs.PassPlaces.{refused-counts, places-kept, places-long}
use Rattle.claims.specs.PassClaims.{PassClaims}

pub pass-claims : PassClaims
pass-claims =
    record {
      refused-counts = λ text m call n. refused-counts text m call (λ e. n (pass-number text m call ∙ e));
      places-kept = places-kept;
      places-long = places-long;
    }
