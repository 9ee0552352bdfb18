-- The claims of the sound that program wav writes, each by the law that shows it.
-- Assumes nothing.
use Rattle.file_wave.proofs.Samples.{sample-bytes, frame-samples}
use Rattle.file_wave.proofs.Rates.{rate-nearest}
use Rattle.claims.specs.SoundClaims.{SoundClaims}

pub sound-claims : SoundClaims
sound-claims = record { rate-nearest = rate-nearest; frame-samples = frame-samples; sample-bytes = sample-bytes }
