-- `file_bytes::starts` meets its contract: the library's test is the definition.
-- Assumes nothing.
use mathlib.Core.Path.{◌∙◌}
use Rattle.file_bytes.proofs.Searches.{begun}
use Rattle.file_bytes.proofs.starts.Goals as goal

pub returns : goal.returns
returns c = c.starts_with.ensures.value ∙ begun c.args.bytes.now c.args.start.now
