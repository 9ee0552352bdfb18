-- `ring_begin::Line::refused` meets its contract: the line is the first part of its buffer, which holds it.
-- Assumes nothing.
use Rattle.ring_begin.proofs.Refused.{refused-put}
use Rattle.ring_begin.proofs.line.Line.refused.Goals as goal

pub returns : goal.returns
returns c = let both = refused-put c.from.ensures c.refusal_line-length.ensures.value c.refusal_line-length.ensures.line_after in both.1

pub invariant_of-result : goal.invariant_of-result
invariant_of-result c = let both = refused-put c.from.ensures c.refusal_line-length.ensures.value c.refusal_line-length.ensures.line_after in record { fits = both.0 }
