-- The first point that fails as the code answers it.
-- Assumes nothing.
use Rattle.std.specs.Prelude.{Option, None, Some, cond, eqb}
use Rattle.compare_agreement.specs.Points as points
use Rattle.compare_first.specs.declared.Failing.{Failing}

-- Nothing where no point fails, which the points' definition tells by the number 0.
abbrev pub found : points.Failing → Option Failing
found f = cond (eqb f.point 0) None (Some (record { point = f.point; place = f.place; sounding = f.sounding }))
