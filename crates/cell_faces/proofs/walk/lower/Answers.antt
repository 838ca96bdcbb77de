-- `walk::lower` meets its contract, case by case. Assumes nothing.
use mathlib.Core.Path.{◌∙◌}
use Rattle.cell_faces.proofs.LegLaws.{lower_null, lower_real}
use Rattle.cell_faces.proofs.walk.lower.Goals as goal

pub returns-then-x-eq0 : goal.returns-then-x-eq0
returns-then-x-eq0 c = lower_null _ _ c.if-x-eq0.true

pub returns : goal.returns
returns c = c.min.ensures ∙ lower_real _ _ c.if-x-eq0.false
