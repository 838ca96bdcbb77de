-- `geometry::slot_at` meets its contract: a mark of 0 is no vertex, any other the three coordinates at 3 * d. Assumes nothing.
use borrow.Author.Tests.{eq-eqb, ne_eqb}
use Rattle.sew_points.specs.Geometry.{slot_at}
use Rattle.sew_points.proofs.slot_at.Goals as goal

pub returns-then-marks-at-eq0 : goal.returns-then-marks-at-eq0
unfolding slot_at
returns-then-marks-at-eq0 c = simp (eq-eqb _ _ c.if-marks-at-eq0.true)

pub returns : goal.returns
unfolding slot_at
returns c = simp (ne_eqb _ _ c.if-marks-at-eq0.false)
