-- `geometry::slots_refuse` meets its contract: by which of the slots is the first that holds no point. Assumes nothing.
use mathlib.Core.Path.{◌∙◌}
use Rattle.sew_points.specs.Geometry.{slots_refuse}
use Rattle.sew_points.proofs.slots_refuse.Goals as goal

pub returns-in-Some-Some-Some-Some : goal.returns-in-Some-Some-Some-Some
unfolding slots_refuse
returns-in-Some-Some-Some-Some c =
    let a = c.in-Some-Some-Some-Some in
    c.same_way.ensures ∙ simp (a.is-0, a.is-1, a.is-2, a.is-3)

pub returns-in_default : goal.returns-in_default
unfolding slots_refuse
returns-in_default c = simp (c.in_default.is-0, c.in_default.is-1, c.in_default.is-2, c.in_default.is-3)

pub returns-in_default-2 : goal.returns-in_default-2
unfolding slots_refuse
returns-in_default-2 c = simp (c.in_default.is-0, c.in_default.is-1, c.in_default.is-2)

pub returns-in_default-3 : goal.returns-in_default-3
unfolding slots_refuse
returns-in_default-3 c = simp (c.in_default.is-0, c.in_default.is-1)

pub returns-in_default-4 : goal.returns-in_default-4
unfolding slots_refuse
returns-in_default-4 c = simp c.in_default.is-0
