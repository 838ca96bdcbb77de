-- `face::walk` meets its contract: the forward leg, and the backward one where that ended on a null dart. Assumes nothing.
use mathlib.Core.Logic.{inl, inr}
use Rattle.cell_faces.proofs.LegLaws.{walked_one, walked_two}
use Rattle.cell_face_walks.proofs.face.walk.Goals as goal
use Rattle.cell_face_walks.proofs.face.walk.Goals.{else-one-ne0-via-then-one-ne0+else-one-ne0-2, else-one-ne0-via-else-one-ne0}

pub returns-then-one-ne0-2 : goal.returns-then-one-ne0-2
returns-then-one-ne0-2 c =
    walked_one c.args.rows.list.now _ c.args.d _ _ c.beta-b.ensures c.lower.ensures _ _ _ _ _ _ _ _ c.leg-one.ensures
    c.if-one-ne0.true c.if-one-ne0-2.true

pub returns : goal.returns
returns c =
    walked_two c.args.rows.list.now _ c.args.d _ _ c.beta-b.ensures c.lower.ensures _ _ _ _ _ _ _ _ c.leg-one.ensures
    (elim c.else-one-ne0.branch [
      | else-one-ne0-via-then-one-ne0+else-one-ne0-2 w ↦ inr w.if-one-ne0-2.false
      | else-one-ne0-via-else-one-ne0 w ↦ inl w.if-one-ne0.false
    ])
    _ _ c.beta.ensures c.beta-2.ensures _ _ _ _ _ _ c.leg.ensures
