-- `sides::side_at` meets its contract. Assumes nothing.
use Rattle.sew_ground.proofs.SideLaws.{side_is}
use Rattle.sew_ground.proofs.sides.side_at.Goals as goal

pub returns-clause-value : goal.returns-clause-value
returns-clause-value c =
    side_is _ _ _ _ _ _ _ _ c.beta.ensures c.beta-2.ensures c.max-far.ensures
    c.cell_core-edge.ensures.value c.cell_core-near.ensures.value c.cell_core-end.ensures.value
