-- `walk::leg` meets its contract, by the invariant `Walking`. Assumes nothing.
use Prim.Native.Nat.{◌-◌}
use Rattle.map_betas.specs.Betas.{darts}
use Rattle.cell_faces.proofs.LegLaws.{Walking}
use Rattle.cell_faces.proofs.walk.leg.Given as goal

abbrev pub invariant-loop-at : goal.invariant-loop-at
invariant-loop-at l = Walking l.rows.list.now l.i l.j l.initial.marks l.initial.queue l.initial.at.k l.initial.at.l l.initial.at.r l.initial.at.low l.marks l.queue l.at.k l.at.l l.at.r l.at.low

abbrev pub decreases-loop-at : goal.decreases-loop-at
decreases-loop-at l = darts l.rows.list.now - l.at.k
