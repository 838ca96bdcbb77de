-- `edges::follow_arm` meets its contract, by the invariant `Following`. Assumes nothing.
use Prim.Native.Nat.{◌+◌, ◌-◌}
use Rattle.map_betas.specs.Betas.{darts}
use Rattle.cell_joins.proofs.EdgeLaws.{Following}
use Rattle.cell_joins.proofs.edges.follow_arm.Given as goal

abbrev pub invariant-loop-x : goal.invariant-loop-x
invariant-loop-x l = Following l.rows.list.now l.i l.d l.initial.marks l.initial.queue l.k l.marks l.queue l.count l.x l.by

abbrev pub decreases-loop-x : goal.decreases-loop-x
decreases-loop-x l = (darts l.rows.list.now + l.k) - l.count
