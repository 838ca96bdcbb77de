-- `edges::walk_arm` meets its contract, by the invariant `Going`. Assumes nothing.
use Prim.Native.Nat.{◌+◌, ◌-◌}
use Rattle.map_betas.specs.Betas.{darts}
use Rattle.cell_edges.proofs.CoreLaws.{Going}
use Rattle.cell_edges.proofs.edges.walk_arm.Given as goal

abbrev pub invariant-loop-x : goal.invariant-loop-x
invariant-loop-x l = Going l.rows.list.now l.i l.d l.fn.before.least l.fn.before.count l.met.least l.met.count l.by l.x

abbrev pub decreases-loop-x : goal.decreases-loop-x
decreases-loop-x l = (darts l.rows.list.now + l.fn.before.count) - l.met.count
