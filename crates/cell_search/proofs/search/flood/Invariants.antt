-- `search::flood` meets its contract, by the invariant `Flooding`. Assumes nothing.
use Prim.Native.Nat.{◌-◌}
use Rattle.map_betas.specs.Betas.{darts}
use Rattle.cell_steps.proofs.TurnLaws.{Flooding}
use Rattle.cell_search.proofs.search.flood.Given as goal

abbrev pub invariant-loop-k : goal.invariant-loop-k
invariant-loop-k l = Flooding l.rows.list.now l.steps.codes.now l.initial.marks l.initial.out l.from l.seeds l.marks l.out l.k l.count

abbrev pub decreases-loop-k : goal.decreases-loop-k
decreases-loop-k l = darts l.rows.list.now - l.k
