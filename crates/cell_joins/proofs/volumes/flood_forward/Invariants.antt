-- `volumes::flood_forward` meets its contract, by the invariant `Flooding`. Assumes nothing.
use Prim.Native.Nat.{◌-◌, ◌≤◌}
use mathlib.Core.Path.{◌≡◌}
use lib.ListN.{take}
use Rattle.map_betas.specs.Betas.{darts}
use Rattle.cell_steps.specs.Steps.{volume_linear}
use Rattle.cell_steps.specs.Search.{In}
use Rattle.cell_steps.proofs.TurnLaws.{Flooding}
use Rattle.cell_joins.specs.Joins.{ended}
use Rattle.cell_joins.proofs.volumes.flood_forward.Given as goal

abbrev pub invariant-loop-k : goal.invariant-loop-k
invariant-loop-k l =
    Flooding l.rows.list.now volume_linear l.initial.marks l.initial.queue l.from l.seeds l.marks l.queue l.k
    l.count × (l.ends ≡ ended l.rows.list.now (take l.count l.queue) l.from (l.k - l.from)) × In 0 (take l.count l.queue) × (l.from ≤ l.k)

abbrev pub decreases-loop-k : goal.decreases-loop-k
decreases-loop-k l = darts l.rows.list.now - l.k
