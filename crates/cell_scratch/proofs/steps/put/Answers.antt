-- `steps::put` meets its contract: a dart that is not there has no mark, and room. Assumes nothing.
use native.Mathlib.Omega.{arith}
use Rattle.cell_steps.proofs.QueueLaws.{push_room, absent_unmarked, push_last}
use Rattle.cell_scratch.proofs.steps.put.Goals as goal

pub bounds-out-k : goal.bounds-out-k
bounds-out-k c =
    let e = absent_unmarked _ _ _ _ c.requires.0 c.requires.1 c.requires.3 in
    omega (arith, push_room _ _ _ _ c.requires.0 c.requires.1 e, c.requires.2)

pub returns : goal.returns
returns c = push_last _ _ _ _ c.requires.0 c.requires.1 c.requires.2 c.requires.3
