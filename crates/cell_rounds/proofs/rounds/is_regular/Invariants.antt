-- `rounds::is_regular` meets its contract: from x on with turns enough the test is the whole test, and the steps ahead are fewer with each turn.
-- Assumes nothing.
use Rattle.cell_steps.proofs.ChainLaws.{ahead}
use Rattle.cell_faces.proofs.DartLaws.{Testing}
use Rattle.cell_rounds.proofs.rounds.is_regular.Given as goal

abbrev pub invariant-loop-d : goal.invariant-loop-d
invariant-loop-d l = Testing l.rows.list.now l.d l.x

abbrev pub decreases-loop-d : goal.decreases-loop-d
decreases-loop-d l = ahead l.rows.list.now l.d l.x
