-- `rounds::go_round` meets its contract, by the invariant `Rounding`; the steps ahead are fewer with each turn. Assumes nothing.
use Rattle.cell_steps.proofs.ChainLaws.{ahead}
use Rattle.cell_faces.proofs.RoundLaws.{Rounding}
use Rattle.cell_rounds.proofs.rounds.go_round.Given as goal

abbrev pub invariant-loop-x : goal.invariant-loop-x
invariant-loop-x l = Rounding l.rows.list.now l.d l.initial.marks l.initial.queue l.known l.marks l.queue l.k l.x

abbrev pub decreases-loop-x : goal.decreases-loop-x
decreases-loop-x l = ahead l.rows.list.now l.d l.x
