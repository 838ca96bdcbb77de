-- `scratch::clear` meets its contract: the marks of the darts that the loop has gone by are 0. Assumes nothing.
use lib.ListN.{take}
use Rattle.cell_steps.specs.Loans.{Cleared}
use Rattle.cell_scratch.proofs.scratch.clear.Given as goal

abbrev pub invariant-loop-x : goal.invariant-loop-x
invariant-loop-x l = Cleared (take l.x-index l.list) l.initial.marks l.marks
