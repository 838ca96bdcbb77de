-- `visits::visit_list` meets its contract, by the invariant `Visiting`. Assumes nothing.
use Rattle.cell_steps.proofs.TurnLaws.{Visiting}
use Rattle.cell_visits.proofs.visits.visit_list.Given as goal

abbrev pub invariant-loop-c : goal.invariant-loop-c
invariant-loop-c l = Visiting l.rows.list.now l.steps l.d l.initial.marks l.initial.out l.count l.marks l.out l.k l.c-index
