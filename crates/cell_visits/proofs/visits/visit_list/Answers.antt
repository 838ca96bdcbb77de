-- `visits::visit_list` meets its contract, by the invariant `Visiting`. Assumes nothing.
use Rattle.cell_steps.proofs.TurnLaws.{visiting_ends}
use Rattle.cell_steps.proofs.VisitLaws.{taken}
use Rattle.cell_visits.proofs.visits.visit_list.Goals as goal

pub loop-c-preserved : goal.loop-c-preserved
loop-c-preserved c = taken _ c.loop-c.invariant c.loop-c-test.true c.step-k.auto.marks c.step-k.auto.out c.step-k.ensures

pub returns : goal.returns
returns c = visiting_ends _ _ _ _ _ _ _ _ _ _ c.loop-c.invariant c.loop-c-test.false
