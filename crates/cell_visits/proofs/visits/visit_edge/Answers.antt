-- `visits::visit_edge` meets its contract, step by step. Assumes nothing.
use native.Mathlib.Omega.{arith}
use Rattle.cell_steps.specs.Steps.{edge}
use Rattle.cell_steps.proofs.TurnLaws.{visiting_starts, visiting_ends}
use Rattle.cell_steps.proofs.VisitLaws.{taken}
use Rattle.cell_visits.proofs.visits.visit_edge.Goals as goal

pub returns : goal.returns
returns c =
    let s1 = c.step-k1 in
    let s2 = c.step in
    let v0 = visiting_starts c.args.rows.list.now edge c.args.d _ _ _ c.requires.1 in
    let v1 = taken 0 v0 (omega arith) s1.auto.marks s1.auto.out s1.ensures in
    let v2 = taken 1 v1 (omega arith) s2.auto.marks s2.auto.out s2.ensures in
    visiting_ends _ _ _ _ _ _ _ _ _ _ v2 (omega arith)
