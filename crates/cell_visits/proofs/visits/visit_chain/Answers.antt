-- `visits::visit_chain` meets its contract, step by step. Assumes nothing.
use mathlib.Core.List.{[], ◌∷◌}
use native.Mathlib.Omega.{arith}
use Rattle.cell_steps.proofs.TurnLaws.{visiting_starts, visiting_ends}
use Rattle.cell_steps.proofs.VisitLaws.{taken}
use Rattle.cell_visits.proofs.visits.visit_chain.Goals as goal

pub returns : goal.returns
returns c =
    let s1 = c.step-k1 in
    let s2 = c.step-k2 in
    let s3 = c.step in
    let v0 = visiting_starts c.args.rows.list.now (1 ∷ 0 ∷ c.args.last ∷ []) c.args.d _ _ _ c.requires.1 in
    let v1 = taken 0 v0 (omega arith) s1.auto.marks s1.auto.out s1.ensures in
    let v2 = taken 1 v1 (omega arith) s2.auto.marks s2.auto.out s2.ensures in
    let v3 = taken 2 v2 (omega arith) s3.auto.marks s3.auto.out s3.ensures in
    visiting_ends _ _ _ _ _ _ _ _ _ _ v3 (omega arith)
