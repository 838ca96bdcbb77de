-- `tested::operate` meets its contract: refused by the guard, or run. Assumes nothing.
use mathlib.Core.Path.{◌≡◌, sym, ap, ◌∙◌}
use lib.ListN.{length}
use Rattle.map_betas.specs.declared.loans.Loans.{Loans}
use Rattle.map_betas.specs.Guards.{guard_of}
use Rattle.map_betas.proofs.AnswerLaws.{behind_refused, behind_done}
use Rattle.map_betas.proofs.GuardLaws.{ready}
use Rattle.sew_operations.specs.Operations.{loans_of, operation}
use Rattle.sew_operations.proofs.OperationLaws.{lent_marks, lent_queue, lent_slots}
use Rattle.sew_tested.proofs.tested.operate.Goals as goal
use Rattle.sew_tested.proofs.tested.operate.Goals.{After-guard}
use Rattle.std.specs.Prelude.{is_ok}

guarded : (c : After-guard) →
    c.guard.result ≡ guard_of c.args.rows.now c.args.flags.now (loans_of c.args.operation (length c.args.marks.now) (length
    c.args.queue.now) (length c.args.vertices.now) (length c.args.coordinates.now)) 1 c.args.ld c.args.rd
guarded c =
    c.guard.ensures ∙ ap (λ (l : Loans). guard_of c.args.rows.now c.args.flags.now l 1 c.args.ld c.args.rd)
    c.loans_of-loans.ensures

pub returns-in_err-guard : goal.returns-in_err-guard
unfolding operation
returns-in_err-guard c =
    behind_refused (guarded (goal.at.returns-in_err-guard c).After-guard) _ _ _ c.in_err-guard.was c.from_residual.ensures.1

pub run_wiped-requires : goal.run_wiped-requires
run_wiped-requires c =
    let op = c.args.operation in
    let marks = length c.args.marks.now in
    let queue = length c.args.queue.now in
    let vertices = length c.args.vertices.now in
    let coordinates = length c.args.coordinates.now in
    let r = ready c.args.rows.now c.args.flags.now (loans_of op marks queue vertices coordinates) 1 c.args.ld
    c.args.rd (ap is_ok (sym (guarded (goal.at.run_wiped-requires c).After-guard) ∙ c.in_ok-guard.was)) in
    let l = r.lent in (
      r.map.formed,
      lent_marks _ marks queue vertices coordinates op l,
      lent_queue _ marks queue vertices coordinates op l,
      r.left,
      r.right,
      lent_slots
          _ marks queue vertices coordinates op l,
    )

pub returns : goal.returns
unfolding operation
returns c = c.run_wiped.ensures ∙ behind_done (guarded (goal.at.returns c).After-guard) _ _ c.in_ok-guard.was
