-- `basic_ops::list_by` meets its contract: refused by the guard, or done. Assumes nothing.
use Rattle.std.specs.Prelude.{is_ok}
use mathlib.Core.Path.{sym, ap, ◌∙◌}
use Rattle.map_betas.proofs.AnswerLaws.{behind_refused, behind_done}
use Rattle.map_betas.proofs.GuardLaws.{ready}
use Rattle.cell_list_calls.proofs.basic_ops.list_by.Goals as goal

pub returns-in_err-guard : goal.returns-in_err-guard
returns-in_err-guard c =
    behind_refused (rw c.list_loans-loans.ensures at c.guard.ensures) _ _ _ c.in_err-guard.was c.from_residual.ensures.1

pub invariant_of-list_done : goal.invariant_of-list_done
invariant_of-list_done c =
    let e = rw c.list_loans-loans.ensures at c.guard.ensures in
    let r = ready _ _ _ _ _ _ (ap is_ok (sym e ∙ c.in_ok-guard.was)) in
    record { formed = r.map.formed }

pub list_done-requires : goal.list_done-requires
list_done-requires c =
    let e = rw c.list_loans-loans.ensures at c.guard.ensures in
    let r = ready _ _ _ _ _ _ (ap is_ok (sym e ∙ c.in_ok-guard.was)) in
    (r.lent.marks, r.lent.queue, r.lent.output, r.map.flagged)

pub returns : goal.returns
returns c = c.list_done.ensures ∙ behind_done (rw c.list_loans-loans.ensures at c.guard.ensures) _ _ c.in_ok-guard.was
