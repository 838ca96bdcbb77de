-- `basic_ops::cell_id` meets its contract: refused by the guard, or done. Assumes nothing.
use Rattle.std.specs.Prelude.{is_ok}
use mathlib.Core.Path.{sym, ap, ◌∙◌}
use Rattle.map_betas.proofs.AnswerLaws.{behind_refused, behind_done}
use Rattle.map_betas.proofs.GuardLaws.{ready}
use Rattle.cell_names.specs.Calls.{id_call}
use Rattle.cell_calls.proofs.basic_ops.cell_id.Goals as goal

pub returns-in_err-guard : goal.returns-in_err-guard
unfolding id_call
returns-in_err-guard c =
    behind_refused (rw c.scratch.ensures at c.guard.ensures) _ _ _ c.in_err-guard.was c.from_residual.ensures.1

pub invariant_of-id_done : goal.invariant_of-id_done
invariant_of-id_done c =
    let e = rw c.scratch.ensures at c.guard.ensures in
    let r = ready _ _ _ _ _ _ (ap is_ok (sym e ∙ c.in_ok-guard.was)) in
    record { formed = r.map.formed }

pub id_done-requires : goal.id_done-requires
id_done-requires c =
    let e = rw c.scratch.ensures at c.guard.ensures in
    let r = ready _ _ _ _ _ _ (ap is_ok (sym e ∙ c.in_ok-guard.was)) in
    (r.lent.marks, r.lent.queue, r.left.below)

pub returns : goal.returns
unfolding id_call
returns c = c.id_done.ensures ∙ behind_done (rw c.scratch.ensures at c.guard.ensures) _ _ c.in_ok-guard.was
