-- `one::one_sew_on` meets its contract: each return is one of the ways in which a 1-sew ends. Assumes nothing.
use native.Mathlib.Omega.{arith}
use mathlib.Core.Path.{refl, ◌∙◌}
use Rattle.sew_ground.proofs.EntryLaws.{alone}
use Rattle.sew_ground.proofs.OneLaws.{handed_on, erred, not_erred}
use Rattle.sew_ground.proofs.OneRows.{one_linked}
use Rattle.sew_ground.proofs.EndLaws.{one_sew_refused, one_sew_tight, one_sew_done}
use Rattle.sew_one.proofs.one.one_sew_on.Goals as goal

pub returns-in_err-one_links-clause-plan_after : goal.returns-in_err-one_links-clause-plan_after
returns-in_err-one_links-clause-plan_after c =
    rw (handed_on _ c.in_err-one_links.was c.from_residual.ensures.1) (one_sew_refused _ _ _ _ _ _ c.in_err-one_links.ensures refl)

pub take_back-requires : goal.take_back-requires
take_back-requires c =
    let f = one_linked _ _ _ _ _ c.requires.0 c.requires.1 c.requires.2 c.one_links.ensures in
    (f, omega (arith, c.requires.1.below, c.one_links.auto.rows), omega (arith, c.requires.2.below, c.one_links.auto.rows))

pub returns-then-is_err-clause-plan_after : goal.returns-then-is_err-clause-plan_after
returns-then-is_err-clause-plan_after c =
    one_sew_tight _ _ _ _ _ _ c.in_ok-one_links.ensures c.requires.0 c.requires.1 c.requires.2 refl _
    (alone c.one_item-item.result ∙ c.one_item-item.ensures.result_value) _ _ c.settle-settled.ensures _ c.take_back.ensures
    (erred _ _ c.is_err.ensures.value c.if-is_err.true)

pub returns-else-is_err-clause-plan_after : goal.returns-else-is_err-clause-plan_after
returns-else-is_err-clause-plan_after c =
    one_sew_done _ _ _ _ _ _ c.in_ok-one_links.ensures c.requires.0 c.requires.1 c.requires.2 refl _
    (alone c.one_item-item.result ∙ c.one_item-item.ensures.result_value) _ _ c.settle-settled.ensures
    (not_erred _ _ c.is_err.ensures.value c.if-is_err.false)
