-- `one::one_unsew_on` meets its contract: each return is one of the ways in which a 1-unsew ends. Assumes nothing.
use native.Mathlib.Omega.{arith}
use Rattle.std.specs.Prelude.{◌≡◌}
use mathlib.Core.Path.{refl, ◌∙◌}
use Rattle.map_betas.specs.Betas.{beta}
use Rattle.sew_ground.proofs.EntryLaws.{alone}
use Rattle.sew_ground.proofs.OneLaws.{handed_on, erred, not_erred}
use Rattle.sew_ground.proofs.OneRows.{one_unlinked}
use Rattle.sew_ground.proofs.SideLaws.{clean_on}
use Rattle.sew_ground.proofs.EndLaws.{one_unsew_refused, one_unsew_dart, one_unsew_tight, one_unsew_done}
use Rattle.sew_one.proofs.one.one_unsew_on.Goals as goal
use Rattle.sew_one.proofs.one.one_unsew_on.Goals.{In_ok-rd}

-- the dart that was answered
answered : (c : In_ok-rd) → c.in_ok-rd.field-0.value ≡ beta c.args.rows.now 1 c.args.ld
answered c = one_unsew_dart _ c.args.plan.now _ _ _ c.in_ok-rd.ensures c.requires.0 refl _ refl

pub returns-in_err-rd-clause-plan_after : goal.returns-in_err-rd-clause-plan_after
returns-in_err-rd-clause-plan_after c =
    rw (handed_on _ c.in_err-rd.was c.from_residual.ensures.1) (one_unsew_refused _ _ _ _ _ c.in_err-rd.ensures refl)

pub invariant_of-one_item : goal.invariant_of-one_item
invariant_of-one_item c = record { formed = one_unlinked _ _ _ _ c.requires.0 c.one_unlinks.ensures }

pub one_item-item-requires : goal.one_item-item-requires
one_item-item-requires c = (
  omega (arith, c.requires.1.below, c.one_unlinks.auto.rows),
  omega (arith, answered (goal.at.one_item-item-requires c).In_ok-rd, c.requires.0.below 1 c.args.ld, c.one_unlinks.auto.rows),
  clean_on c.args.rows.now c.one_unlinks.new.rows _ _ c.one_unlinks.auto.rows c.requires.2,
)

pub link_again-requires : goal.link_again-requires
link_again-requires c = (
  one_unlinked _ _ _ _ c.requires.0 c.one_unlinks.ensures,
  omega (arith, c.requires.1.below, c.one_unlinks.auto.rows),
  omega (arith, answered (goal.at.link_again-requires c).In_ok-rd, c.requires.0.below 1 c.args.ld, c.one_unlinks.auto.rows),
)

pub returns-then-is_err-clause-plan_after : goal.returns-then-is_err-clause-plan_after
returns-then-is_err-clause-plan_after c =
    one_unsew_tight _ _ _ _ _ c.in_ok-rd.ensures c.requires.0 refl _ refl _
    (alone c.one_item-item.result ∙ c.one_item-item.ensures.result_value) _ _ c.settle-settled.ensures _ c.link_again.ensures
    (erred _ _ c.is_err.ensures.value c.if-is_err.true)

pub returns-else-is_err-clause-plan_after : goal.returns-else-is_err-clause-plan_after
returns-else-is_err-clause-plan_after c =
    one_unsew_done _ _ _ _ _ c.in_ok-rd.ensures c.requires.0 refl _ refl _
    (alone c.one_item-item.result ∙ c.one_item-item.ensures.result_value) _ _ c.settle-settled.ensures
    (not_erred _ _ c.is_err.ensures.value c.if-is_err.false)
