-- `three::three_unsew_on` meets its contract: each return is one of the ways in which a 3-unsew ends. Assumes nothing.
use native.Mathlib.Omega.{arith}
use mathlib.Core.Path.{refl}
use Rattle.sew_ground.proofs.OneLaws.{handed_on, erred, not_erred}
use Rattle.sew_ground.proofs.SideLaws.{clean_on}
use Rattle.sew_pairs.proofs.UnsewLaws.{three_refused, three_ready, three_tight, three_done}
use Rattle.sew_three.proofs.three.three_unsew_on.Goals as goal

pub returns-in_err-rd-clause-plan_after : goal.returns-in_err-rd-clause-plan_after
returns-in_err-rd-clause-plan_after c =
    rw (handed_on _ c.in_err-rd.was c.from_residual.ensures.1) (three_refused _ _ _ _ c.in_err-rd.ensures c.requires.0 c.requires.1 _ refl)

pub invariant_of-settle_splits : goal.invariant_of-settle_splits
invariant_of-settle_splits c =
    let h = three_ready _ _ _ _ c.in_ok-rd.ensures c.requires.0 c.requires.1 refl _ refl in
    record { formed = h.0 }

pub settle_splits-settled-requires : goal.settle_splits-settled-requires
settle_splits-settled-requires c =
    let h = three_ready _ _ _ _ c.in_ok-rd.ensures c.requires.0 c.requires.1 refl _ refl in
    (h.2, h.4, clean_on c.args.rows.now c.three_unlink_on.new.rows _ _ c.three_unlink_on.auto.rows c.requires.2)

pub three_link_on-requires : goal.three_link_on-requires
three_link_on-requires c =
    let h = three_ready _ _ _ _ c.in_ok-rd.ensures c.requires.0 c.requires.1 refl _ refl in
    (h.0, omega (arith, h.1), omega (arith, h.2), omega (arith, h.1, h.3), omega (arith, h.2, h.4))

pub returns-then-is_err-clause-plan_after : goal.returns-then-is_err-clause-plan_after
returns-then-is_err-clause-plan_after c =
    three_tight _ _ _ _ c.in_ok-rd.ensures c.requires.0 c.requires.1 refl _ refl _ _ _
    c.settle_splits-settled.ensures.plan_after _ _ c.three_link_on.ensures (erred _ _ c.is_err.ensures.value c.if-is_err.true)

pub returns-else-is_err-clause-plan_after : goal.returns-else-is_err-clause-plan_after
returns-else-is_err-clause-plan_after c =
    three_done _ _ _ _ c.in_ok-rd.ensures c.requires.0 c.requires.1 refl _ refl _ _ _
    c.settle_splits-settled.ensures.plan_after (not_erred _ _ c.is_err.ensures.value c.if-is_err.false)
