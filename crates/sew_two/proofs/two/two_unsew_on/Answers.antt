-- `two::two_unsew_on` meets its contract: each return is one of the ways in which a 2-unsew ends. Assumes nothing.
use native.Mathlib.Omega.{arith}
use mathlib.Core.Path.{refl, ◌≡◌}
use Rattle.map_betas.specs.Betas.{beta}
use Rattle.sew_ground.proofs.OneLaws.{handed_on, erred, not_erred, asks_link}
use Rattle.sew_ground.proofs.OneRows.{core_unlinked}
use Rattle.sew_ground.proofs.SideLaws.{clean_same, clean_on}
use Rattle.sew_ground.proofs.EndLaws.{two_unsew_refused, two_unsew_dart, two_unsew_tight, two_unsew_done}
use Rattle.sew_two.proofs.two.two_unsew_on.Goals as goal
use Rattle.sew_two.proofs.two.two_unsew_on.Goals.{In_ok-rd}

-- the dart that was answered
answered : (c : In_ok-rd) → c.in_ok-rd.field-0.value ≡ beta c.args.rows.now 2 c.args.ld
answered c = two_unsew_dart _ c.args.plan.now _ _ _ c.in_ok-rd.ensures c.requires.0 refl _ refl

pub returns-in_err-rd-clause-plan_after : goal.returns-in_err-rd-clause-plan_after
returns-in_err-rd-clause-plan_after c =
    rw (handed_on _ c.in_err-rd.was c.from_residual.ensures.1) (two_unsew_refused _ _ _ _ _ c.in_err-rd.ensures refl)

pub invariant_of-lent : goal.invariant_of-lent
invariant_of-lent c = record { formed = core_unlinked _ 2 _ _ _ c.requires.0 (omega arith) (omega arith) c.unlink_core.ensures }

pub side_at-l-requires : goal.side_at-l-requires
side_at-l-requires c = (
  omega (arith, c.requires.1.below, c.unlink_core.auto.rows),
  clean_on c.args.rows.now c.unlink_core.new.rows _ _ c.unlink_core.auto.rows c.requires.2,
)

pub side_at-r-requires : goal.side_at-r-requires
side_at-r-requires c = (
  omega (arith, answered (goal.at.side_at-r-requires c).In_ok-rd, c.requires.0.below 2 c.args.ld, c.unlink_core.auto.rows),
  clean_same _ _ _ _ _ (clean_on c.args.rows.now c.unlink_core.new.rows _ _ c.unlink_core.auto.rows
      c.requires.2) c.side_at-l.ensures.marks_unchanged.0 c.side_at-l.ensures.marks_unchanged.1,
)

pub link_core-requires : goal.link_core-requires
link_core-requires c =
    asks_link _ 2 _ _ (core_unlinked _ 2 _ _ _ c.requires.0 (omega arith) (omega arith) c.unlink_core.ensures) (omega arith) (omega arith)
    (omega (arith, c.requires.1.below, c.unlink_core.auto.rows))
    (omega (arith, answered (goal.at.link_core-requires c).In_ok-rd, c.requires.0.below 2 c.args.ld, c.unlink_core.auto.rows))

pub returns-then-is_err-clause-plan_after : goal.returns-then-is_err-clause-plan_after
returns-then-is_err-clause-plan_after c =
    two_unsew_tight _ _ _ _ _ c.in_ok-rd.ensures c.requires.0 refl _ refl _ _
    c.side_at-l.ensures.value c.side_at-r.ensures.value _ c.two_items.ensures _ _ c.settle-settled.ensures
    _ _ c.link_core.ensures (erred _ _ c.is_err.ensures.value c.if-is_err.true)

pub returns-else-is_err-clause-plan_after : goal.returns-else-is_err-clause-plan_after
returns-else-is_err-clause-plan_after c =
    two_unsew_done _ _ _ _ _ c.in_ok-rd.ensures c.requires.0 refl _ refl _ _
    c.side_at-l.ensures.value c.side_at-r.ensures.value _ c.two_items.ensures _ _ c.settle-settled.ensures
    (not_erred _ _ c.is_err.ensures.value c.if-is_err.false)
