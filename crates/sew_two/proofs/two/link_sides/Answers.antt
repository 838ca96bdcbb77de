-- `two::link_sides` meets its contract: each return is one of the ways in which the link of two sides ends. Assumes nothing.
use native.Mathlib.Omega.{arith}
use mathlib.Core.Path.{refl}
use Rattle.sew_ground.proofs.OneLaws.{handed_on, erred, not_erred, asks_unlink}
use Rattle.sew_ground.proofs.OneRows.{core_linked}
use Rattle.sew_ground.proofs.EndLaws.{sides_refused, sides_tight, sides_done}
use Rattle.sew_two.proofs.two.link_sides.Goals as goal

pub returns-in_err-link_core : goal.returns-in_err-link_core
returns-in_err-link_core c =
    rw (handed_on _ c.in_err-link_core.was c.from_residual.ensures.1) (sides_refused _ _ _ _ _ _ _ _ c.in_err-link_core.ensures refl)

pub unlink_core-requires : goal.unlink_core-requires
unlink_core-requires c =
    asks_unlink _ 2 _ (core_linked _ 2 _ _ _ _ c.requires.0 (omega arith) (omega arith) c.requires.1 c.requires.2
    c.link_core.ensures) (omega arith) (omega arith) (omega (arith, c.requires.1.below, c.link_core.auto.rows))

pub returns-then-is_err : goal.returns-then-is_err
returns-then-is_err c =
    sides_tight _ _ _ _ _ _ _ _ c.in_ok-link_core.ensures c.requires.0 c.requires.1 c.requires.2 refl _
    c.two_items.ensures _ _ c.settle-settled.ensures _ _ c.unlink_core.ensures (erred _ _ c.is_err.ensures.value c.if-is_err.true)

pub returns-else-is_err : goal.returns-else-is_err
returns-else-is_err c =
    sides_done _ _ _ _ _ _ _ _ c.in_ok-link_core.ensures c.requires.0 c.requires.1 c.requires.2 refl _
    c.two_items.ensures _ _ c.settle-settled.ensures (not_erred _ _ c.is_err.ensures.value c.if-is_err.false)
