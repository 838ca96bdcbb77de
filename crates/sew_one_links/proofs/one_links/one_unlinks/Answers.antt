-- `one_links::one_unlinks` meets its contract: each return is one of the ways out of `one_unlinks`. Assumes nothing.
use native.Mathlib.Omega.{arith}
use mathlib.Core.Path.{refl, ◌≡◌}
use Rattle.map_betas.specs.Betas.{beta}
use Rattle.sew_ground.proofs.OneLaws.{handed_on, asks_link, first_unlinked, unlinked_dart, unlinks_refused, unlinks_stray, unlinks_done}
use Rattle.sew_one_links.proofs.one_links.one_unlinks.Goals as goal
use Rattle.sew_one_links.proofs.one_links.one_unlinks.Goals.{In_ok-parted}

-- the dart that was answered
answered : (c : In_ok-parted) → c.in_ok-parted.parted.value ≡ beta c.args.rows.now 1 c.args.ld
answered c = unlinked_dart _ 1 _ _ _ _ c.requires.0 (omega arith) (omega arith) c.in_ok-parted.ensures refl refl

pub returns-in_err-parted : goal.returns-in_err-parted
returns-in_err-parted c =
    rw (handed_on _ c.in_err-parted.was c.from_residual.ensures.1) (unlinks_refused _ _ _ _ c.in_err-parted.ensures refl)

pub agree-requires : goal.agree-requires
agree-requires c = (
  first_unlinked _ _ _ _ c.requires.0 c.unlink_core.ensures,
  omega (arith, c.requires.1.below, c.unlink_core.auto.rows),
  omega (arith, answered c, c.requires.0.below 1 c.args.ld, c.unlink_core.auto.rows),
)

pub link_core-requires : goal.link_core-requires
link_core-requires c =
    asks_link _ 1 _ _ (first_unlinked _ _ _ _ c.requires.0 c.unlink_core.ensures) (omega arith) (omega arith)
    (omega (arith, c.requires.1.below, c.unlink_core.auto.rows))
    (omega (arith, answered (goal.at.link_core-requires c).In_ok-parted, c.requires.0.below 1 c.args.ld, c.unlink_core.auto.rows))

pub returns-then-not-agree : goal.returns-then-not-agree
returns-then-not-agree c =
    unlinks_stray _ _ _ _ c.in_ok-parted.ensures _ refl (answered (goal.at.returns-then-not-agree c).In_ok-parted) _ _ _ c.requires.0
    c.agree.ensures c.if-not-agree.true c.link_core.ensures

pub cut_second-requires : goal.cut_second-requires
cut_second-requires c = (
  first_unlinked _ _ _ _ c.requires.0 c.unlink_core.ensures,
  omega (arith, c.requires.1.below, c.unlink_core.auto.rows),
  omega (arith, answered (goal.at.cut_second-requires c).In_ok-parted, c.requires.0.below 1 c.args.ld, c.unlink_core.auto.rows),
)

pub returns : goal.returns
returns c =
    unlinks_done _ _ _ _ c.in_ok-parted.ensures _ refl (answered (goal.at.returns c).In_ok-parted) _ _ c.agree.ensures
    c.if-not-agree.false c.cut_second.ensures
