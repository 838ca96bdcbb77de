-- `two::two_sew_on` meets its contract: the geometry test, then the link of the two sides. Assumes nothing.
use Rattle.sew_ground.proofs.SideLaws.{near_below, end_below, slot_lent}
use Rattle.sew_ground.proofs.EndLaws.{two_sew_bad, two_sew_good}
use Rattle.sew_two.proofs.two.two_sew_on.Goals as goal

pub bad_geometry-requires-clause-lent : goal.bad_geometry-requires-clause-lent
bad_geometry-requires-clause-lent c =
    let w = c.requires.well_formed.0 in
    let v = c.requires.rows_in_bounds.0 in
    let x = c.requires.rows_in_bounds.1 in (
      slot_lent _ _ c.args.vertices.now c.args.coordinates.now (near_below _ _ _ w c.requires.well_formed.1.below c.side_at-l.ensures.value) v x,
      slot_lent _ _ c.args.vertices.now c.args.coordinates.now (end_below _ _ _ w c.requires.well_formed.2.below c.side_at-r.ensures.value) v x,
    )

pub bad_geometry-requires-clause-lent_2 : goal.bad_geometry-requires-clause-lent_2
bad_geometry-requires-clause-lent_2 c =
    let w = c.requires.well_formed.0 in
    let v = c.requires.rows_in_bounds.0 in
    let x = c.requires.rows_in_bounds.1 in (
      slot_lent _ _ c.args.vertices.now c.args.coordinates.now (end_below _ _ _ w c.requires.well_formed.1.below c.side_at-l.ensures.value) v x,
      slot_lent _ _ c.args.vertices.now c.args.coordinates.now (near_below _ _ _ w c.requires.well_formed.2.below c.side_at-r.ensures.value) v x,
    )

pub returns-then-bad_geometry-clause-plan_after : goal.returns-then-bad_geometry-clause-plan_after
returns-then-bad_geometry-clause-plan_after c =
    two_sew_bad _ _ _ _ _ _ _ _ c.side_at-l.ensures.value c.side_at-r.ensures.value _ c.bad_geometry.ensures c.if-bad_geometry.true

pub returns-clause-plan_after : goal.returns-clause-plan_after
returns-clause-plan_after c =
    two_sew_good _ _ _ _ _ _ _ _ c.side_at-l.ensures.value c.side_at-r.ensures.value _ c.bad_geometry.ensures
    c.if-bad_geometry.false _ _ _ c.link_sides.ensures
